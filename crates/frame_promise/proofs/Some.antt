-- Every text has an answer, every call an outcome, and every stream can be fed.
use Rattle.std.specs.Prelude.{ℕ, ◌≡◌, refl, Bool, true, false, List, [], ◌∷◌, ◌++◌, length, drop}
use Rattle.std.proofs.Common.{arith, ap, ◌∙◌}
use Rattle.std.proofs.Math.Option.{Option, none, some}
use Rattle.grammar.specs.Texts.{all_letters}
use Rattle.lang_na_edits.proofs.Alphabet.{alphabets}
use Rattle.lang_bodies.proofs.TextOutcome.{text_outcome}
use Rattle.lang_bodies.proofs.Outcomes.{outcome_read}
use Rattle.promise.specs.Outcome.{Outcome.refused, limit}
use Rattle.promise.specs.Reading.{Reads}
use Rattle.lines.specs.Lines.{Held, Held.whole, Held.too_long}
use Rattle.frames.specs.Frames.{text_of}
use Rattle.frames.specs.Taking.{fresh, Standing, takes, gathered}
use Rattle.frames.proofs.Calls.{used_within, used_some}
use Rattle.frames.proofs.Room.{takes_room}
use Rattle.frame_promise.specs.FrameAnswers.{Answer, TextAnswer, TextAnswer.bad_line, TextAnswer.read, Says, Says.says_bad, Says.says_long, Says.says_read, Reply, Gives.silent, Gives.answered, Feeds, replies, Feeding, Feeding.done, Feeding.call}

reads_some : (t : List ℕ) → (a : Answer) × Reads all_letters t a
reads_some t = (text_outcome all_letters alphabets t, outcome_read all_letters alphabets t)

pub every_text : (ls : List (List ℕ)) → (a : Answer) × TextAnswer ls a
every_text ls = go (text_of ls) refl
  where
    go : (o : Option (List ℕ)) → text_of ls ≡ o → (a : Answer) × TextAnswer ls a
    go none e = (refused 8 0, bad_line e)
    go (some t) e = let r = reads_some t in (r.0, read e r.1)

says_some : (h : Option Held) → (a : Answer) × Says h a
says_some none = (refused 8 0, says_bad)
says_some (some too_long) = (refused 1 0, says_long)
says_some (some (whole t)) = let r = reads_some t in (r.0, says_read r.1)

-- with a buffer of 4,096 bytes
pub every_call : (g : Standing) → length g.buffer ≡ limit → (piece : List ℕ) → (used : ℕ) × (len : ℕ) × (answer : Option Answer) × (after : Standing) × Feeds g piece used len answer after
every_call g room piece = go (takes g piece).ended refl
  where
    go : (b : Bool) → (takes g piece).ended ≡ b → (used : ℕ) × (len : ℕ) × (answer : Option Answer) × (after : Standing) × Feeds g piece used len answer after
    go false e = ((takes g piece).used, (takes g piece).at.state.len, none, (takes g piece).at, record { room_is = room; used_is = refl; len_is = refl; gives = silent e; buffer_is = refl })
    go true e =
        let a = says_some (gathered (takes g piece).at) in (
          (takes g piece).used,
          (takes g piece).at.state.len,
          some a.0,
          record { state = fresh; buffer = (takes g piece).at.buffer },
          record { room_is = room; used_is = refl; len_is = refl; gives = answered e a.1; buffer_is = refl },
        )

-- byte by byte, say
pub every_feeding : (g : Standing) → length g.buffer ≡ limit → (s : List ℕ) → (ts : List Reply) × (end : Standing) × Feeding g s ts end
every_feeding g room [] = ([], g, done room)
every_feeding g room (b ∷ s) =
    let c = every_call g room (b ∷ []) in
    let f = c.4 in
    let one : c.0 ≡ 1 = omega (arith, f.used_is, used_within g (b ∷ []), used_some g (b ∷ []) (omega arith)) in
    let more = every_feeding c.3 (ap length f.buffer_is ∙ takes_room g (b ∷ []) ∙ room) s in
    let next : Feeding c.3 (drop c.0 (b ∷ []) ++ s) more.0 more.1 = rw one more.2 in
    (replies c.2 c.1 c.3 ++ more.0, more.1, call (b ∷ []) s f next)
