-- The replies to the texts of a stream, however it is fed: each text that an empty line ends has its answer, and stands at the buffer's front.
use Rattle.std.specs.Prelude.{ℕ, ◌+◌, ◌≤◌, ◌≡◌, true, false, length, take}
use Rattle.std.proofs.Math.Path.{refl}
use Rattle.std.proofs.Common.{sym, ap, ◌∙◌}
use mathlib.Core.List.{List, [], ◌∷◌, ◌++◌, map}
use Rattle.std.proofs.Math.Option.{Option, none, some}
use Rattle.texts.proofs.Tests.{clash, none_some}
use Rattle.texts.specs.Runs.{every}
use Rattle.grammar.specs.Texts.{all_letters}
use Rattle.promise.specs.Outcome.{Outcome.refused, limit}
use Rattle.promise.specs.Reading.{Reads, Reads.too_long}
use Rattle.lines.specs.Lines.{line_end, Held, Held.whole, Held.too_long, held}
use Rattle.lines.specs.Taking.{in_line}
use Rattle.lines.proofs.HeldLines.{held_fits, fits_held, long_held}
use Rattle.frames.specs.declared.FrameState.{FrameState}
use Rattle.frames.specs.Frames.{text_of, Lines, Lines.nothing, Stream, Stream.text, Stream.unfinished}
use Rattle.frames.specs.Taking.{fresh, Standing, Took, takes, gathered}
use Rattle.frames.specs.Gathering.{gathered_in}
use Rattle.frames.proofs.Gathering.{whole_front}
use Rattle.frames.specs.Streams.{start_in}
use Rattle.frames.proofs.Streams.{text_taken, part_taken, stream_passes}
use Rattle.frames.specs.Spelling.{Framed, sent}
use Rattle.frames.proofs.Spelling.{framed_text, framed_lines}
use Rattle.frame_promise.specs.FrameAnswers.{Answer, TextAnswer, TextAnswer.bad_line, TextAnswer.read, Reply, TextReply, AllReplied, AllReplied.no_text, AllReplied.next_text, Says, Says.says_bad, Says.says_long, Says.says_read, Gives, Gives.silent, Gives.answered, Feeds, Feeding}
use Rattle.frame_promise.specs.Cuts.{AllSaid, AllSaid.nothing_said, AllSaid.next_said}
use Rattle.frame_promise.proofs.Cuts.{fed_room, fed_tells}

-- ---- one call
-- an empty line was met, or not
record Ended (t : Took) (a : Option Answer) (s : FrameState) : Type 0 where
  answer : Answer
  is : a ≡ some answer
  says : Says (gathered t.at) answer
  cleared : s ≡ fresh

at_end_lem : {t : Took} {a : Option Answer} {s : FrameState} → t.ended ≡ true → Gives t a s → Ended t a s
at_end_lem e (silent f) = absurd (clash e f)
at_end_lem e (answered {o} f x) = record { answer = o; is = refl; says = x; cleared = refl }

before_end : {t : Took} {a : Option Answer} {s : FrameState} → t.ended ≡ false → Gives t a s → a ≡ none
before_end e (silent f) = refl
before_end e (answered f x) = absurd (clash f e)

-- ---- from what is gathered of a text to the reply
record HeldReply (h : Option Held) (t : Reply) : Type 0 where
  says : Says h t.answer
  fronts : (u : List ℕ) → h ≡ some (whole u) → t.front ≡ u

held_says : (t : List ℕ) {o : Answer} (h : Held) → held limit t ≡ h → Says (some h) o → Reads all_letters t o
held_says t (whole u) e (says_read r) = rw (fits_held t e).0 r
held_says t too_long e says_long = Reads.too_long (long_held t e)

text_reply : (ls : List (List ℕ)) {t : Reply} → HeldReply (gathered_in limit (text_of ls)) t → TextReply ls t
text_reply ls {t} x = go (text_of ls) refl x
  where
    go : (p : Option (List ℕ)) → text_of ls ≡ p → HeldReply (gathered_in limit p) t → TextReply ls t
    go none e x = record { answers = bad t.answer x.says; fronts = λ u q h. absurd (none_some (sym e ∙ q)) }
      where
        bad : (o : Answer) → Says none o → TextAnswer ls o
        bad o says_bad = bad_line e
    go (some u) e x =
        record {
          answers = read e (held_says u (held limit u) refl x.says);
          fronts = λ v q h. (let y : some u ≡ some v = sym e ∙ q in let z : u ≡ v = cc in rw (← z) (x.fronts u (ap (λ (k : Held). some k) (held_fits limit u (rw z h)))));
        }

-- the texts of a stream, one by one
data AllHeld : List (Option Held) → List Reply → Type 0 where
  none_held : AllHeld [] []
  next_held : {h : Option Held} {t : Reply} {hs : List (Option Held)} {ts : List Reply} → HeldReply h t → AllHeld hs ts → AllHeld (h ∷ hs) (t ∷ ts)

said_held : {gs : List Standing} {ts : List Reply} → AllSaid gs ts → AllHeld (map gathered gs) ts
said_held nothing_said = none_held
said_held (next_said {g} x xs) = next_held (record { says = x; fronts = whole_front g }) (said_held xs)

all_replied : (texts : List (List (List ℕ))) {ts : List Reply} → AllHeld (map (λ ls. gathered_in limit (text_of ls)) texts) ts → AllReplied texts ts
all_replied [] none_held = no_text
all_replied (ls ∷ texts) (next_held x xs) = next_text (text_reply ls x) (all_replied texts xs)

module _ (buffer : List ℕ) where
  -- ---- a call with a text from its start takes it up to its empty line and no byte more, and behind that line nothing has come of the next
  pub stops_behind : {ls : List (List ℕ)} {s : List ℕ} → Lines ls s → (rest : List ℕ) {used len : ℕ} {answer : Option Answer} {after : Standing}
      → Feeds (start_in buffer) (s ++ (line_end ∷ rest)) used len answer after → (used ≡ length s + 1) × (after.state ≡ fresh)
  stops_behind lines rest f = let t = text_taken buffer lines rest in (f.used_is ∙ t.0, (at_end_lem t.1 f.gives).cleared)

  -- it gives the text's answer, and the text stands at the buffer's front
  pub answers_text : {ls : List (List ℕ)} {s : List ℕ} → Lines ls s → (rest : List ℕ) {used len : ℕ} {answer : Option Answer} {after : Standing}
      → Feeds (start_in buffer) (s ++ (line_end ∷ rest)) used len answer after → (o : Answer) × (answer ≡ some o) × TextReply ls (record { answer = o; front = take len after.buffer })
  answers_text {ls} {s} lines rest f =
      let t = text_taken buffer lines rest in
      let e = at_end_lem t.1 f.gives in
      let gathers : gathered (takes (start_in buffer) (s ++ (line_end ∷ rest))).at ≡ gathered_in limit (text_of ls) = rw f.room_is at t.2 in
      (e.answer, e.is, text_reply ls (rw (f.len_is, f.buffer_is, ← gathers) (record { says = e.says; fronts = whole_front (takes (start_in buffer) (s ++ (line_end ∷ rest))).at })))

  -- a call with a text that is not finished takes all of it, and gives no answer
  pub takes_all : {ls : List (List ℕ)} {s : List ℕ} → Lines ls s → (p : List ℕ) → every in_line p ≡ true → {used len : ℕ} {answer : Option Answer} {after : Standing}
      → Feeds (start_in buffer) (s ++ p) used len answer after → (used ≡ length (s ++ p)) × (answer ≡ none)
  takes_all lines p e f = let t = part_taken buffer lines p e in (f.used_is ∙ t.0, before_end t.1 f.gives)

  -- ---- however a stream is fed
  -- every text that an empty line ends has its answer, in turn; one that is not finished has none
  pub fed_answers : {texts : List (List (List ℕ))} {rest : List (List ℕ)} {p s : List ℕ} {ts : List Reply} {end : Standing}
      → Stream texts rest p s → Feeding (start_in buffer) s ts end → AllReplied texts ts
  fed_answers {texts} {ts = ts} stream f =
      let h : AllHeld (map (λ ls. gathered_in (length buffer) (text_of ls)) texts) ts = rw (stream_passes stream buffer) at (said_held (fed_tells f).0) in
      all_replied texts (rw (fed_room f) at h)

  pub unfinished_silent : {ls : List (List ℕ)} {p s : List ℕ} {ts : List Reply} {end : Standing} → Stream [] ls p s → Feeding (start_in buffer) s ts end → ts ≡ []
  unfinished_silent stream f = go (fed_answers stream f)
    where
      go : {ts : List Reply} → AllReplied [] ts → ts ≡ []
      go no_text = refl

  -- the reply to one text
  one_reply : {ls : List (List ℕ)} {s : List ℕ} {ts : List Reply} {end : Standing} → Lines ls s → Feeding (start_in buffer) (s ++ (line_end ∷ [])) ts end → (t : Reply) × (ts ≡ t ∷ []) × TextReply ls t
  unfolding every
  one_reply {ls} lines f = go (fed_answers (text lines (unfinished nothing refl)) f)
    where
      go : {ts : List Reply} → AllReplied (ls ∷ []) ts → (t : Reply) × (ts ≡ t ∷ []) × TextReply ls t
      go (next_text {r = r} x no_text) = (r, refl, x)

  -- one with a bad line is refused with 8, at its empty line
  pub bad_refused : {ls : List (List ℕ)} {s : List ℕ} {ts : List Reply} {end : Standing} → Lines ls s → text_of ls ≡ none → Feeding (start_in buffer) (s ++ (line_end ∷ [])) ts end
      → (t : Reply) × (ts ≡ t ∷ []) × (t.answer ≡ refused 8 0)
  bad_refused {ls} lines bad f = let o = one_reply lines f in (o.0, o.1, go o.2.answers)
    where
      go : {a : Answer} → TextAnswer ls a → a ≡ refused 8 0
      go (bad_line e) = refl
      go (read e r) = absurd (none_some (sym bad ∙ e))

  -- a text that is sent in frames anyhow has one answer, the one that reading it whole gives, and stands at the buffer's front
  pub framed_anyhow : {ls : List (List ℕ)} {t : List ℕ} {ts : List Reply} {end : Standing} → Framed ls t → Feeding (start_in buffer) (sent ls ++ (line_end ∷ [])) ts end
      → (o : Reply) × (ts ≡ o ∷ []) × Reads all_letters t o.answer × (length t ≤ limit → o.front ≡ t)
  framed_anyhow {ls} {t} framed f = let o = one_reply (framed_lines framed) f in (o.0, o.1, go o.2.answers, o.2.fronts t (framed_text framed))
    where
      go : {a : Answer} → TextAnswer ls a → Reads all_letters t a
      go (bad_line e) = absurd (none_some (sym e ∙ framed_text framed))
      go (read {t = u} e r) = let z : u ≡ t = (let y : some u ≡ some t = sym e ∙ framed_text framed in cc) in rw z at r
