-- A text has one answer, and a call one outcome.
use Rattle.std.specs.Prelude.{ℕ, ◌≡◌, refl, List}
use Rattle.std.proofs.Common.{sym, ap, ◌∙◌}
use Rattle.std.proofs.Math.Option.{Option, some}
use Rattle.texts.proofs.Tests.{clash, none_some}
use Rattle.grammar.specs.Texts.{all_letters}
use Rattle.lang_na_edits.proofs.Alphabet.{alphabets}
use Rattle.lang_bodies.proofs.WholeText.{unambiguous}
use Rattle.promise.specs.Reading.{Reads}
use Rattle.promise.proofs.Unique.{reads_unique}
use Rattle.lines.specs.Lines.{Held}
use Rattle.frames.specs.declared.FrameState.{FrameState}
use Rattle.frames.specs.Taking.{Standing, Took}
use Rattle.frame_promise.specs.FrameAnswers.{Answer, TextAnswer, TextAnswer.bad_line, TextAnswer.read, Says, Says.says_bad, Says.says_long, Says.says_read, Gives, Gives.silent, Gives.answered, Feeds}

same_reading : (t : List ℕ) (a b : Answer) → Reads all_letters t a → Reads all_letters t b → a ≡ b
same_reading = reads_unique all_letters (unambiguous all_letters alphabets)

pub same_said : {h : Option Held} {a b : Answer} → Says h a → Says h b → a ≡ b
same_said says_bad says_bad = refl
same_said says_long says_long = refl
same_said {a = a} {b = b} (says_read {t} r) (says_read s) = same_reading t a b r s

pub one_text_answer : {ls : List (List ℕ)} {a b : Answer} → TextAnswer ls a → TextAnswer ls b → a ≡ b
one_text_answer (bad_line e) (bad_line f) = refl
one_text_answer (bad_line e) (read f r) = absurd (none_some (sym e ∙ f))
one_text_answer (read e r) (bad_line f) = absurd (none_some (sym f ∙ e))
one_text_answer {a = a} {b = b} (read {t} e r) (read {t = u} f s) = let z : t ≡ u = (let y : some t ≡ some u = sym e ∙ f in cc) in same_reading u a b (rw z at r) s

same_gives : {t : Took} {a b : Option Answer} {s u : FrameState} → Gives t a s → Gives t b u → (a ≡ b) × (s ≡ u)
same_gives (silent e) (silent f) = (refl, refl)
same_gives (silent e) (answered f x) = absurd (clash f e)
same_gives (answered e x) (silent f) = absurd (clash e f)
same_gives (answered e x) (answered f y) = (ap (λ (o : Answer). some o) (same_said x y), refl)

pub same_standing : {s u : FrameState} {b c : List ℕ} → s ≡ u → b ≡ c → ◌≡◌ {A = Standing} (record { state = s; buffer = b }) (record { state = u; buffer = c })
same_standing p q = rw (p, q)

pub one_call : {g : Standing} {piece : List ℕ} {m n k l : ℕ} {a b : Option Answer} {x y : Standing} → Feeds g piece m k a x → Feeds g piece n l b y → (m ≡ n) × (k ≡ l) × (a ≡ b) × (x ≡ y)
one_call f h =
    let q = same_gives f.gives h.gives in
    (f.used_is ∙ sym h.used_is, f.len_is ∙ sym h.len_is, q.0, same_standing q.1 (f.buffer_is ∙ sym h.buffer_is))
