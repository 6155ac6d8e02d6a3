-- The answer to a line is what reading it and then writing its record prescribe, and no other; and it is short.
use Rattle.std.specs.Prelude.{ℕ, ◌^◌, ◌≤◌, ◌<◌, ◌≡◌, List, Bool, length}
use Rattle.std.proofs.Math.Path.{refl, sym, ap}
use Rattle.std.proofs.Common.{◌∙◌, arith, length-append}
use Rattle.std.proofs.Math.Bool.{true, false}
use Rattle.std.proofs.Math.Dec.{leb}
use borrow.Author.Tests.{leb-true, leb-false}
use Rattle.texts.proofs.Tests.{clash}
use Rattle.texts.proofs.Best.{best_length}
use Rattle.lent.specs.Put.{put, put_front}
use Rattle.numerals.specs.Digits.{val}
use Rattle.numerals.proofs.Decimals.{dec_short}
use Rattle.numerals.specs.Reading.{fits}
use Rattle.record.specs.declared.HgvsVariant.{HgvsVariant}
use Rattle.grammar.specs.Texts.{print, all_letters}
use Rattle.grammar.specs.Contents.{content}
use Rattle.lang_bodies.proofs.TextOutcome.{text_outcome}
use Rattle.lang_bodies.proofs.Outcomes.{outcome_read, read_outcome_lem}
use Rattle.promise.specs.Outcome.{Outcome, Outcome.given, Outcome.refused, limit}
use Rattle.promise.specs.Reading.{Reads, Reads.too_long, Reads.not_in_grammar, Reads.does_not_fit, Reads.accepted}
use Rattle.promise.specs.Writing.{ShortestText, Unsound, Unsound.too_long, Unsound.bad_span, Unsound.no_text, Writes, ToWrite}
use Rattle.grammar.proofs.SpanLaw.{spans_in_text}
use Rattle.grammar.proofs.PlaceLaw.{place_in_text}
use Rattle.promise.proofs.Accepted.{reads_content}
use Rattle.lang_canon.proofs.TextCanon.{Shortest, reads_canon, shortest_only}
use Rattle.lang_na_edits.proofs.Alphabet.{alphabets}
use Rattle.lines.specs.Lines.{Held, Held.whole, Held.too_long, held}
use Rattle.lines.proofs.HeldLines.{held_fits, held_long}
use Rattle.line_promise.specs.LineAnswers.{refusal, LineAnswer, LineAnswer.text, LineAnswer.number}
use Rattle.line_promise.specs.Computed.{of_outcome, line_answer}

pub refusal_short : (n place : ℕ) → n < 2 ^ 32 → place < 2 ^ 32 → length (refusal n place) ≤ limit
unfolding refusal
refusal_short n place h k = simp length-append (omega (arith, dec_short n h, dec_short place k))

module _ (l : List ℕ) where
  -- ---- what reading says
  answer_is : {o : Outcome HgvsVariant} → Reads all_letters l o → line_answer (whole l) ≡ of_outcome l o
  unfolding line_answer
  answer_is r = rw (read_outcome_lem all_letters alphabets l r)

  pub refused_answer : (n place : ℕ) → Reads all_letters l (refused n place) → line_answer (whole l) ≡ refusal n place
  refused_answer n place r = answer_is r

  -- the text that canon gives for a record that was read
  canonical : (v : HgvsVariant) → Reads all_letters l (given v) → Shortest all_letters alphabets (content l v) l
  canonical v r = reads_canon all_letters alphabets (content l v) l (reads_content all_letters l v r)

  pub text_answer_lem : (v : HgvsVariant) → Reads all_letters l (given v) → (t : List ℕ) → ShortestText all_letters t (content l v) → t ≡ line_answer (whole l)
  text_answer_lem v r t s = let c = canonical v r in shortest_only all_letters alphabets (content l v) c.tree c.found t s ∙ sym (answer_is r ∙ rw c.found)

  -- ---- and there is one
  pub answers_some : LineAnswer l (line_answer (whole l))
  unfolding line_answer
  answers_some = go (text_outcome all_letters alphabets l) (outcome_read all_letters alphabets l)
    where
      go : (o : Outcome HgvsVariant) → Reads all_letters l o → LineAnswer l (of_outcome l o)
      go (refused n place) r = number n place r
      go (given v) r = let c = canonical v r in rw c.found (text v r (print c.tree) c.shortest)

  -- a line longer than a text may be is refused as a text is
  held_or_long : line_answer (held limit l) ≡ line_answer (whole l)
  unfolding line_answer
  held_or_long = go (leb (length l) limit) refl
    where
      go : (b : Bool) → leb (length l) limit ≡ b → line_answer (held limit l) ≡ line_answer (whole l)
      go true e = rw (held_fits limit l (leb-true (length l) limit e))
      go false e = let h = leb-false (length l) limit e in ap line_answer (held_long limit l h) ∙ sym (refused_answer 1 0 (Reads.too_long h))

  -- of a line of any length: it has an answer, and no other
  pub line_answers : LineAnswer l (line_answer (held limit l))
  line_answers = rw held_or_long answers_some

  pub answers_only : {a : List ℕ} → LineAnswer l a → a ≡ line_answer (held limit l)
  answers_only (text v r t s) = text_answer_lem v r t s ∙ sym held_or_long
  answers_only (number n place r) = sym (held_or_long ∙ refused_answer n place r)

  -- ---- how long it is
  accepted_short : (v : HgvsVariant) → Reads all_letters l (given v) → length l ≤ limit
  accepted_short v (accepted h x w f) = h

  pub refused_small : (n place : ℕ) → Reads all_letters l (refused n place) → (n < 2 ^ 32) × (place < 2 ^ 32)
  refused_small n place (Reads.too_long h) = (omega arith, omega arith)
  refused_small n place (not_in_grammar h g) = (omega arith, omega arith)
  refused_small n place (does_not_fit h x w p e) = (omega arith, omega (arith, place_in_text (λ sign ds. fits sign (val ds)) all_letters x w.wf p e, ap length w.text))

  answers_short : {a : List ℕ} → LineAnswer l a → length a ≤ limit
  answers_short (text v r t s) = omega (arith, best_length (s.best l (reads_content all_letters l v r)), accepted_short v r)
  answers_short (number n place r) = let m = refused_small n place r in refusal_short n place m.0 m.1

  -- ---- writing the record of a line gives the answer, where there is room for a text
  unsound_read : (v : HgvsVariant) → Reads all_letters l (given v) → (n : ℕ) → Unsound all_letters l v n → ⊥
  unsound_read v (accepted h x w f) n (Unsound.too_long k) = omega arith
  unsound_read v (accepted h x w f) n (bad_span k p) = clash (rw w.text at (spans_in_text x)) p
  unsound_read v (accepted h x w f) n (no_text k p g) = g l (reads_content all_letters l v (accepted h x w f))

  pub written_answer : (v : HgvsVariant) → Reads all_letters l (given v) → {room after : List ℕ} {o : Outcome ℕ} → limit ≤ length room
      → Writes all_letters (ToWrite all_letters) l v room o after → (o ≡ given (length (line_answer (whole l)))) × (after ≡ put room 0 (line_answer (whole l)))
  written_answer v r h (Writes.unsound n u) = absurd (unsound_read v r n u)
  written_answer v r h (Writes.too_long s t y k) = absurd (omega (arith, answers_short (text v r t y)))
  written_answer v r h (Writes.no_room s t y k m) = absurd (omega (arith, answers_short (text v r t y)))
  written_answer v r {room} h (Writes.written s t y k m) = let e = text_answer_lem v r t y in (ap (λ (a : List ℕ). given (length a)) e, rw (← e) (sym (put_front room t)))

pub answer_short : (h : Held) → length (line_answer h) ≤ limit
unfolding line_answer
answer_short too_long = refusal_short 1 0 (omega arith) (omega arith)
answer_short (whole l) = answers_short l (answers_some l)
