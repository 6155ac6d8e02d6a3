-- An operation on a text has one answer, and leaves one output.
use Rattle.std.specs.Prelude.{ℕ, ◌≡◌, refl, List, Bool, true, false}
use Rattle.std.proofs.Common.{ap}
use Rattle.texts.proofs.Tests.{clash}
use Rattle.record.specs.declared.HgvsVariant.{HgvsVariant}
use Rattle.grammar.specs.Texts.{all_letters}
use Rattle.grammar.specs.Values.{Value}
use Rattle.promise.specs.Outcome.{Outcome, Outcome.given, Outcome.refused}
use Rattle.promise.specs.Reading.{Reads}
use Rattle.promise.specs.Writing.{ToWrite}
use Rattle.promise.specs.NoRef.{NoRefText}
use Rattle.promise.proofs.Unique.{reads_unique, writes_unique, measures_unique, one_shortest, one_no_ref}
use Rattle.lang_na_edits.proofs.Alphabet.{alphabets}
use Rattle.lang_bodies.proofs.WholeText.{unambiguous}
use Rattle.numbered.specs.declared.Answer.{Answer}
use Rattle.numbered.specs.Numbered.{numbered, read_numbers}
use Rattle.numbered.specs.TextOperations.{Checks, Rewrites, Gauges}

one_outcome : (t : List ℕ) (a b : Outcome HgvsVariant) → Reads all_letters t a → Reads all_letters t b → a ≡ b
one_outcome = reads_unique all_letters (unambiguous all_letters alphabets)

abbrev is_refused : Outcome HgvsVariant → Bool
is_refused (refused n place) = true
is_refused (given v) = false

refused_given : {n place : ℕ} {v : HgvsVariant} → ◌≡◌ {A = Outcome HgvsVariant} (refused n place) (given v) → ⊥
refused_given e = clash refl (ap is_refused e)

one_record : (t : List ℕ) (v w : HgvsVariant) → Reads all_letters t (given v) → Reads all_letters t (given w) → v ≡ w
one_record t v w r s = let e = one_outcome t (given v) (given w) r s in cc

pub one_check_answer : (t : List ℕ) (a b : Answer) → Checks t a → Checks t b → a ≡ b
one_check_answer t a b (Checks.checked o r) (Checks.checked q s) = ap read_numbers (one_outcome t o q r s)

module _ (T : Value → List ℕ → Type 0) (one_text : (v : Value) (t u : List ℕ) → T v t → T v u → t ≡ u) (t output : List ℕ) where
  rewrites_unique : (a b : Answer) (o p : List ℕ) → Rewrites T t output a o → Rewrites T t output b p → (a ≡ b) × (o ≡ p)
  rewrites_unique a b o p (Rewrites.unread n k r) (Rewrites.unread m l s) = let e = one_outcome t (refused n k) (refused m l) r s in (cc, refl)
  rewrites_unique a b o p (Rewrites.unread n k r) (Rewrites.written w s c q y) = absurd (refused_given (one_outcome t (refused n k) (given w) r s))
  rewrites_unique a b o p (Rewrites.written v r d z x) (Rewrites.unread m l s) = absurd (refused_given (one_outcome t (refused m l) (given v) s r))
  rewrites_unique a b o p (Rewrites.written v r d z x) (Rewrites.written w s c q y) =
      let h = writes_unique all_letters T one_text t v output d c z q x (rw (one_record t v w r s) y) in
      (ap numbered h.0, h.1)

pub one_shortest_answer : (t output : List ℕ) (a b : Answer) (o p : List ℕ) → Rewrites (ToWrite all_letters) t output a o → Rewrites (ToWrite all_letters) t output b p → (a ≡ b) × (o ≡ p)
one_shortest_answer = rewrites_unique (ToWrite all_letters) (one_shortest all_letters)

pub one_noref_answer : (t output : List ℕ) (a b : Answer) (o p : List ℕ) → Rewrites (NoRefText all_letters) t output a o → Rewrites (NoRefText all_letters) t output b p → (a ≡ b) × (o ≡ p)
one_noref_answer = rewrites_unique (NoRefText all_letters) (one_no_ref all_letters)

pub one_width_answer : (t : List ℕ) (a b : Answer) → Gauges t a → Gauges t b → a ≡ b
one_width_answer t a b (Gauges.unread n k r) (Gauges.unread m l s) = let e = one_outcome t (refused n k) (refused m l) r s in cc
one_width_answer t a b (Gauges.unread n k r) (Gauges.measured w s c y) = absurd (refused_given (one_outcome t (refused n k) (given w) r s))
one_width_answer t a b (Gauges.measured v r d x) (Gauges.unread m l s) = absurd (refused_given (one_outcome t (refused m l) (given v) s r))
one_width_answer t a b (Gauges.measured v r d x) (Gauges.measured w s c y) = ap numbered (measures_unique all_letters t v d c x (rw (one_record t v w r s) y))
