-- Writing a record has one answer and leaves one output: shortest, and without the reference.
use Rattle.std.specs.Prelude.{ℕ, ◌≡◌, List}
use Rattle.record.specs.Named.{WriteAnswer}
use Rattle.record.specs.declared.HgvsVariant.{HgvsVariant}
use Rattle.grammar.specs.Texts.{all_letters}
use Rattle.promise.specs.Outcome.{write_outcome}
use Rattle.promise.specs.Writing.{Writes, ToWrite}
use Rattle.promise.specs.NoRef.{NoRefText}
use Rattle.promise.proofs.Unique.{one_write_answer, one_shortest, one_no_ref}

module _ (source : List ℕ) (v : HgvsVariant) (output : List ℕ) (a b : WriteAnswer) (o p : List ℕ) where
  pub one_answer : Writes all_letters (ToWrite all_letters) source v output (write_outcome a) o → Writes all_letters (ToWrite all_letters) source v output (write_outcome b) p → (a ≡ b) × (o ≡ p)
  one_answer = one_write_answer all_letters (ToWrite all_letters) (one_shortest all_letters) source v output a b o p

  pub one_noref_answer : Writes all_letters (NoRefText all_letters) source v output (write_outcome a) o → Writes all_letters (NoRefText all_letters) source v output (write_outcome b) p → (a ≡ b) × (o ≡ p)
  one_noref_answer = one_write_answer all_letters (NoRefText all_letters) (one_no_ref all_letters) source v output a b o p
