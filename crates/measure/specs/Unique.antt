-- Measuring a record has one answer.
use Rattle.std.specs.Prelude.{ℕ, ◌≡◌, List}
use Rattle.record.specs.Named.{WidthAnswer}
use Rattle.record.specs.declared.HgvsVariant.{HgvsVariant}
use Rattle.grammar.specs.Texts.{all_letters}
use Rattle.promise.specs.Outcome.{width_outcome}
use Rattle.promise.specs.Width.{Measures}
use Rattle.promise.proofs.Unique.{one_width_answer}

pub one_answer : (source : List ℕ) (v : HgvsVariant) (a b : WidthAnswer) → Measures all_letters source v (width_outcome a) → Measures all_letters source v (width_outcome b) → a ≡ b
one_answer = one_width_answer all_letters
