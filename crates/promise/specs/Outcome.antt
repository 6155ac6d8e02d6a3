-- Document 01, "Numbers given back": the number and place of each refusal, and what each answer carries.
use Rattle.std.specs.Prelude.{ℕ, Ok, Err}
use Rattle.record.specs.declared.HgvsVariant.{HgvsVariant}
use Rattle.record.specs.declared.Refusal.{Refusal}
use Rattle.record.specs.declared.Refusal.TheVariants.{TooLong, NotInGrammar, DoesNotFit, BadSpan, NoText, NoRoom, NoWidth, BadLine}
use Rattle.record.specs.Named.{ReadAnswer, WriteAnswer, WidthAnswer}

-- what is given; or a refusal's number and place, and no record, length or width
pub data Outcome (A : Type 0) : Type 0 where
  given : A → Outcome A
  refused : (number place : ℕ) → Outcome A

-- the number, 0 where it is accepted
abbrev pub outcome_number : {A : Type 0} → Outcome A → ℕ
outcome_number (given a) = 0
outcome_number (refused number place) = number

-- the place; what is accepted has none, and 0 stands for it
abbrev pub outcome_place : {A : Type 0} → Outcome A → ℕ
outcome_place (given a) = 0
outcome_place (refused number place) = place

-- the length or width; 0 where it is refused
abbrev pub outcome_value : Outcome ℕ → ℕ
outcome_value (given n) = n
outcome_value (refused number place) = 0

-- each refusal's number and place, in the table's order
abbrev pub number_and_place : Refusal → ℕ × ℕ
number_and_place TooLong = (1, 0)
number_and_place NotInGrammar = (2, 0)
number_and_place (DoesNotFit place) = (3, place)
number_and_place BadSpan = (4, 0)
number_and_place NoText = (5, 0)
number_and_place NoRoom = (6, 0)
number_and_place NoWidth = (7, 0)
number_and_place BadLine = (8, 0)

abbrev pub refusal_outcome : {A : Type 0} → Refusal → Outcome A
refusal_outcome r = refused (number_and_place r).0 (number_and_place r).1

abbrev pub read_outcome : ReadAnswer → Outcome HgvsVariant
read_outcome (Ok v) = given v
read_outcome (Err r) = refusal_outcome r

abbrev pub write_outcome : WriteAnswer → Outcome ℕ
write_outcome (Ok length) = given length
write_outcome (Err r) = refusal_outcome r

abbrev pub width_outcome : WidthAnswer → Outcome ℕ
width_outcome (Ok width) = given width
width_outcome (Err r) = refusal_outcome r

-- the most bytes of a text or source
abbrev pub limit : ℕ
limit = 4096
