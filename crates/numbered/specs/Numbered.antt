-- The numbers of an outcome: its number and place, and the length or width.
use Rattle.std.specs.Prelude.{ℕ}
use Rattle.record.specs.declared.HgvsVariant.{HgvsVariant}
use Rattle.record.specs.declared.Refusal.{Refusal}
use Rattle.promise.specs.Outcome.{Outcome, number_and_place, outcome_number, outcome_place, outcome_value}
use Rattle.numbered.specs.declared.Answer.{Answer}

-- without length and width
abbrev pub bare_answer : ℕ → ℕ → Answer
bare_answer n place = record { number = n; place = place; value = 0 }

abbrev pub refusal_numbers : Refusal → Answer
refusal_numbers r = bare_answer (number_and_place r).0 (number_and_place r).1

abbrev pub numbered : Outcome ℕ → Answer
numbered o = record { number = outcome_number o; place = outcome_place o; value = outcome_value o }

-- reading gives no length and no width
abbrev pub read_numbers : Outcome HgvsVariant → Answer
read_numbers o = bare_answer (outcome_number o) (outcome_place o)
