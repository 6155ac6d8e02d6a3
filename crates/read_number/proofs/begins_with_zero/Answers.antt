use native.Mathlib.Omega.{arith}
use borrow.Author.Rules.{rules}
use Rattle.read_number.proofs.DigitLoops.{zero_missing, zero_there, zero_other}
use Rattle.read_number.proofs.begins_with_zero.Goals as goal

pub returns-in-48 : goal.returns-in-48
returns-in-48 c = zero_there c.args.s.now (λ z. omega (arith, c.in-48.len_at_least)) (search rules)

pub returns-in_default : goal.returns-in_default
returns-in_default c = zero_missing c.args.s.now c.in_default.len_below

pub returns-in_default-2 : goal.returns-in_default-2
returns-in_default-2 c = zero_other c.args.s.now (search rules)
