-- An i32 holds the numbers of a record.
use mathlib.Core.Path.{◌≡◌}
use mathlib.Core.Bool.{true}
use lib.IntN.{ℤ, nat_abs}
use borrow.Author.Tests.{le-leb}
use mir.Syntax.{w32}
use mir.Val.{SFits}
use Rattle.numerals.specs.Reading.{most}
use Rattle.numerals.specs.Signs.{written_sign}
use Rattle.numerals.proofs.Signs.{sign_most}
use Rattle.plan_location.specs.Plan.{held}

pub held_true : {z : ℤ} → SFits w32 z → held z ≡ true
unfolding held
held_true {z} f = le-leb (nat_abs z) (most (written_sign z)) (sign_most z f)
