use Prim.Native.Nat.{◌+◌}
use mathlib.Core.Path.{◌≡◌}
use lib.ListN.{take, drop}
use Rattle.texts.specs.Runs.{run}
use Rattle.alphabet.specs.Letters.{digit}
use Rattle.numerals.specs.Digits.{val}
use Rattle.read_number.proofs.DigitLoops.{Worth}
use Rattle.read_number.proofs.number_at.Given as goal

abbrev pub invariant-loop-i : goal.invariant-loop-i
invariant-loop-i l = (run digit l.s ≡ l.i + run digit (drop l.i l.s)) × Worth l.v l.large (val (take l.i l.s))
