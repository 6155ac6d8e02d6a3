use Rattle.std.proofs.Common.{◌≡◌, ◌+◌}
use Rattle.std.proofs.Math.ListN.{drop}
use Rattle.texts.specs.Runs.{run}
use Rattle.alphabet.specs.Classes.{member}
use Rattle.alphabet.proofs.run_of.Given as goal

abbrev pub invariant-loop-i : goal.invariant-loop-i
invariant-loop-i l = run (member l.class) l.s ≡ l.i + run (member l.class) (drop l.i l.s)
