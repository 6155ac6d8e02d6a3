-- The bytes passed and those that are left have no LF, where the whole has none.
use mathlib.Core.Path.{◌≡◌}
use mathlib.Core.Bool.{◌&&◌}
use lib.ListN.{drop}
use Rattle.texts.specs.Runs.{every}
use Rattle.lines.specs.Taking.{in_line}
use Rattle.line_take.proofs.no_end.Given as goal

abbrev pub invariant-loop-b : goal.invariant-loop-b
invariant-loop-b l = every in_line l.s ≡ l.none && every in_line (drop l.b-index l.s)
