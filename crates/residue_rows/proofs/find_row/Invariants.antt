use Prim.Native.Nat.{◌-◌, ◌<◌}
use mathlib.Core.Path.{◌≡◌}
use mathlib.Core.List.{[]}
use lib.ListN.{drop, get_or}
use Rattle.texts.specs.Words.{starts}
use Rattle.residue_rows.specs.Rows.{rows}
use Rattle.residue_rows.specs.PackedRows.{Left}
use Rattle.residue_rows.proofs.find_row.Given as goal

abbrev pub invariant-loop-j : goal.invariant-loop-j
invariant-loop-j l = (l.j < 3) × (starts (get_or rows l.i []) l.s ≡ starts (drop l.j (get_or rows l.i [])) (drop l.j l.s))

abbrev pub decreases-loop-j : goal.decreases-loop-j
decreases-loop-j l = 3 - l.j

abbrev pub invariant-rows : goal.invariant-rows
invariant-rows l = Left l.s l.left

abbrev pub decreases-rows : goal.decreases-rows
decreases-rows l = l.left
