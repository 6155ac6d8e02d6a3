use Rattle.std.proofs.Common.{length, ◌≤◌}
use Rattle.compare_lines.proofs.over.Given as goal

abbrev pub invariant-loop-rest : goal.invariant-loop-rest
invariant-loop-rest g l = l.line.len ≤ length l.buffer

abbrev pub decreases-loop-rest : goal.decreases-loop-rest
decreases-loop-rest g l = length l.rest
