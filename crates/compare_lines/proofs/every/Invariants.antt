use Rattle.std.proofs.Common.{◌≤◌, length}
use Rattle.compare_lines.proofs.every.Given as goal

abbrev pub invariant-loop : goal.invariant-loop
invariant-loop g l = l.line.len ≤ length l.buffer
