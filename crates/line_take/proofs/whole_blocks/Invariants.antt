-- The run of the whole piece is the bytes passed and the run of what is left, which the blocks that are left begin.
use Prim.Native.Nat.{◌+◌, ◌≤◌}
use mathlib.Core.Path.{◌≡◌}
use lib.ListN.{length, drop}
use Rattle.std.specs.Slice.Iter.{chunks_exact_rest, chunks_exact_size}
use Rattle.texts.specs.Runs.{run}
use Rattle.lines.specs.Taking.{in_line}
use Rattle.line_take.proofs.whole_blocks.Given as goal

abbrev pub invariant-loop-block : goal.invariant-loop-block
invariant-loop-block l =
    (l.passed ≤ length l.piece) × (run in_line l.piece ≡ l.passed + run in_line (drop l.passed l.piece))
    × (chunks_exact_rest l.block-iterator ≡ drop l.passed l.piece) × (chunks_exact_size l.block-iterator ≡ 16)
