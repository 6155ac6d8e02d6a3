-- What the parts give is what the whole gives.
use Prim.Native.Nat.{◌+◌}
use mathlib.Core.Path.{◌≡◌, sym, ◌∙◌}
use mathlib.Core.Bool.{cond}
use native.Mathlib.Omega.{arith}
use lib.Dec.{ltb}
use lib.ListN.{length}
use lib.Seq.{length-take-le}
use borrow.Author.Tests.{lt-ltb, le-ltb}
use Rattle.texts.proofs.Runs.{run_le}
use Rattle.texts.proofs.Tests.{left_or}
use Rattle.lines.specs.Taking.{in_line}
use Rattle.line_take.proofs.TakingParts.{took}
use Rattle.line_take.proofs.take.Goals as goal
use Rattle.line_take.proofs.take.Goals.{then-complete, else-complete}

pub slice_bounds-store-end : goal.slice_bounds-store-end
slice_bounds-store-end c = sym (length-take-le c.before_end-n.result _ (omega (arith, c.before_end-n.ensures, run_le in_line c.args.piece.now)))

pub returns-then-line : goal.returns-then-line
returns-then-line c =
    let a = c.args in
    let n = c.before_end-n.result in
    let used : c.if-complete.result ≡ cond (ltb n (length a.piece.now)) (n + 1) n = elim c.if-complete.branch [
      | then-complete w ↦ rw (lt-ltb _ _ w.if-complete.true) w.result-is
      | else-complete w ↦ rw (le-ltb _ _ w.if-complete.false) w.result-is
    ] in
    took a.buffer.now a.line a.piece.now c.before_end-n.ensures c.store-fitting.ensures (c.if-line.true ∙ sym (left_or _ c.if-line.true)) used

pub returns-else-line : goal.returns-else-line
returns-else-line c =
    let a = c.args in
    let n = c.before_end-n.result in
    let used : c.if-complete.result ≡ cond (ltb n (length a.piece.now)) (n + 1) n = elim c.if-complete.branch [
      | then-complete w ↦ rw (lt-ltb _ _ w.if-complete.true) w.result-is
      | else-complete w ↦ rw (le-ltb _ _ w.if-complete.false) w.result-is
    ] in
    took a.buffer.now a.line a.piece.now c.before_end-n.ensures c.store-fitting.ensures (rw c.if-line.false) used
