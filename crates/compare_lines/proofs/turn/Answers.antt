use native.Mathlib.Omega.{arith}
use Rattle.compare_lines.proofs.Taken.{taken_used, taken_within}
use Rattle.compare_lines.proofs.turn.Goals as goal

pub returns-then-not-t : goal.returns-then-not-t
returns-then-not-t c =
    let a = c.args in
    let u = taken_used a.buffer.now a.line a.piece.now c.take-t.ensures.0 in
    (u.0, u.1, taken_within a.buffer.now a.line a.piece.now c.take-t.ensures.0 (omega arith), omega arith)

pub answer_line-requires : goal.answer_line-requires
answer_line-requires c =
    let a = c.args in
    omega (arith, taken_within a.buffer.now a.line a.piece.now c.take-t.ensures.0 (omega arith))

pub returns : goal.returns
returns c =
    let a = c.args in
    let u = taken_used a.buffer.now a.line a.piece.now c.take-t.ensures.0 in
    (u.0, u.1, rw c.no_line.ensures (omega arith), omega arith)
