use native.Mathlib.Omega.{arith}
use Rattle.frame_records.proofs.CallNeeds.{fed_used}
use Rattle.frame_records.proofs.turn.Goals as goal

pub returns : goal.returns
returns c =
    let a = c.args in
    let u = fed_used (record { state = a.state; buffer = a.buffer.now }) a.piece.now c.feed-f.ensures in
    (u.0, u.1, omega arith)
