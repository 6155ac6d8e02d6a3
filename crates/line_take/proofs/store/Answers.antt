-- Where nothing fits, nothing is written.
use native.Mathlib.Omega.{arith}
use Rattle.line_take.proofs.TakingParts.{put_nothing}
use Rattle.line_take.proofs.store.Goals as goal

pub returns-else-fitting-gt0 : goal.returns-else-fitting-gt0
returns-else-fitting-gt0 c =
    let a = c.args in
    (omega arith, put_nothing a.buffer.now a.at a.text.now c.min-fitting.result (omega arith))
