-- A call that met no empty line is silent.
use borrow.Author.Tests.{not-true}
use Rattle.frame_reader.proofs.CallAnswers.{fed_silent}
use Rattle.frame_reader.proofs.feed.Goals as goal

pub returns-then-not-t : goal.returns-then-not-t
returns-then-not-t c =
    let a = c.args in
    fed_silent (record { state = a.state; buffer = a.buffer.now }) c.told-buffer a.piece.now c.take-t.ensures (not-true c.take-t.result.ended c.if-not-t.true)
