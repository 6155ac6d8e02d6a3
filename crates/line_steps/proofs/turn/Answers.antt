use Rattle.lines.proofs.Steps.{went_open, went_ended, taken_within}
use Rattle.line_promise.specs.Computed.{line_answer}
use borrow.Author.Rules.{rules}
use Rattle.line_steps.proofs.turn.Goals as goal

pub put_line-requires : goal.put_line-requires
put_line-requires c = ((taken_within line_answer c.args.buffer.now c.args.line c.args.piece.now c.args.at c.take-t.ensures.0 c.requires.0 c.take-t.ensures.1).0, search rules)

pub returns-then-t : goal.returns-then-t
returns-then-t c =
    let a = c.args in
    let w = went_ended line_answer a.buffer.now a.line a.piece.now a.at c.take-t.ensures.0 a.out.now c.take-t.ensures.1 c.no_line.ensures c.if-t.true c.put_line.ensures in
    (w.0, w.1, c.take-t.ensures.1)

pub returns-else-t : goal.returns-else-t
returns-else-t c =
    let a = c.args in
    let w = went_open line_answer a.buffer.now a.line a.piece.now a.at c.take-t.ensures.0 a.out.now c.if-t.false in
    (w.0, w.1, c.take-t.ensures.1)
