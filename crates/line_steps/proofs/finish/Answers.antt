use mathlib.Core.Path.{sym, ◌∙◌}
use Rattle.line_steps.proofs.EndedAnswer.{last_some, last_none}
use Rattle.line_steps.proofs.finish.Goals as goal

pub returns-then-at_end : goal.returns-then-at_end
returns-then-at_end c =
    let a = c.args in
    last_some a.buffer.now a.line (sym c.at_end.ensures ∙ c.if-at_end.true) a.out.now c.put_line.ensures

pub returns-else-at_end : goal.returns-else-at_end
returns-else-at_end c =
    let a = c.args in
    last_none a.buffer.now a.line (sym c.at_end.ensures ∙ c.if-at_end.false) a.out.now
