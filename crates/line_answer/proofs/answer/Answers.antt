use mathlib.Core.Bool.{cond}
use native.Mathlib.Omega.{arith}
use Rattle.lent.specs.Put.{then}
use Rattle.lines.specs.Lines.{Held.whole, Held.too_long}
use Rattle.line_promise.proofs.OneLineAnswer.{answer_short}
use Rattle.line_answer.proofs.answer.Goals as goal

pub put_bytes-requires : goal.put_bytes-requires
put_bytes-requires c =
    let a = c.args in
    omega (arith, answer_short (cond a.long too_long (whole a.line.now)))

pub returns : goal.returns
returns c = then _ _ _ _ (omega (arith, c.requires, answer_short (cond c.args.long too_long (whole c.args.line.now)))) c.put_answer-behind.ensures c.put_bytes.ensures
