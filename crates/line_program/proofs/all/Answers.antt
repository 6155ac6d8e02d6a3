use native.Mathlib.Omega.{arith}
use Rattle.line_program.proofs.RunSoFar.{standing_start, standing_more, ran_to_stop, ran_out}
use Rattle.line_program.proofs.all.Goals as goal

pub loop-init : goal.loop-init
loop-init g c = standing_start c.args.input.now c.args.buffer.now c.args.out.now c.no_line.ensures c.requires

pub returns-in-Stop : goal.returns-in-Stop
returns-in-Stop g c = ran_to_stop c.loop.invariant c.in-Stop.is

pub loop-preserved : goal.loop-preserved
loop-preserved g c = standing_more c.loop.next c.in_default.not-Stop c.loop.invariant c.act-next.ensures

pub returns : goal.returns
returns g c = ran_out c.loop.invariant (omega arith)
