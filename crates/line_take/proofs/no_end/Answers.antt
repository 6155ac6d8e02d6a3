use mathlib.Core.Path.{sym, ◌∙◌}
use native.Mathlib.Omega.{arith}
use Rattle.lines.specs.Taking.{in_line}
use Rattle.line_take.proofs.TakingParts.{every_more, every_end}
use Rattle.line_take.proofs.no_end.Goals as goal

pub loop-b-preserved : goal.loop-b-preserved
loop-b-preserved c = c.loop-b.invariant ∙ every_more in_line c.args.s.now c.loop-b.b-index c.loop-b.none (omega arith)

pub returns : goal.returns
returns c = sym (c.loop-b.invariant ∙ every_end in_line c.args.s.now c.loop-b.b-index c.loop-b.none (omega arith))
