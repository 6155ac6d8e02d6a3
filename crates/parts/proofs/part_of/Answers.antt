-- The part where the span lies inside, and the empty part at the start where it does not.
use mathlib.Core.Path.{sym, ◌∙◌}
use Rattle.parts.proofs.SpanTests.{inside_part, outside_part}
use Rattle.parts.proofs.part_of.Goals as goal

pub returns-then-inside : goal.returns-then-inside
returns-then-inside c = inside_part c.args.source c.args.p (sym c.inside.ensures ∙ c.if-inside.true)

pub returns-else-inside : goal.returns-else-inside
returns-else-inside c = outside_part c.args.source c.args.p (sym c.inside.ensures ∙ c.if-inside.false)
