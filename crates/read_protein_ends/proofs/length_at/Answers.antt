-- Digits, else `?`, else nothing.
use mathlib.Core.Path.{sym, ◌∙◌}
use Rattle.read_protein_ends.proofs.Ends.{length_counted, length_unknown, length_unsaid}
use Rattle.read_protein_ends.proofs.length_at.Goals as goal

pub returns-then-n-ne0 : goal.returns-then-n-ne0
returns-then-n-ne0 c = length_counted _ c.args.s.now c.number_at-n.result c.number_at-n.ensures _ c.if-n-ne0.true c.of_number.ensures

pub returns-then-begins : goal.returns-then-begins
returns-then-begins c = c.plain.ensures ∙ length_unknown _ c.args.s.now c.number_at-n.result c.number_at-n.ensures c.if-n-ne0.false (sym c.begins.ensures ∙ c.if-begins.true)

pub returns-else-begins : goal.returns-else-begins
returns-else-begins c = c.plain-else-begins.ensures ∙ length_unsaid _ c.args.s.now c.number_at-n.result c.number_at-n.ensures c.if-n-ne0.false (sym c.begins.ensures ∙ c.if-begins.false)
