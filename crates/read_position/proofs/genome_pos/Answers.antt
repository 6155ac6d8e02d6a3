use mathlib.Core.Path.{sym, ◌∙◌}
use Rattle.read_position.proofs.Positions.{genomic_unknown, genomic_none, genomic_some}
use Rattle.read_position.proofs.genome_pos.Goals as goal

pub returns-then-begins : goal.returns-then-begins
returns-then-begins c =
    rw c.plain.ensures
    (genomic_unknown _ _ _ c.number_at-n.ensures c.if-n-ne0.false (sym c.begins.ensures ∙ c.if-begins.true) _ _ c.span-then-begins.ensures c.unmarked-then-begins.ensures)

pub returns-else-begins : goal.returns-else-begins
returns-else-begins c = genomic_none _ _ _ c.number_at-n.ensures c.if-n-ne0.false (sym c.begins.ensures ∙ c.if-begins.false)

pub returns-then-n-ne0 : goal.returns-then-n-ne0
returns-then-n-ne0 c = genomic_some _ _ _ c.number_at-n.ensures c.if-n-ne0.true _ _ _ c.span.ensures c.unmarked.ensures c.of_number.ensures
