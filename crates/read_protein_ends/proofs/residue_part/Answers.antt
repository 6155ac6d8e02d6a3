-- No bytes, no residue.
use Rattle.read_protein_ends.proofs.Ends.{part_absent, part_present}
use Rattle.read_protein_ends.proofs.residue_part.Goals as goal

pub returns-then-n-eq0 : goal.returns-then-n-eq0
returns-then-n-eq0 c = part_absent _ _ c.if-n-eq0.true

pub returns-else-n-eq0 : goal.returns-else-n-eq0
returns-else-n-eq0 c = part_present _ _ _ c.if-n-eq0.false c.span.ensures
