use mathlib.Core.Path.{sym, ◌∙◌}
use Rattle.read_text.proofs.TextCases.{nucleotide_says, protein_says}
use Rattle.read_text.proofs.body_at.Goals as goal

pub returns-then-is_protein : goal.returns-then-is_protein
returns-then-is_protein c = protein_says _ _ _ c.args.kind (sym c.is_protein.ensures ∙ c.if-is_protein.true) c.prot_body.ensures

pub returns-else-is_protein : goal.returns-else-is_protein
returns-else-is_protein c = nucleotide_says _ _ _ c.args.kind (sym c.is_protein.ensures ∙ c.if-is_protein.false) c.na_body.ensures
