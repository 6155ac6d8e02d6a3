use mathlib.Core.Path.{sym, ◌∙◌}
use Rattle.read_position.specs.Forms.{based_says, genomic_says, residual_says}
use Rattle.read_position.proofs.pos_at.Goals as goal

pub returns-in-Based : goal.returns-in-Based
returns-in-Based c = based_says _ _ _ c.args.kind (sym c.form_of.ensures ∙ c.in-Based.is) c.based_pos.ensures

pub returns-in-Genomic : goal.returns-in-Genomic
returns-in-Genomic c = genomic_says _ _ _ c.args.kind (sym c.form_of.ensures ∙ c.in-Genomic.is) c.genome_pos.ensures

pub returns-in-Residual : goal.returns-in-Residual
returns-in-Residual c = residual_says _ _ _ c.args.kind (sym c.form_of.ensures ∙ c.in-Residual.is) c.prot_pos.ensures
