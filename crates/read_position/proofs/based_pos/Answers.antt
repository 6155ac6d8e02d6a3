use mathlib.Core.Path.{sym, ◌∙◌}
use Rattle.read_position.proofs.Positions.{based_barred, based_free}
use Rattle.read_position.proofs.based_pos.Goals as goal

pub returns-then-is_barred : goal.returns-then-is_barred
returns-then-is_barred c = based_barred _ _ _ (sym c.is_barred.ensures ∙ c.if-is_barred.true)

pub returns : goal.returns
returns c = c.cds_pos.ensures ∙ based_free _ _ _ (sym c.is_barred.ensures ∙ c.if-is_barred.false)
