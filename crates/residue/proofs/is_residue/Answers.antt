-- The whole text is a residue exactly where the residue at its front is the whole.
use Rattle.std.proofs.Common.{rules, not, ap, ◌∙◌}
use Rattle.residue.specs.Residues.{is_residue}
use Rattle.residue.specs.Reading.{residue_len}
use Rattle.residue.proofs.ResiduesRead.{residue_some, residue_whole, residue_sound}
use Rattle.residue.proofs.ResiduesFound.{whole_empty, whole}
use Rattle.residue.proofs.is_residue.Goals as goal

pub returns-then-not-is_empty : goal.returns-then-not-is_empty
returns-then-not-is_empty c = whole is_residue residue_len residue_some residue_whole residue_sound c.args.s.now (search rules) c.residue_at.ensures

pub returns-else-not-is_empty : goal.returns-else-not-is_empty
returns-else-not-is_empty c = ap not c.if-not-is_empty.false ∙ whole_empty is_residue residue_len residue_some residue_whole residue_sound c.args.s.now (search rules)
