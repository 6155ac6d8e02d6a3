-- The whole text is residues exactly where the residues at its front are the whole.
use Rattle.std.proofs.Common.{rules, not, ap, ◌∙◌}
use Rattle.residue.specs.Residues.{is_residues}
use Rattle.residue.specs.Reading.{residues_len}
use Rattle.residue.proofs.ResiduesRead.{residues_some, residues_whole, residues_sound}
use Rattle.residue.proofs.ResiduesFound.{whole_empty, whole}
use Rattle.residue.proofs.is_residues.Goals as goal

pub returns-then-not-is_empty : goal.returns-then-not-is_empty
returns-then-not-is_empty c = whole is_residues residues_len residues_some residues_whole residues_sound c.args.s.now (search rules) c.residues_at.ensures

pub returns-else-not-is_empty : goal.returns-else-not-is_empty
returns-else-not-is_empty c = ap not c.if-not-is_empty.false ∙ whole_empty is_residues residues_len residues_some residues_whole residues_sound c.args.s.now (search rules)
