-- Residues of three letters where there is one, else residues of one.
use Rattle.alphabet.specs.Classes.{member}
use Rattle.residue.proofs.ResiduesFound.{len_threes, len_ones}
use Rattle.residue.proofs.residues_at.Goals as goal

pub returns-then-threes-eq0 : goal.returns-then-threes-eq0
unfolding member
returns-then-threes-eq0 c = len_ones c.args.s.now c.threes_at-threes.result c.threes_at-threes.ensures c.if-threes-eq0.true c.run_of.result c.run_of.ensures

pub returns : goal.returns
returns c = len_threes c.args.s.now c.threes_at-threes.result c.threes_at-threes.ensures c.if-threes-eq0.false
