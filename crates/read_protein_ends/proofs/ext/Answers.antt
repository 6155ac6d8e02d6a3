-- The first of the two that finds something.
use borrow.Author.Rules.{rules}
use Rattle.read_protein_ends.proofs.Ends.{ext_found}
use Rattle.read_protein_ends.proofs.ext.Goals as goal

pub returns : goal.returns
returns c = ext_found _ _ c.args.s.now _ _ c.ext_neg_shift.ensures c.unwrap_or_else.ensures (λ e. search rules)
