use mathlib.Core.Path.{refl}
use borrow.Author.Rules.{rules}
use Rattle.alphabet.proofs.Table.{table}
use Rattle.alphabet.proofs.number_of.Goals as goal

pub returns : goal.returns
returns c = (refl, table.cell c.args.b (search rules))
