use Rattle.residue_rows.specs.Beginning.{packed}
use borrow.Author.Tests.{ne_eqb}
use Rattle.residue_rows.specs.ChosenRows.{one_of, no_row}
use Rattle.residue_rows.proofs.rows_beginning.Goals as goal

pub returns-in_default : goal.returns-in_default
unfolding packed one_of
returns-in_default c =
    let b = c.args.letter in
    let n = c.in_default.in_default-own.rest in
    rw (no_row b (rw (ne_eqb b 65 n.0.0.0.0.0.0.0.0.0.0.0.1, ne_eqb b 67 n.0.0.0.0.0.0.0.0.0.0.1, ne_eqb b 71 n.0.0.0.0.0.0.0.0.0.1, ne_eqb b 72 n.0.0.0.0.0.0.0.0.1, ne_eqb b 73 n.0.0.0.0.0.0.0.1, ne_eqb b 76 n.0.0.0.0.0.0.1, ne_eqb b 77 n.0.0.0.0.0.1, ne_eqb b 80 n.0.0.0.0.1, ne_eqb b 83 n.0.0.0.1, ne_eqb b 84 n.0.0.1, ne_eqb b 86 n.0.1, ne_eqb b 88 n.1)))
