-- A row at the front, else one letter or `*`, else nothing.
use mathlib.Core.Path.{sym, ◌∙◌}
use mathlib.Core.Bool.{true, false}
use borrow.Author.Rules.{rules}
use Rattle.alphabet.specs.Classes.{member}
use Rattle.residue.proofs.ResiduesFound.{row_three, len_three, len_empty, len_one}
use Rattle.residue.proofs.residue_at.Goals as goal

pub returns-then-is_some : goal.returns-then-is_some
returns-then-is_some c =
    let s = c.args.s.now in
    len_three s (row_three s c.find_row.ensures c.is_some.ensures c.if-is_some.true)

pub returns-then-is_empty : goal.returns-then-is_empty
returns-then-is_empty c =
    let s = c.args.s.now in
    len_empty s (row_three s c.find_row.ensures c.is_some.ensures c.if-is_some.false) (search rules)

pub returns-then-is_in : goal.returns-then-is_in
unfolding member
returns-then-is_in c =
    let s = c.args.s.now in
    len_one s (row_three s c.find_row.ensures c.is_some.ensures c.if-is_some.false) (search rules) true (sym c.is_in.ensures ∙ c.if-is_in.true)

pub returns-else-is_in : goal.returns-else-is_in
unfolding member
returns-else-is_in c =
    let s = c.args.s.now in
    len_one s (row_three s c.find_row.ensures c.is_some.ensures c.if-is_some.false) (search rules) false (sym c.is_in.ensures ∙ c.if-is_in.false)
