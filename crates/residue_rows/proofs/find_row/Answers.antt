-- The loops' invariants: what `left` packs is left to search, and row i agrees where what is left of it from byte j does.
use Prim.Native.Nat.{◌%◌}
use mathlib.Core.Path.{refl, sym}
use native.Mathlib.Omega.{arith}
use borrow.Author.Rules.{rules}
use Rattle.residue_rows.specs.Rows.{rows}
use Rattle.residue_rows.proofs.RowSearch.{same_byte, other_byte, last_byte, short_none}
use Rattle.residue_rows.specs.PackedRows.{Left, left_all, left_less, none_left, next_row, this_row}
use Rattle.residue_rows.proofs.find_row.Goals as goal

pub returns-then-s-lt3 : goal.returns-then-s-lt3
returns-then-s-lt3 c = sym (short_none c.args.s.now c.if-s-lt3.true)

pub returns-then-left-eq-NO_ROW : goal.returns-then-left-eq-NO_ROW
returns-then-left-eq-NO_ROW c =
    let chosen : Left c.args.s.now c.rows_beginning-left.result = let s = c.args.s.now in
    left_all s c.rows_beginning-left.result (omega arith) c.rows_beginning-left.ensures in
    let s = c.args.s.now in
    sym (none_left s c.rows_beginning-left.result chosen (omega arith))

pub rows-init : goal.rows-init
rows-init c =
    let chosen : Left c.args.s.now c.rows_beginning-left.result = let s = c.args.s.now in
    left_all s c.rows_beginning-left.result (omega arith) c.rows_beginning-left.ensures in
    chosen

pub loop-j-init : goal.loop-j-init
loop-j-init c = (search rules, refl)

pub loop-j-preserved : goal.loop-j-preserved
unfolding rows
loop-j-preserved c = (omega arith, same_byte c.args.s.now (c.rows.left % 256) c.loop-j.j (omega arith) c.loop-j.invariant.0 (omega arith) c.loop-j.invariant.1 c.loop-j-test.true)

pub rows-smaller : goal.rows-smaller
rows-smaller c = left_less c.args.s.now c.rows.left c.rows.invariant

pub rows-preserved : goal.rows-preserved
unfolding rows
rows-preserved c = next_row c.args.s.now c.rows.left c.rows.invariant c.if-i-ge25.false (other_byte c.args.s.now (c.rows.left % 256) c.loop-j.j c.if-i-ge25.false c.loop-j.invariant.0 (omega arith) c.loop-j.invariant.1 c.loop-j-test.false)

pub returns-then-i-ge25 : goal.returns-then-i-ge25
returns-then-i-ge25 c = sym (none_left c.args.s.now c.rows.left c.rows.invariant c.if-i-ge25.true)

pub returns-then-j-eq3 : goal.returns-then-j-eq3
unfolding rows
returns-then-j-eq3 c = sym (this_row c.args.s.now c.rows.left c.rows.invariant c.if-i-ge25.false (last_byte c.args.s.now (c.rows.left % 256) c.loop-j.j c.if-i-ge25.false c.loop-j.invariant.0 (omega arith) c.loop-j.invariant.1 c.loop-j-test.true c.if-j-eq3.true))
