-- The loop's invariant: the rows of the whole text are the bytes passed and the rows of what is left.
use native.Mathlib.Omega.{arith}
use Rattle.residue.proofs.ResiduesFound.{row_three_from, three_from_le, more_threes, end_threes}
use Rattle.residue.proofs.threes_at.Goals as goal

pub loop-i-preserved : goal.loop-i-preserved
loop-i-preserved c =
    let s = c.args.s.now in
    let t = row_three_from s c.loop-i.i c.find_row.ensures c.is_some.ensures c.loop-i-test.true in
    (three_from_le s c.loop-i.i c.loop-i.invariant.0 t, more_threes s c.loop-i.i c.loop-i.invariant.1 t)

pub loop-i-smaller : goal.loop-i-smaller
loop-i-smaller c = omega (arith, (loop-i-preserved c).0)

pub returns : goal.returns
returns c =
    let s = c.args.s.now in
    end_threes s c.loop-i.i c.loop-i.invariant.1 (row_three_from s c.loop-i.i c.find_row.ensures c.is_some.ensures c.loop-i-test.false)
