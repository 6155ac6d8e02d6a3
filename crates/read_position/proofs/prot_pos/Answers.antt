use Prim.Native.Nat.{◌+◌, ◌≤◌}
use native.Mathlib.Omega.{arith}
use lib.ListN.{length}
use Rattle.read_position.proofs.Positions.{residual_le, residual_number_lem, residual_none, residual_bare, residual_some}
use Rattle.read_position.proofs.prot_pos.Goals as goal

pub returns-then-k-eq0 : goal.returns-then-k-eq0
returns-then-k-eq0 c = residual_none _ _ _ c.residue_at-k.ensures c.if-k-eq0.true

pub slice_bounds-number_at-count : goal.slice_bounds-number_at-count
slice_bounds-number_at-count c =
    let residue_le : c.residue_at-k.result ≤ length c.args.s.now = residual_le c.args.at _ _ c.residue_at-k.ensures in
    residue_le

pub slice_bounds-number_at-start : goal.slice_bounds-number_at-start
slice_bounds-number_at-start c =
    let residue_le : c.residue_at-k.result ≤ length c.args.s.now = residual_le c.args.at _ _ c.residue_at-k.ensures in
    residue_le

pub returns-then-n-eq0 : goal.returns-then-n-eq0
returns-then-n-eq0 c = residual_bare _ _ _ c.residue_at-k.ensures _ c.number_at-n.ensures c.if-k-eq0.false c.if-n-eq0.true

pub span-requires : goal.span-requires
span-requires c =
    let residue_le : c.residue_at-k.result ≤ length c.args.s.now = residual_le c.args.at _ _ c.residue_at-k.ensures in
    omega (arith, residue_le, c.requires)

pub overflow_add-result : goal.overflow_add-result
overflow_add-result c =
    let number_le : c.residue_at-k.result + c.number_at-n.result.len ≤ length c.args.s.now = residual_number_lem c.args.at _ _ c.residue_at-k.ensures _ c.number_at-n.ensures in
    omega (arith, number_le)

pub of_number-requires : goal.of_number-requires
of_number-requires c =
    let residue_le : c.residue_at-k.result ≤ length c.args.s.now = residual_le c.args.at _ _ c.residue_at-k.ensures in
    omega (arith, residue_le, c.requires)

pub returns : goal.returns
returns c = residual_some _ _ _ c.residue_at-k.ensures _ c.number_at-n.ensures c.if-k-eq0.false c.if-n-eq0.false _ _ _ c.span.ensures c.unmarked.ensures c.of_number.ensures
