use Prim.Native.Nat.{◌+◌, ◌≤◌}
use native.Mathlib.Omega.{arith}
use lib.ListN.{length}
use Rattle.texts.proofs.Slices.{tail_room}
use Rattle.read_position.proofs.Positions.{based_mark, based_number_lem, based_offset, based_none, based_some}
use Rattle.read_position.proofs.cds_pos.Goals as goal

pub slice_bounds-number_at-count : goal.slice_bounds-number_at-count
slice_bounds-number_at-count c =
    let mark_le : c.mark_at-m.result.len ≤ length c.args.s.now = based_mark c.args.at _ _ c.mark_at-m.ensures in
    mark_le

pub slice_bounds-number_at-start : goal.slice_bounds-number_at-start
slice_bounds-number_at-start c =
    let mark_le : c.mark_at-m.result.len ≤ length c.args.s.now = based_mark c.args.at _ _ c.mark_at-m.ensures in
    mark_le

pub returns-then-n-eq0 : goal.returns-then-n-eq0
returns-then-n-eq0 c = based_none _ _ _ c.mark_at-m.ensures _ c.number_at-n.ensures c.if-n-eq0.true

pub overflow_add-e : goal.overflow_add-e
overflow_add-e c =
    let number_le : c.mark_at-m.result.len + c.number_at-n.result.len ≤ length c.args.s.now = based_number_lem c.args.at _ _ c.mark_at-m.ensures _ c.number_at-n.ensures in
    omega (arith, number_le)

pub slice_bounds-offset_at-count : goal.slice_bounds-offset_at-count
slice_bounds-offset_at-count c =
    let number_le : c.mark_at-m.result.len + c.number_at-n.result.len ≤ length c.args.s.now = based_number_lem c.args.at _ _ c.mark_at-m.ensures _ c.number_at-n.ensures in
    number_le

pub slice_bounds-offset_at-start : goal.slice_bounds-offset_at-start
slice_bounds-offset_at-start c =
    let number_le : c.mark_at-m.result.len + c.number_at-n.result.len ≤ length c.args.s.now = based_number_lem c.args.at _ _ c.mark_at-m.ensures _ c.number_at-n.ensures in
    number_le

pub overflow_add-at : goal.overflow_add-at
overflow_add-at c =
    let number_le : c.mark_at-m.result.len + c.number_at-n.result.len ≤ length c.args.s.now = based_number_lem c.args.at _ _ c.mark_at-m.ensures _ c.number_at-n.ensures in
    omega (arith, number_le, c.requires)

pub offset_at-o-requires : goal.offset_at-o-requires
offset_at-o-requires c =
    let number_le : c.mark_at-m.result.len + c.number_at-n.result.len ≤ length c.args.s.now = based_number_lem c.args.at _ _ c.mark_at-m.ensures _ c.number_at-n.ensures in
    tail_room _ _ c.args.s.now c.requires number_le

pub overflow_add-result : goal.overflow_add-result
overflow_add-result c =
    let offset_le : c.mark_at-m.result.len + c.number_at-n.result.len + c.offset_at-o.result.len ≤ length c.args.s.now = based_offset _ _ _ c.mark_at-m.ensures _ c.number_at-n.ensures c.if-n-eq0.false _ c.offset_at-o.ensures in
    omega (arith, offset_le)

pub of_number-requires : goal.of_number-requires
of_number-requires c =
    let mark_le : c.mark_at-m.result.len ≤ length c.args.s.now = based_mark c.args.at _ _ c.mark_at-m.ensures in
    omega (arith, mark_le, c.requires)

pub returns : goal.returns
returns c = based_some _ _ _ c.mark_at-m.ensures _ c.number_at-n.ensures c.if-n-eq0.false _ c.offset_at-o.ensures _ _ _ c.span.ensures c.of_number.ensures c.leftmost.ensures
