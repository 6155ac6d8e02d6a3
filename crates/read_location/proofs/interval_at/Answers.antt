use Prim.Native.Nat.{◌+◌, ◌-◌, ◌≤◌}
use mathlib.Core.Path.{◌≡◌, sym, ◌∙◌}
use mathlib.Core.Bool.{true}
use native.Mathlib.Omega.{arith}
use lib.ListN.{length, take, drop}
use Rattle.texts.proofs.Slices.{tail_room}
use Rattle.texts.specs.Ascii.{ascii}
use Rattle.texts.specs.Words.{starts}
use Rattle.read_position.specs.Told.{PositionTold, position_told}
use Rattle.read_location.proofs.Intervals.{interval_none, start_le, interval_one, join_le, interval_half, end_le, interval_two}
use Rattle.read_location.proofs.interval_at.Goals as goal

pub returns-in_err-start : goal.returns-in_err-start
returns-in_err-start c = c.from_residual.ensures ∙ interval_none c.args.kind _ _ (sym c.in_err-start.was ∙ c.pos_at.ensures)

pub slice_bounds-begins-count : goal.slice_bounds-begins-count
slice_bounds-begins-count c =
    let first : PositionTold c.args.kind c.args.at c.args.s.now c.in_ok-start.start = position_told c.args.kind _ _ _ (sym c.in_ok-start.was ∙ c.pos_at.ensures) in
    start_le c.args.kind first

pub slice_bounds-begins-start : goal.slice_bounds-begins-start
slice_bounds-begins-start c =
    let first : PositionTold c.args.kind c.args.at c.args.s.now c.in_ok-start.start = position_told c.args.kind _ _ _ (sym c.in_ok-start.was ∙ c.pos_at.ensures) in
    start_le c.args.kind first

pub returns-then-not-begins : goal.returns-then-not-begins
returns-then-not-begins c =
    let first : PositionTold c.args.kind c.args.at c.args.s.now c.in_ok-start.start = position_told c.args.kind _ _ _ (sym c.in_ok-start.was ∙ c.pos_at.ensures) in
    interval_one c.args.kind first (sym c.begins.ensures ∙ c.if-not-begins.true)

pub overflow_add-k : goal.overflow_add-k
overflow_add-k c =
    let bar-le : c.in_ok-start.start.len + 1 ≤ length c.args.s.now = let bar : starts (ascii "_") (take (length c.args.s.now - c.in_ok-start.start.len) (drop c.in_ok-start.start.len c.args.s.now)) ≡ true = sym c.begins.ensures ∙ c.if-not-begins.false in
    let first : PositionTold c.args.kind c.args.at c.args.s.now c.in_ok-start.start = position_told c.args.kind _ _ _ (sym c.in_ok-start.was ∙ c.pos_at.ensures) in
    join_le c.args.kind first bar in
    omega (arith, bar-le)

pub slice_bounds-pos_at-count : goal.slice_bounds-pos_at-count
slice_bounds-pos_at-count c =
    let bar-le : c.in_ok-start.start.len + 1 ≤ length c.args.s.now = let bar : starts (ascii "_") (take (length c.args.s.now - c.in_ok-start.start.len) (drop c.in_ok-start.start.len c.args.s.now)) ≡ true = sym c.begins.ensures ∙ c.if-not-begins.false in
    let first : PositionTold c.args.kind c.args.at c.args.s.now c.in_ok-start.start = position_told c.args.kind _ _ _ (sym c.in_ok-start.was ∙ c.pos_at.ensures) in
    join_le c.args.kind first bar in
    bar-le

pub slice_bounds-pos_at-start : goal.slice_bounds-pos_at-start
slice_bounds-pos_at-start c =
    let bar-le : c.in_ok-start.start.len + 1 ≤ length c.args.s.now = let bar : starts (ascii "_") (take (length c.args.s.now - c.in_ok-start.start.len) (drop c.in_ok-start.start.len c.args.s.now)) ≡ true = sym c.begins.ensures ∙ c.if-not-begins.false in
    let first : PositionTold c.args.kind c.args.at c.args.s.now c.in_ok-start.start = position_told c.args.kind _ _ _ (sym c.in_ok-start.was ∙ c.pos_at.ensures) in
    join_le c.args.kind first bar in
    bar-le

pub overflow_add-at : goal.overflow_add-at
overflow_add-at c =
    let bar-le : c.in_ok-start.start.len + 1 ≤ length c.args.s.now = let bar : starts (ascii "_") (take (length c.args.s.now - c.in_ok-start.start.len) (drop c.in_ok-start.start.len c.args.s.now)) ≡ true = sym c.begins.ensures ∙ c.if-not-begins.false in
    let first : PositionTold c.args.kind c.args.at c.args.s.now c.in_ok-start.start = position_told c.args.kind _ _ _ (sym c.in_ok-start.was ∙ c.pos_at.ensures) in
    join_le c.args.kind first bar in
    omega (arith, bar-le, c.requires)

pub pos_at-requires-2 : goal.pos_at-requires-2
pos_at-requires-2 c =
    let bar-le : c.in_ok-start.start.len + 1 ≤ length c.args.s.now = let bar : starts (ascii "_") (take (length c.args.s.now - c.in_ok-start.start.len) (drop c.in_ok-start.start.len c.args.s.now)) ≡ true = sym c.begins.ensures ∙ c.if-not-begins.false in
    let first : PositionTold c.args.kind c.args.at c.args.s.now c.in_ok-start.start = position_told c.args.kind _ _ _ (sym c.in_ok-start.was ∙ c.pos_at.ensures) in
    join_le c.args.kind first bar in
    tail_room _ _ c.args.s.now c.requires bar-le

pub returns-in_err-end : goal.returns-in_err-end
returns-in_err-end c =
    let bar : starts (ascii "_") (take (length c.args.s.now - c.in_ok-start.start.len) (drop c.in_ok-start.start.len c.args.s.now)) ≡ true = sym c.begins.ensures ∙ c.if-not-begins.false in
    let first : PositionTold c.args.kind c.args.at c.args.s.now c.in_ok-start.start = position_told c.args.kind _ _ _ (sym c.in_ok-start.was ∙ c.pos_at.ensures) in
    c.from_residual-in_err-end.ensures ∙ interval_half c.args.kind first bar (sym c.in_err-end.was ∙ c.pos_at-2.ensures)

pub returns : goal.returns
returns c =
    let second : PositionTold c.args.kind (c.args.at + (c.in_ok-start.start.len + 1)) (take (length c.args.s.now - (c.in_ok-start.start.len + 1)) (drop (c.in_ok-start.start.len + 1) c.args.s.now)) c.in_ok-end.end = position_told c.args.kind _ _ _ (sym c.in_ok-end.was ∙ c.pos_at-2.ensures) in
    let bar : starts (ascii "_") (take (length c.args.s.now - c.in_ok-start.start.len) (drop c.in_ok-start.start.len c.args.s.now)) ≡ true = sym c.begins.ensures ∙ c.if-not-begins.false in
    let first : PositionTold c.args.kind c.args.at c.args.s.now c.in_ok-start.start = position_told c.args.kind _ _ _ (sym c.in_ok-start.was ∙ c.pos_at.ensures) in
    interval_two c.args.kind first bar second _ _ c.leftmost.ensures c.settled_if.ensures

pub overflow_add-result : goal.overflow_add-result
overflow_add-result c =
    let second : PositionTold c.args.kind (c.args.at + (c.in_ok-start.start.len + 1)) (take (length c.args.s.now - (c.in_ok-start.start.len + 1)) (drop (c.in_ok-start.start.len + 1) c.args.s.now)) c.in_ok-end.end = position_told c.args.kind _ _ _ (sym c.in_ok-end.was ∙ c.pos_at-2.ensures) in
    let bar : starts (ascii "_") (take (length c.args.s.now - c.in_ok-start.start.len) (drop c.in_ok-start.start.len c.args.s.now)) ≡ true = sym c.begins.ensures ∙ c.if-not-begins.false in
    let first : PositionTold c.args.kind c.args.at c.args.s.now c.in_ok-start.start = position_told c.args.kind _ _ _ (sym c.in_ok-start.was ∙ c.pos_at.ensures) in
    omega (arith, end_le c.args.kind first bar second)
