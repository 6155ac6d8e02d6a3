use mathlib.Core.Path.{◌≡◌, sym, ◌∙◌}
use native.Mathlib.Omega.{arith}
use mathlib.Core.Bool.{true}
use Prim.Native.Nat.{◌+◌, ◌-◌}
use lib.ListN.{length, take, drop}
use Rattle.texts.specs.Ascii.{ascii}
use Rattle.texts.specs.Words.{starts}
use Rattle.texts.proofs.Slices.{tail_room}
use Rattle.record.specs.declared.Kind.TheVariants.{Prot}
use Rattle.read_location.specs.Told.{IntervalTold, interval_told, interval_within}
use Rattle.read_protein_change.proofs.ProteinChangeCases.{opened_none, closed_le, shut_found, brackets_found}
use Rattle.read_protein_change.proofs.opened.Goals as goal

pub returns-in_err-interval : goal.returns-in_err-interval
returns-in_err-interval c = c.from_residual.ensures ∙ opened_none _ _ (sym c.in_err-interval.was ∙ c.interval_at.ensures)

pub slice_bounds-begins-count : goal.slice_bounds-begins-count
slice_bounds-begins-count c =
    let ends : IntervalTold Prot (c.args.at + 1) c.args.s.now c.in_ok-interval.interval = interval_told Prot _ _ _ (sym c.in_ok-interval.was ∙ c.interval_at.ensures) in
    interval_within Prot ends

pub slice_bounds-begins-start : goal.slice_bounds-begins-start
slice_bounds-begins-start c =
    let ends : IntervalTold Prot (c.args.at + 1) c.args.s.now c.in_ok-interval.interval = interval_told Prot _ _ _ (sym c.in_ok-interval.was ∙ c.interval_at.ensures) in
    interval_within Prot ends

pub overflow_add-k : goal.overflow_add-k
overflow_add-k c =
    let shut : starts (ascii ")") (take (length c.args.s.now - c.in_ok-interval.interval.len) (drop c.in_ok-interval.interval.len c.args.s.now)) ≡ true = sym c.begins.ensures ∙ c.if-begins.true in
    let ends : IntervalTold Prot (c.args.at + 1) c.args.s.now c.in_ok-interval.interval = interval_told Prot _ _ _ (sym c.in_ok-interval.was ∙ c.interval_at.ensures) in
    omega (arith, closed_le _ _ ends shut, c.requires)

pub overflow_add-behind : goal.overflow_add-behind
overflow_add-behind c =
    let shut : starts (ascii ")") (take (length c.args.s.now - c.in_ok-interval.interval.len) (drop c.in_ok-interval.interval.len c.args.s.now)) ≡ true = sym c.begins.ensures ∙ c.if-begins.true in
    let ends : IntervalTold Prot (c.args.at + 1) c.args.s.now c.in_ok-interval.interval = interval_told Prot _ _ _ (sym c.in_ok-interval.was ∙ c.interval_at.ensures) in
    omega (arith, closed_le _ _ ends shut, c.requires)

pub slice_bounds-after_location-count : goal.slice_bounds-after_location-count
slice_bounds-after_location-count c =
    let shut : starts (ascii ")") (take (length c.args.s.now - c.in_ok-interval.interval.len) (drop c.in_ok-interval.interval.len c.args.s.now)) ≡ true = sym c.begins.ensures ∙ c.if-begins.true in
    let ends : IntervalTold Prot (c.args.at + 1) c.args.s.now c.in_ok-interval.interval = interval_told Prot _ _ _ (sym c.in_ok-interval.was ∙ c.interval_at.ensures) in
    closed_le _ _ ends shut

pub slice_bounds-after_location-start : goal.slice_bounds-after_location-start
slice_bounds-after_location-start c =
    let shut : starts (ascii ")") (take (length c.args.s.now - c.in_ok-interval.interval.len) (drop c.in_ok-interval.interval.len c.args.s.now)) ≡ true = sym c.begins.ensures ∙ c.if-begins.true in
    let ends : IntervalTold Prot (c.args.at + 1) c.args.s.now c.in_ok-interval.interval = interval_told Prot _ _ _ (sym c.in_ok-interval.was ∙ c.interval_at.ensures) in
    closed_le _ _ ends shut

pub overflow_add-at-then-begins : goal.overflow_add-at-then-begins
overflow_add-at-then-begins c =
    let shut : starts (ascii ")") (take (length c.args.s.now - c.in_ok-interval.interval.len) (drop c.in_ok-interval.interval.len c.args.s.now)) ≡ true = sym c.begins.ensures ∙ c.if-begins.true in
    let ends : IntervalTold Prot (c.args.at + 1) c.args.s.now c.in_ok-interval.interval = interval_told Prot _ _ _ (sym c.in_ok-interval.was ∙ c.interval_at.ensures) in
    omega (arith, closed_le _ _ ends shut, c.requires)

pub after_location-requires : goal.after_location-requires
after_location-requires c =
    let shut : starts (ascii ")") (take (length c.args.s.now - c.in_ok-interval.interval.len) (drop c.in_ok-interval.interval.len c.args.s.now)) ≡ true = sym c.begins.ensures ∙ c.if-begins.true in
    let ends : IntervalTold Prot (c.args.at + 1) c.args.s.now c.in_ok-interval.interval = interval_told Prot _ _ _ (sym c.in_ok-interval.was ∙ c.interval_at.ensures) in
    let h = closed_le _ _ ends shut in
    let r = tail_room (c.args.at + 1) (c.in_ok-interval.interval.len + 1) c.args.s.now c.requires h in
    (omega arith, omega (arith, c.requires))

pub returns-then-begins : goal.returns-then-begins
returns-then-begins c =
    let shut : starts (ascii ")") (take (length c.args.s.now - c.in_ok-interval.interval.len) (drop c.in_ok-interval.interval.len c.args.s.now)) ≡ true = sym c.begins.ensures ∙ c.if-begins.true in
    let ends : IntervalTold Prot (c.args.at + 1) c.args.s.now c.in_ok-interval.interval = interval_told Prot _ _ _ (sym c.in_ok-interval.was ∙ c.interval_at.ensures) in
    shut_found _ _ ends shut _ _ c.uncertain.ensures c.settled_if.ensures _ c.after_location.ensures

pub slice_bounds-inside_brackets-count : goal.slice_bounds-inside_brackets-count
slice_bounds-inside_brackets-count c =
    let ends : IntervalTold Prot (c.args.at + 1) c.args.s.now c.in_ok-interval.interval = interval_told Prot _ _ _ (sym c.in_ok-interval.was ∙ c.interval_at.ensures) in
    interval_within Prot ends

pub slice_bounds-inside_brackets-start : goal.slice_bounds-inside_brackets-start
slice_bounds-inside_brackets-start c =
    let ends : IntervalTold Prot (c.args.at + 1) c.args.s.now c.in_ok-interval.interval = interval_told Prot _ _ _ (sym c.in_ok-interval.was ∙ c.interval_at.ensures) in
    interval_within Prot ends

pub overflow_add-at-3 : goal.overflow_add-at-3
overflow_add-at-3 c =
    let ends : IntervalTold Prot (c.args.at + 1) c.args.s.now c.in_ok-interval.interval = interval_told Prot _ _ _ (sym c.in_ok-interval.was ∙ c.interval_at.ensures) in
    omega (arith, interval_within Prot ends, c.requires)

pub inside_brackets-requires : goal.inside_brackets-requires
inside_brackets-requires c =
    let ends : IntervalTold Prot (c.args.at + 1) c.args.s.now c.in_ok-interval.interval = interval_told Prot _ _ _ (sym c.in_ok-interval.was ∙ c.interval_at.ensures) in
    (tail_room _ _ c.args.s.now c.requires (interval_within Prot ends), omega (arith, interval_within Prot ends, c.requires))

pub returns : goal.returns
returns c =
    let ends : IntervalTold Prot (c.args.at + 1) c.args.s.now c.in_ok-interval.interval = interval_told Prot _ _ _ (sym c.in_ok-interval.was ∙ c.interval_at.ensures) in
    brackets_found _ _ ends (sym c.begins.ensures ∙ c.if-begins.false) _ c.inside_brackets.ensures
