use mathlib.Core.Path.{sym, ◌∙◌}
use native.Mathlib.Omega.{arith}
use Rattle.record.specs.declared.Kind.TheVariants.{Prot}
use Rattle.read_location.specs.Told.{IntervalTold, interval_told, interval_within}
use Rattle.texts.proofs.Slices.{tail_room}
use Rattle.read_protein_change.proofs.ProteinChangeCases.{bare_none, bare_found}
use Rattle.read_protein_change.proofs.bare.Goals as goal

pub returns-in_err-interval : goal.returns-in_err-interval
returns-in_err-interval c = c.from_residual.ensures ∙ bare_none _ _ (sym c.in_err-interval.was ∙ c.interval_at.ensures)

pub slice_bounds-after_location-count : goal.slice_bounds-after_location-count
slice_bounds-after_location-count c =
    let ends : IntervalTold Prot c.args.at c.args.s.now c.in_ok-interval.interval = interval_told Prot _ _ _ (sym c.in_ok-interval.was ∙ c.interval_at.ensures) in
    interval_within Prot ends

pub slice_bounds-after_location-start : goal.slice_bounds-after_location-start
slice_bounds-after_location-start c =
    let ends : IntervalTold Prot c.args.at c.args.s.now c.in_ok-interval.interval = interval_told Prot _ _ _ (sym c.in_ok-interval.was ∙ c.interval_at.ensures) in
    interval_within Prot ends

pub overflow_add-at : goal.overflow_add-at
overflow_add-at c =
    let ends : IntervalTold Prot c.args.at c.args.s.now c.in_ok-interval.interval = interval_told Prot _ _ _ (sym c.in_ok-interval.was ∙ c.interval_at.ensures) in
    omega (arith, interval_within Prot ends, c.requires)

pub after_location-requires : goal.after_location-requires
after_location-requires c =
    let ends : IntervalTold Prot c.args.at c.args.s.now c.in_ok-interval.interval = interval_told Prot _ _ _ (sym c.in_ok-interval.was ∙ c.interval_at.ensures) in
    (tail_room _ _ c.args.s.now c.requires (interval_within Prot ends), omega (arith, interval_within Prot ends, c.requires))

pub returns : goal.returns
returns c =
    let ends : IntervalTold Prot c.args.at c.args.s.now c.in_ok-interval.interval = interval_told Prot _ _ _ (sym c.in_ok-interval.was ∙ c.interval_at.ensures) in
    bare_found _ _ ends _ c.after_location.ensures
