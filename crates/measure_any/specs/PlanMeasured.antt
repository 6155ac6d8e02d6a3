-- What measuring answers, by what was planned and by the width.
use Rattle.std.specs.Prelude.{ℕ, ◌≡◌, List, Ok, Err, None, Some}
use Rattle.std.proofs.Math.Option.{Option, none, some}
use Rattle.record.specs.declared.Header.{Header}
use Rattle.record.specs.declared.Refusal.{Refusal}
use Rattle.record.specs.declared.Refusal.TheVariants.{NoWidth}
use Rattle.record.specs.Named.{WidthAnswer}
use Rattle.record.specs.declared.Wording.TheVariants.{Shortest}
use Rattle.any_body.specs.declared.AnyBody.{AnyBody}
use Rattle.emit_draft.specs.declared.Draft.{Draft}
use Rattle.measure_location.specs.Named.{LocationWidth}
use Rattle.measure_location.specs.LocationWidths.{width_given}
use Rattle.plan_text.specs.Named.{TextPlan}
use Rattle.plan_record.specs.RecordPlans.{record_plan}
use Rattle.measure_body.specs.Widths.{any_width}

abbrev pub plan_measured : TextPlan → Option ℕ → WidthAnswer
plan_measured (Err r) width = Err r
plan_measured (Ok d) none = Err NoWidth
plan_measured (Ok d) (some n) = Ok n

-- by what was planned
module _ (source : List ℕ) (h : Header) (b : AnyBody) (p : TextPlan) (planned : p ≡ record_plan source Shortest h b) where
  abbrev answer : WidthAnswer
  answer = plan_measured (record_plan source Shortest h b) (any_width b)

  pub refused : (r : Refusal) → p ≡ Err r → Err r ≡ answer
  refused r e = rw (← planned, e)

  module _ (d : Draft) (e : p ≡ Ok d) (l : LocationWidth) (given : width_given l ≡ any_width b) where
    pub no_width_lem : l ≡ None → Err NoWidth ≡ answer
    no_width_lem f = rw (← planned, e, ← given, f)

    pub measured : (n : ℕ) → l ≡ Some n → Ok n ≡ answer
    measured n f = rw (← planned, e, ← given, f)
