-- What is measured for the header and the body of a record is what the record asks for.
use Rattle.std.specs.Prelude.{ℕ, ◌≡◌, List, Ok, Err}
use Rattle.std.proofs.Common.{sym}
use Rattle.std.proofs.Math.Option.{Option, none, some}
use Rattle.record.specs.declared.Header.{Header}
use Rattle.record.specs.declared.HgvsVariant.{HgvsVariant}
use Rattle.record.specs.declared.Wording.TheVariants.{Shortest}
use Rattle.record.specs.Named.{WidthAnswer}
use Rattle.grammar.specs.Texts.{all_letters}
use Rattle.promise.specs.Outcome.{width_outcome}
use Rattle.promise.specs.Width.{body_width, Measures}
use Rattle.any_body.specs.declared.AnyBody.{AnyBody}
use Rattle.any_body.specs.AnyBodies.{any_body}
use Rattle.measure_body.specs.Widths.{any_width, any_body_width}
use Rattle.plan_text.specs.Named.{TextPlan}
use Rattle.plan_record.specs.RecordPlans.{record_plan}
use Rattle.plan_record.specs.PlanSays.{Says, plan_says}
use Rattle.measure_any.specs.PlanMeasured.{plan_measured}

module _ (source : List ℕ) (v : HgvsVariant) where
  said_measures : (p : TextPlan) → Says source Shortest v p → (width : Option ℕ) → body_width v.body ≡ width → Measures all_letters source v (width_outcome (plan_measured p width))
  said_measures (Err r) says width e = rw says.1 (Measures.unsound _ says.0)
  said_measures (Ok d) says none e = Measures.no_width says.0 e
  said_measures (Ok d) says (some n) e = Measures.measured says.0 n e

  pub any_measures : (h : Header) (b : AnyBody) → v.header ≡ h → any_body v.body ≡ b → (a : WidthAnswer) → a ≡ plan_measured (record_plan source Shortest h b) (any_width b) → Measures all_letters source v (width_outcome a)
  any_measures h b header_is body_is a e =
      rw (e, ← header_is, ← body_is)
      (said_measures (record_plan source Shortest v.header (any_body v.body)) (plan_says source Shortest v) (any_width (any_body v.body)) (sym (any_body_width v.body)))
