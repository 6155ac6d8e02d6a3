-- What checking and measuring a text answer, by what reading it told.
use Rattle.std.specs.Prelude.{ℕ, ◌≡◌, List, Bool}
use Rattle.record.specs.declared.Header.{Header}
use Rattle.record.specs.declared.Refusal.{Refusal}
use Rattle.record.specs.Named.{WidthAnswer}
use Rattle.record.specs.declared.Wording.TheVariants.{Shortest}
use Rattle.grammar.specs.Texts.{all_letters}
use Rattle.promise.specs.Reading.{Reads}
use Rattle.promise.specs.Outcome.{Outcome.given, refusal_outcome, number_and_place, width_outcome}
use Rattle.any_body.specs.declared.AnyBody.{AnyBody}
use Rattle.plan_record.specs.RecordPlans.{record_plan}
use Rattle.measure_body.specs.Widths.{any_width}
use Rattle.measure_any.specs.PlanMeasured.{plan_measured}
use Rattle.measure_any.specs.AnyMeasures.{any_measures}
use Rattle.numbered.specs.declared.Answer.{Answer}
use Rattle.numbered.specs.Numbered.{bare_answer, refusal_numbers, numbered}
use Rattle.numbered.specs.TextOperations.{Checks, Gauges}
use Rattle.read_text.specs.Telling.{ReadAs}

module _ (t : List ℕ) (a : Answer) where
  module _ (why : Refusal) (x : Reads all_letters t (refusal_outcome why)) (f : a ≡ refusal_numbers why) where
    pub refused_checks : Checks t a
    refused_checks = rw f (Checks.checked (refusal_outcome why) x)

    pub refused_gauges : Gauges t a
    refused_gauges = rw f (Gauges.unread (number_and_place why).0 (number_and_place why).1 x)

  module _ (h : Header) (b : AnyBody) (settled : Bool) (x : ReadAs t h b settled) where
    pub read_checks : a ≡ bare_answer 0 0 → Checks t a
    read_checks f = rw f (Checks.checked (given x.variant) x.reads)

    pub read_gauges : (w : WidthAnswer) → w ≡ plan_measured (record_plan t Shortest h b) (any_width b) → a ≡ numbered (width_outcome w) → Gauges t a
    read_gauges w g f = rw f (Gauges.measured x.variant x.reads (width_outcome w) (any_measures t x.variant h b x.header_is x.body_is w g))
