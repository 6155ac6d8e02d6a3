-- What writing a plan answers and leaves.
use Rattle.std.specs.Prelude.{ℕ, ◌≡◌, refl, List, Err, Ok}
use Rattle.record.specs.declared.Header.{Header}
use Rattle.record.specs.declared.Refusal.{Refusal}
use Rattle.record.specs.declared.Wording.{Wording}
use Rattle.record.specs.Named.{WriteAnswer}
use Rattle.any_body.specs.declared.AnyBody.{AnyBody}
use Rattle.emit_draft.specs.declared.Draft.{Draft}
use Rattle.emit_draft.specs.Texts.{draft_text}
use Rattle.emit_text.specs.Answered.{answered, left}
use Rattle.plan_text.specs.Named.{TextPlan}
use Rattle.plan_record.specs.RecordPlans.{record_plan}

module _ (source : List ℕ) where
  abbrev pub plan_answered : TextPlan → List ℕ → WriteAnswer
  plan_answered (Err r) output = Err r
  plan_answered (Ok d) output = answered (draft_text source d) output

  abbrev pub plan_left : TextPlan → List ℕ → List ℕ
  plan_left (Err r) output = output
  plan_left (Ok d) output = left (draft_text source d) output

  -- by what was planned
  module _ (w : Wording) (h : Header) (b : AnyBody) (output : List ℕ) (p : TextPlan) (planned : p ≡ record_plan source w h b) where
    abbrev Gives : WriteAnswer → List ℕ → Type 0
    Gives a o = (a ≡ plan_answered (record_plan source w h b) output) × (o ≡ plan_left (record_plan source w h b) output)

    pub refused : (r : Refusal) → p ≡ Err r → Gives (Err r) output
    refused r e = rw (← planned, e) (refl, refl)

    pub drafted : (d : Draft) → p ≡ Ok d → (a : WriteAnswer) (o : List ℕ) → a ≡ answered (draft_text source d) output → o ≡ left (draft_text source d) output → Gives a o
    drafted d e a o f g = rw (← planned, e) (f, g)
