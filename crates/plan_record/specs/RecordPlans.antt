-- What is planned for a record, by the checks on it and its source: 1 (source), 4 and 5.
use Rattle.std.specs.Prelude.{ℕ, ◌≤◌, ◌<◌, ◌≡◌, List, Bool, cond, ◌&&◌, Ok, Err}
use Rattle.std.proofs.Math.Path.{refl}
use Rattle.std.proofs.Common.{ap}
use Rattle.std.proofs.Math.Bool.{true, false}
use Rattle.std.proofs.Math.Dec.{leb}
use Rattle.std.proofs.Math.ListN.{length}
use borrow.Author.Tests.{leb-true, le-leb, lt-leb}
use Rattle.texts.proofs.Tests.{clash}
use Rattle.record.specs.declared.Header.{Header}
use Rattle.record.specs.declared.Refusal.TheVariants.{TooLong, BadSpan}
use Rattle.record.specs.declared.Wording.{Wording}
use Rattle.promise.specs.Outcome.{limit}
use Rattle.any_body.specs.declared.AnyBody.{AnyBody}
use Rattle.record_inside.specs.AnyInside.{header_inside, any_inside}
use Rattle.emit_draft.specs.declared.Draft.{Draft}
use Rattle.plan_text.specs.Named.{TextPlan}
use Rattle.plan_text.specs.Plan.{text_plan}

abbrev is_text : TextPlan → Bool
is_text (Err r) = false
is_text (Ok d) = true

module _ (s : List ℕ) (w : Wording) (h : Header) (b : AnyBody) where
  unfoldable pub record_plan : TextPlan
  record_plan =
      cond (leb (length s) limit)
      (cond (header_inside (length s) h && any_inside (length s) b) (text_plan s w h b) (Err BadSpan))
      (Err TooLong)

  -- by the tests that were made
  pub too_long : limit < length s → Err TooLong ≡ record_plan
  unfolding record_plan
  too_long e = rw (lt-leb (length s) limit e)

  module _ (short : length s ≤ limit) (x : Bool) (tested : x ≡ header_inside (length s) h && any_inside (length s) b) where
    pub bad_span_lem : x ≡ false → Err BadSpan ≡ record_plan
    unfolding record_plan
    bad_span_lem e = rw (le-leb (length s) limit short, ← tested, e)

    pub planned : x ≡ true → (p : TextPlan) → p ≡ text_plan s w h b → p ≡ record_plan
    unfolding record_plan
    planned e p f = rw (le-leb (length s) limit short, ← tested, e) f

  -- where there is a text, the source is short
  pub text_short : (p : TextPlan) → p ≡ record_plan → (d : Draft) → p ≡ Ok d → length s ≤ limit
  unfolding record_plan
  text_short p e d f = go (leb (length s) limit) refl (rw f at (ap is_text e))
    where
      go : (x : Bool) → leb (length s) limit ≡ x → true ≡ is_text (cond x (cond (header_inside (length s) h && any_inside (length s) b) (text_plan s w h b) (Err BadSpan)) (Err TooLong)) → length s ≤ limit
      go true g i = leb-true (length s) limit g
      go false g i = absurd (clash refl i)
