-- What the plan of a record says: of a refusal its number; of a text that it is the one wanted, of a record that is sound.
use Rattle.std.specs.Prelude.{ℕ, ◌≤◌, ◌≡◌, List, Bool, true, false, cond, leb, length, Ok, Err}
use Rattle.std.proofs.Math.Path.{refl}
use Rattle.std.proofs.Common.{leb-true, leb-false}
use Rattle.record.specs.declared.HgvsVariant.{HgvsVariant}
use Rattle.record.specs.declared.Refusal.TheVariants.{TooLong, BadSpan}
use Rattle.record.specs.declared.Wording.{Wording}
use Rattle.grammar.specs.Texts.{all_letters}
use Rattle.grammar.specs.Contents.{content, spans_inside}
use Rattle.promise.specs.Outcome.{number_and_place, limit}
use Rattle.promise.specs.Writing.{Sound, Unsound}
use Rattle.lang_canon.specs.Wording.{Wanted}
use Rattle.any_body.specs.AnyBodies.{any_body}
use Rattle.emit_draft.specs.Texts.{draft_text}
use Rattle.record_inside.specs.AnyInside.{spans_inside_lem}
use Rattle.plan_text.specs.Named.{TextPlan}
use Rattle.plan_text.specs.Plan.{text_plan, refuses_no_text}
use Rattle.plan_text.specs.Planned.{sound_plan, unsound_plan}
use Rattle.plan_record.specs.RecordPlans.{record_plan}

module _ (s : List ℕ) (w : Wording) (v : HgvsVariant) where
  abbrev pub Says : TextPlan → Type 0
  Says (Err r) = Unsound all_letters s v (number_and_place r).0 × ((number_and_place r).1 ≡ 0)
  Says (Ok d) = Sound all_letters s v × Wanted all_letters w (content s v) (draft_text s d)

  abbrev own : TextPlan
  own = text_plan s w v.header (any_body v.body)

  text_says : length s ≤ limit → spans_inside (length s) v ≡ true → (p : TextPlan) → own ≡ p → Says p
  text_says short isIn (Err r) f = rw (refuses_no_text s w v.header (any_body v.body) r f) (unsound_plan s w v short isIn r f, refl)
  text_says short isIn (Ok d) f = sound_plan s w v short isIn d f

  tested_says : (x y : Bool) → leb (length s) limit ≡ x → spans_inside (length s) v ≡ y → Says (cond x (cond y own (Err BadSpan)) (Err TooLong))
  tested_says false y f g = (Unsound.too_long (leb-false (length s) limit f), refl)
  tested_says true false f g = (Unsound.bad_span (leb-true (length s) limit f) g, refl)
  tested_says true true f g = text_says (leb-true (length s) limit f) g own refl

  pub plan_says : Says (record_plan s w v.header (any_body v.body))
  unfolding record_plan
  plan_says = rw (spans_inside_lem (length s) v) (tested_says (leb (length s) limit) (spans_inside (length s) v) refl refl)
