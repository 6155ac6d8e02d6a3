-- What is written for the header and the body of a record is what the record asks for.
use Rattle.std.specs.Prelude.{ℕ, ◌≡◌, List, Bool, length, Ok, Err}
use Rattle.std.proofs.Math.Path.{refl}
use Rattle.std.proofs.Math.Bool.{true, false}
use Rattle.std.proofs.Math.Dec.{leb}
use Rattle.std.proofs.Common.{leb-true, leb-false}
use Rattle.record.specs.declared.Header.{Header}
use Rattle.record.specs.declared.HgvsVariant.{HgvsVariant}
use Rattle.record.specs.declared.Wording.{Wording}
use Rattle.record.specs.Named.{WriteAnswer}
use Rattle.grammar.specs.Texts.{all_letters}
use Rattle.grammar.specs.Contents.{content}
use Rattle.promise.specs.Outcome.{write_outcome, limit}
use Rattle.promise.specs.Writing.{Sound, Writes}
use Rattle.lang_canon.specs.Wording.{Wanted}
use Rattle.any_body.specs.declared.AnyBody.{AnyBody}
use Rattle.any_body.specs.AnyBodies.{any_body}
use Rattle.emit_draft.specs.Texts.{draft_text}
use Rattle.emit_text.specs.Answered.{answered, left}
use Rattle.plan_text.specs.Named.{TextPlan}
use Rattle.plan_record.specs.RecordPlans.{record_plan}
use Rattle.plan_record.specs.PlanSays.{Says, plan_says}
use Rattle.write_any.specs.PlanWritten.{plan_answered, plan_left}

module _ (source : List ℕ) (v : HgvsVariant) (output : List ℕ) (w : Wording) where
  abbrev Answers : WriteAnswer → List ℕ → Type 0
  Answers a o = Writes all_letters (Wanted all_letters w) source v output (write_outcome a) o

  -- of a text that is wanted
  module _ (sound : Sound all_letters source v) (t : List ℕ) (wanted : Wanted all_letters w (content source v) t) where
    pub text_writes : Answers (answered t output) (left t output)
    unfolding answered left
    text_writes = go (leb (length t) limit) (leb (length t) (length output)) refl refl
      where
        go : (x y : Bool) → leb (length t) limit ≡ x → leb (length t) (length output) ≡ y → Answers (answered t output) (left t output)
        go false y e f = rw (e, answered, left) (Writes.too_long sound t wanted (leb-false (length t) limit e))
        go true false e f = rw (e, f, answered, left) (Writes.no_room sound t wanted (leb-true (length t) limit e) (leb-false (length t) (length output) f))
        go true true e f = rw (e, f, answered, left) (Writes.written sound t wanted (leb-true (length t) limit e) (leb-true (length t) (length output) f))

  said_writes : (p : TextPlan) → Says source w v p → Answers (plan_answered source p output) (plan_left source p output)
  said_writes (Err r) says = rw says.1 (Writes.unsound _ says.0)
  said_writes (Ok d) says = text_writes says.0 (draft_text source d) says.1

  module _ (h : Header) (b : AnyBody) (header_is : v.header ≡ h) (body_is : any_body v.body ≡ b) where
    pub any_writes : (a : WriteAnswer) (o : List ℕ) → a ≡ plan_answered source (record_plan source w h b) output → o ≡ plan_left source (record_plan source w h b) output → Writes all_letters (Wanted all_letters w) source v output (write_outcome a) o
    any_writes a o e f = rw (e, f, ← header_is, ← body_is) (said_writes (record_plan source w v.header (any_body v.body)) (plan_says source w v))
