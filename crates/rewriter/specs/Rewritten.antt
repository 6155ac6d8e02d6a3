-- What an operation on a text answers, by what reading the text told.
use Rattle.std.specs.Prelude.{ℕ, ◌≤◌, ◌≡◌, List, Bool, true, length}
use Rattle.std.proofs.Common.{sym, ◌∙◌}
use Rattle.record.specs.declared.Header.{Header}
use Rattle.record.specs.declared.Refusal.{Refusal}
use Rattle.record.specs.declared.Wording.{Wording}
use Rattle.record.specs.Named.{WriteAnswer}
use Rattle.grammar.specs.Texts.{all_letters}
use Rattle.grammar.specs.Values.{Value}
use Rattle.lang_canon.specs.Wording.{Wanted}
use Rattle.promise.specs.Outcome.{refusal_outcome, write_outcome, number_and_place, limit}
use Rattle.promise.specs.Reading.{Reads}
use Rattle.promise.specs.Writing.{ToWrite}
use Rattle.any_body.specs.declared.AnyBody.{AnyBody}
use Rattle.emit_text.specs.Answered.{answered, left}
use Rattle.plan_record.specs.RecordPlans.{record_plan}
use Rattle.write_any.specs.PlanWritten.{plan_answered, plan_left}
use Rattle.write_any.specs.AnyWrites.{any_writes}
use Rattle.numbered.specs.declared.Answer.{Answer}
use Rattle.numbered.specs.Numbered.{refusal_numbers, numbered}
use Rattle.numbered.specs.TextOperations.{Rewrites}
use Rattle.lang_na_edits.proofs.Alphabet.{alphabets}
use Rattle.lang_bodies.proofs.Settled.{is_settled}
use Rattle.read_text.specs.Telling.{ReadAs}
use Rattle.rewriter.specs.Settled.{settled_short, settled_writes}

module _ (t output : List ℕ) where
  -- a text that is refused
  pub unread : (T : Value → List ℕ → Type 0) (why : Refusal) → Reads all_letters t (refusal_outcome why) → (a : Answer) → a ≡ refusal_numbers why → Rewrites T t output a output
  unread T why x a f = rw f (Rewrites.unread (number_and_place why).0 (number_and_place why).1 x)

  module _ (h : Header) (b : AnyBody) (settled : Bool) (x : ReadAs t h b settled) where
    -- a text that was read, and then written
    pub written : (w : Wording) (given : WriteAnswer) (o : List ℕ) → given ≡ plan_answered t (record_plan t w h b) output → o ≡ plan_left t (record_plan t w h b) output → (a : Answer) → a ≡ numbered (write_outcome given) → Rewrites (Wanted all_letters w) t output a o
    written w given o e f a g = rw g (Rewrites.written x.variant x.reads (write_outcome given) o (any_writes t x.variant output w h b x.header_is x.body_is given o e f))

    -- a settled one, which is copied
    module _ (i : settled ≡ true) where
      is_so : is_settled all_letters alphabets t ≡ true
      is_so = sym x.settled_is ∙ i

      pub short : length t ≤ limit
      short = settled_short t is_so x.variant x.reads

      pub copied : (given : WriteAnswer) (o : List ℕ) → given ≡ answered t output → o ≡ left t output → (a : Answer) → a ≡ numbered (write_outcome given) → Rewrites (ToWrite all_letters) t output a o
      copied given o e f a g = rw g (Rewrites.written x.variant x.reads (write_outcome given) o (settled_writes t is_so x.variant x.reads output given o e f))
