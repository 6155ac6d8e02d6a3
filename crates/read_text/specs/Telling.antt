-- What is told of a text: why it is refused; or the header and the body of its record, and whether it is settled.
use Rattle.std.specs.Prelude.{Result, Ok, Err, ℕ, ◌<◌, ◌≡◌, List, Bool, length}
use Rattle.record.specs.declared.Header.{Header}
use Rattle.record.specs.declared.HgvsVariant.{HgvsVariant}
use Rattle.record.specs.declared.Refusal.{Refusal}
use Rattle.record.specs.declared.Refusal.TheVariants.{TooLong}
use Rattle.grammar.specs.Texts.{all_letters}
use Rattle.lang_na_edits.proofs.Alphabet.{alphabets}
use Rattle.lang_bodies.proofs.Settled.{is_settled}
use Rattle.lang_bodies.proofs.Outcomes.{long_outcome, outcome_reads}
use Rattle.promise.specs.Outcome.{Outcome.given, refusal_outcome, limit}
use Rattle.promise.specs.Reading.{Reads}
use Rattle.any_body.specs.declared.AnyBody.{AnyBody}
use Rattle.any_body.specs.AnyBodies.{any_body}
use Rattle.read_text.specs.declared.Reading.{Reading}

-- the record that the text reads as has this header and this body
pub record ReadAs (t : List ℕ) (h : Header) (b : AnyBody) (settled : Bool) : Type 0 where
  pub variant : HgvsVariant
  pub reads : Reads all_letters t (given variant)
  pub header_is : variant.header ≡ h
  pub body_is : any_body variant.body ≡ b
  pub settled_is : settled ≡ is_settled all_letters alphabets t

abbrev pub Tells : List ℕ → Result Reading Refusal → Type 0
Tells t (Err why) = Reads all_letters t (refusal_outcome why)
Tells t (Ok r) = ReadAs t r.header r.body r.settled

pub long_told : (t : List ℕ) → limit < length t → Tells t (Err TooLong)
long_told t h = outcome_reads all_letters alphabets t (long_outcome all_letters alphabets t h)
