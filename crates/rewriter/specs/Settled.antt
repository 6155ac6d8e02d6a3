-- What is written for a settled text: the text itself.
use Rattle.std.specs.Prelude.{ℕ, ◌≤◌, ◌≡◌, List, true, ◌&&◌, length}
use Rattle.std.proofs.Common.{sym, ◌∙◌}
use Rattle.std.proofs.Math.Option.{some}
use Rattle.texts.proofs.Tests.{and-true}
use Rattle.record.specs.declared.HgvsVariant.{HgvsVariant}
use Rattle.record.specs.declared.Wording.TheVariants.{Shortest}
use Rattle.record.specs.Named.{WriteAnswer}
use Rattle.grammar.specs.Texts.{all_letters}
use Rattle.grammar.specs.Contents.{content}
use Rattle.grammar.proofs.ContentLaw.{content_is}
use Rattle.grammar.specs.Numbers.{numbers_at}
use Rattle.grammar.specs.NumberLaws.{is_faultless, all_plain}
use Rattle.lang_na_edits.proofs.Alphabet.{alphabets}
use Rattle.lang_bodies.proofs.WholeText.{parse_text, complete_text}
use Rattle.lang_bodies.specs.Settled.{settled_text}
use Rattle.lang_bodies.proofs.Settled.{is_settled, parsed_settled}
use Rattle.promise.specs.Outcome.{Outcome.given, write_outcome, limit}
use Rattle.promise.specs.Reading.{Reads, Reads.accepted}
use Rattle.promise.specs.Writing.{Writes, ToWrite}
use Rattle.promise.proofs.Accepted.{accepted_sound}
use Rattle.lang_canon.proofs.Settled.{settled_shortest}
use Rattle.emit_text.specs.Answered.{answered, left}
use Rattle.write_any.specs.AnyWrites.{text_writes}

module _ (s : List ℕ) (settled : is_settled all_letters alphabets s ≡ true) where
  pub settled_text_lem : (v : HgvsVariant) → Reads all_letters s (given v) → ToWrite all_letters (content s v) s
  settled_text_lem v (accepted short x tree fits) =
      let p : parse_text all_letters alphabets s ≡ some x = rw tree.text at (complete_text all_letters alphabets x tree.wf) in
      let a = and-true (is_faultless (numbers_at 0 x)) (all_plain (numbers_at 0 x) && settled_text x) (sym (parsed_settled all_letters alphabets s x short p) ∙ settled) in
      let b = and-true (all_plain (numbers_at 0 x)) (settled_text x) a.1 in
      rw (← tree.text, content_is x) (settled_shortest all_letters alphabets x tree.wf fits b.0 b.1)

  pub settled_short : (v : HgvsVariant) → Reads all_letters s (given v) → length s ≤ limit
  settled_short v (accepted short x tree fits) = short

  pub settled_writes : (v : HgvsVariant) → Reads all_letters s (given v) → (output : List ℕ) (a : WriteAnswer) (o : List ℕ) → a ≡ answered s output → o ≡ left s output → Writes all_letters (ToWrite all_letters) s v output (write_outcome a) o
  settled_writes v reads output a o e f = rw (e, f) (text_writes s v output Shortest (accepted_sound all_letters s v reads) s (settled_text_lem v reads))
