-- What reading answers to a text: the record with the spans of its parts, or the number of a refusal and its place.
use Rattle.std.specs.Prelude.{◌≡◌, refl}
use Rattle.std.proofs.Common.{sym, ◌∙◌}
use Rattle.texts.specs.Tables.{Each}
use Rattle.texts.proofs.Tables.{each_so, columns}
use Rattle.numerals.specs.Digits.{val_from}
use Rattle.numerals.specs.Reading.{or_zero}
use Rattle.record.specs.declared.MuCdsInterval.TheVariants as MuCds
use Rattle.record.specs.declared.MuGenomeInterval.TheVariants as MuGenome
use Rattle.record.specs.declared.MuProtInterval.TheVariants as MuProt
use Rattle.record.specs.declared.NaEdit as D
use Rattle.record.specs.declared.MuNaEdit.TheVariants as MuNa
use Rattle.record.specs.declared.MuProteinEdit.TheVariants as MuPr
use Rattle.record.specs.declared.Body.TheVariants as Bo
use Rattle.record.specs.Named.{ReadAnswer}
use Rattle.grammar.specs.Texts.{all_letters}
use Rattle.promise.specs.Outcome.{read_outcome}
use Rattle.promise.proofs.Unique.{same_read}
use Rattle.examples.specs.Tables.{Row}
use Rattle.lang_na_edits.proofs.Alphabet.{alphabets}
use Rattle.lang_bodies.proofs.Computing.{computing}
use Rattle.lang_bodies.proofs.TextOutcome.{text_outcome}
use Rattle.lang_bodies.proofs.Outcomes.{outcome_reads, read_outcome_lem}
use Rattle.examples.specs.Reading.{answers, IsAnswer}

abbrev Computed : Row ReadAnswer → Type 0
Computed r = text_outcome all_letters alphabets r.written ≡ read_outcome r.beside

computed : Each Computed answers
unfolding computing text_outcome val_from or_zero
computed = columns (λ r. text_outcome all_letters alphabets r.written) (λ r. read_outcome r.beside) answers refl

is_answer : (r : Row ReadAnswer) → Computed r → IsAnswer r.written r.beside
is_answer r e =
    record { reads = outcome_reads all_letters alphabets r.written e; only = λ b h. same_read b r.beside (sym (read_outcome_lem all_letters alphabets r.written h) ∙ e) }

pub answers_are : Each (λ r. IsAnswer r.written r.beside) answers
answers_are = each_so Computed _ is_answer answers computed
