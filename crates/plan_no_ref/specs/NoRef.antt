-- The pieces to be written for a nucleotide edit without the reference, and that its text is the one promised.
use Rattle.std.specs.Prelude.{ℕ, ◌≡◌, List, Bool, cond}
use Rattle.std.proofs.Math.Path.{refl}
use Rattle.std.proofs.Math.Bool.{true, false}
use Rattle.record.specs.declared.Span.{Span}
use Rattle.record.specs.declared.NaEdit.{NaEdit}
use Rattle.record.specs.declared.NaEdit.TheVariants as Na
use Rattle.grammar.specs.Contents.{na_edit_content}
use Rattle.promise.specs.NoRef.{no_ref_edit}
use Rattle.emit_word.specs.declared.Word.TheVariants.{Del, Ins, DelIns, Dup, Inv, Equal, Greater}
use Rattle.emit_edit.specs.declared.EditPieces.{EditPieces}
use Rattle.emit_edit.specs.Texts.{edit_text}
use Rattle.plan_edits.specs.EditPlans.{letters_edit, word_edit, word_alone}
use Rattle.plan_edits.specs.PlanTexts.{letters_text, word_text_lem, word_alone_lem}
use Rattle.plan_na_tests.specs.Tests.{same_parts, one_each_parts}

module _ (s : List ℕ) where
  unfoldable pub no_ref_alt : Span → Span → EditPieces
  no_ref_alt p q =
      cond (same_parts s p q) (word_alone Equal)
      (cond (one_each_parts s p q) (letters_edit p Greater q) (word_edit DelIns q))

  abbrev pub no_ref_pieces : NaEdit → EditPieces
  no_ref_pieces (Na.RefAlt p q) = no_ref_alt p q
  no_ref_pieces (Na.NumAlt n q) = word_edit DelIns q
  no_ref_pieces (Na.DelRef p) = word_alone Del
  no_ref_pieces (Na.DelNum n) = word_alone Del
  no_ref_pieces (Na.Ins q) = word_edit Ins q
  no_ref_pieces (Na.Dup p) = word_alone Dup
  no_ref_pieces (Na.InvRef p) = word_alone Inv
  no_ref_pieces (Na.InvNum n) = word_alone Inv

-- ---- its text
module _ (s : List ℕ) where
  no_ref_alt_lem : (p q : Span) → edit_text s (no_ref_alt s p q) ≡ no_ref_edit (na_edit_content s (Na.RefAlt p q))
  unfolding no_ref_alt
  no_ref_alt_lem p q = go (same_parts s p q) (one_each_parts s p q) refl refl
    where
      go : (t u : Bool) → same_parts s p q ≡ t → one_each_parts s p q ≡ u → edit_text s (no_ref_alt s p q) ≡ no_ref_edit (na_edit_content s (Na.RefAlt p q))
      go true u e f = rw (e, no_ref_alt) (word_alone_lem s Equal)
      go false true e f = rw (e, f, no_ref_alt) (letters_text s p Greater q)
      go false false e f = rw (e, f, no_ref_alt) (word_text_lem s DelIns q)

  pub no_ref_text : (e : NaEdit) → edit_text s (no_ref_pieces s e) ≡ no_ref_edit (na_edit_content s e)
  no_ref_text (Na.RefAlt p q) = no_ref_alt_lem p q
  no_ref_text (Na.NumAlt n q) = word_text_lem s DelIns q
  no_ref_text (Na.DelRef p) = word_alone_lem s Del
  no_ref_text (Na.DelNum n) = word_alone_lem s Del
  no_ref_text (Na.Ins q) = word_text_lem s Ins q
  no_ref_text (Na.Dup p) = word_alone_lem s Dup
  no_ref_text (Na.InvRef p) = word_alone_lem s Inv
  no_ref_text (Na.InvNum n) = word_alone_lem s Inv
