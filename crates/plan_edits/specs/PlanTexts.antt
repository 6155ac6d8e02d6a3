-- The text of a plan, by the tests that were made.
use Rattle.std.specs.Prelude.{ℕ, ◌≡◌, refl, Bool, true, false, cond, ℤ, pos, negsuc, nat_abs, None, Some}
use mathlib.Core.List.{List, ◌++◌, append-nil}
use Rattle.std.proofs.Math.Option.{Option, none, some}
use Rattle.numerals.specs.Digits.{dec}
use Rattle.numerals.specs.Written.{unsigned_digits}
use Rattle.record.specs.declared.Span.{Span}
use Rattle.grammar.specs.Spans.{part}
use Rattle.lang.specs.Canon.{map_o}
use Rattle.emit_word.specs.declared.Word.{Word}
use Rattle.emit_edit.specs.declared.EditPieces.{EditPieces}
use Rattle.emit_word.specs.Words.{word_text}
use Rattle.emit_edit.specs.Texts.{edit_text}
use Rattle.emit_piece.specs.PartLengths.{no_part}
use Rattle.plan_edits.specs.Named.{EditPlan}
use Rattle.plan_edits.specs.EditPlans.{plan_text, edit_if, letters_edit, word_edit, word_alone, is_unsigned}

module _ (s : List ℕ) where
  pub letters_text : (first : Span) (word : Word) (second : Span) → edit_text s (letters_edit first word second) ≡ part s first ++ (word_text word ++ part s second)
  unfolding edit_text
  letters_text first word second = rw (no_part s, append-nil (part s second))

  pub word_text_lem : (word : Word) (p : Span) → edit_text s (word_edit word p) ≡ word_text word ++ part s p
  unfolding edit_text
  word_text_lem word p = rw (no_part s, append-nil (part s p))

  pub word_alone_lem : (word : Word) → edit_text s (word_alone word) ≡ word_text word
  unfolding edit_text
  word_alone_lem word = rw (no_part s, append-nil (word_text word))

  -- ---- a plan has the text of a tree, if there is one
  module _ {A : Type 0} (print : A → List ℕ) where
    pub either : (b : Bool) (x y : EditPlan) (o u : Option A) → (b ≡ true → plan_text s x ≡ map_o print o) → (b ≡ false → plan_text s y ≡ map_o print u) → plan_text s (cond b x y) ≡ map_o print (cond b o u)
    either true x y o u f g = f refl
    either false x y o u f g = g refl

    pub pieces_text : (pieces : EditPieces) (t : A) → edit_text s pieces ≡ print t → plan_text s (Some pieces) ≡ map_o print (some t)
    pieces_text pieces t e = rw e

    pub edit_if_lem : (b : Bool) (pieces : EditPieces) (t : A) → edit_text s pieces ≡ print t → plan_text s (edit_if b pieces) ≡ map_o print (cond b (some t) none)
    edit_if_lem b pieces t e = either b (Some pieces) None (some t) none (λ h. pieces_text pieces t e) (λ h. refl)

pub unsigned_digits_lem : (z : ℤ) → unsigned_digits z ≡ cond (is_unsigned z) (some (dec (nat_abs z))) none
unsigned_digits_lem (pos v) = refl
unsigned_digits_lem (negsuc v) = refl
