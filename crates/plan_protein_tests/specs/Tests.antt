-- Tests of the residues, the terminal and the number that a protein edit has.
use Rattle.std.specs.Prelude.{ℕ, zero, suc, List, Bool, true, false, ◌||◌, ℤ, pos, negsuc}
use Rattle.texts.specs.Ascii.{ascii}
use Rattle.texts.specs.Words.{same}
use Rattle.numerals.specs.Reading.{fits}
use Rattle.numerals.specs.declared.Sign.TheVariants.{Negated}
use Rattle.residue.specs.Residues.{is_residue}
use Rattle.record.specs.declared.Span.{Span}
use Rattle.record.specs.Named.{Part}
use Rattle.grammar.specs.Spans.{part, optional_part}
use Rattle.lang_protein_edits.specs.Canon.{is_optional}

-- what the negative of unsigned digits that fit may be
abbrev pub is_negated : ℤ → Bool
is_negated (pos zero) = true
is_negated (pos (suc v)) = false
is_negated (negsuc v) = fits Negated (suc v)

unfoldable pub is_terminal : List ℕ → Bool
is_terminal w = same w (ascii "Ter") || (same w (ascii "X") || same w (ascii "*"))

module _ (s : List ℕ) where
  -- a residue, or none
  abbrev pub is_optional_part : Part → Bool
  is_optional_part r = is_optional (optional_part s r)

  unfoldable pub is_subst : Span → Bool
  is_subst p = is_residue (part s p) || same (part s p) (ascii "?")
