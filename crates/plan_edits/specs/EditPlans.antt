-- What the planners of edits share: the pieces of an edit or no text, pieces of letters, and the numbers that may be written.
use Rattle.std.specs.Prelude.{ℕ, List, Bool, false, cond, ℤ, pos, negsuc, None, Some}
use Rattle.std.proofs.Math.Option.{Option, none, some}
use Rattle.numerals.specs.Reading.{fits}
use Rattle.numerals.specs.declared.Sign.TheVariants.{Unsigned}
use Rattle.record.specs.declared.Span.{Span}
use Rattle.emit_word.specs.declared.Word.{Word}
use Rattle.emit_word.specs.declared.Word.TheVariants.{Empty}
use Rattle.emit_edit.specs.declared.EditPieces.{EditPieces}
use Rattle.emit_piece.specs.Texts.{no_span}
use Rattle.emit_edit.specs.Texts.{edit_text}
use Rattle.plan_edits.specs.Named.{EditPlan}

-- the text of a plan, where it has one
abbrev pub plan_text : List ℕ → EditPlan → Option (List ℕ)
plan_text s None = none
plan_text s (Some pieces) = some (edit_text s pieces)

-- pieces that a test lets through
abbrev pub edit_if : Bool → EditPieces → EditPlan
edit_if b pieces = cond b (Some pieces) None

-- letters, a word, letters
abbrev pub letters_edit : Span → Word → Span → EditPieces
letters_edit first word second = record { first = first; word = word; second = second; sign = None; amount = None; joint = Empty; last = no_span }

abbrev pub word_edit : Word → Span → EditPieces
word_edit word p = letters_edit no_span word p

abbrev pub word_alone : Word → EditPieces
word_alone word = word_edit word no_span

-- what unsigned digits that fit may be
abbrev pub is_unsigned : ℤ → Bool
is_unsigned (pos v) = fits Unsigned v
is_unsigned (negsuc v) = false
