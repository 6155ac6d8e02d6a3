-- The pieces to be written for a protein edit with `fs` or `ext`: the cases of its canonical tree, with spans for residues and terminals.
use Rattle.std.specs.Prelude.{ℕ, List, Bool, true, false, cond, ◌&&◌, nat_abs, None, Some}
use Prim.Native.Char.{code}
use Rattle.record.specs.declared.Span.{Span}
use Rattle.record.specs.Named.{Part}
use Rattle.record.specs.declared.UncertainLengthChange.{UncertainLengthChange}
use Rattle.record.specs.declared.UncertainLengthChange.TheVariants.{None as NoLength, Unknown, Known}
use Rattle.grammar.specs.Spans.{part}
use Rattle.emit_word.specs.declared.Word.{Word}
use Rattle.emit_word.specs.declared.Word.TheVariants.{Empty, Fs, Ext, Question}
use Rattle.emit_piece.specs.Named.{OneByte, Amount}
use Rattle.emit_piece.specs.Texts.{no_span}
use Rattle.emit_edit.specs.declared.EditPieces.{EditPieces}
use Rattle.plan_edits.specs.Named.{EditPlan}
use Rattle.plan_edits.specs.EditPlans.{edit_if, is_unsigned}
use Rattle.plan_protein_tests.specs.Tests.{is_negated, is_terminal, is_optional_part}

-- ---- what the pieces are
abbrev pub span_of : Part → Span
span_of None = no_span
span_of (Some p) = p

-- a length: its digits, or `?`, or nothing
abbrev pub amount_of : UncertainLengthChange → Amount
amount_of NoLength = None
amount_of Unknown = None
amount_of (Known z) = Some (nat_abs z)

abbrev pub joint_of : UncertainLengthChange → Word
joint_of NoLength = Empty
joint_of Unknown = Question
joint_of (Known z) = Empty

-- an optional residue, a word, an optional terminal or residue, a sign, a length
abbrev pub end_pieces : Part → Word → Part → OneByte → UncertainLengthChange → EditPieces
end_pieces r word t sign n = record { first = span_of r; word = word; second = span_of t; sign = sign; amount = amount_of n; joint = joint_of n; last = no_span }

-- ---- tests
abbrev pub is_length : UncertainLengthChange → Bool
is_length NoLength = true
is_length Unknown = true
is_length (Known z) = is_unsigned z

abbrev pub is_none : UncertainLengthChange → Bool
is_none NoLength = true
is_none Unknown = false
is_none (Known z) = false

module _ (s : List ℕ) where
  -- a terminal with a length, or neither
  abbrev pub is_terminal_with : Span → UncertainLengthChange → Bool
  is_terminal_with p n = is_terminal (part s p) && is_length n

  abbrev pub is_stop : Part → UncertainLengthChange → Bool
  is_stop None n = is_none n
  is_stop (Some p) n = is_terminal_with p n

  -- a residue or none, with `-` and a number
  abbrev pub is_earlier : Part → UncertainLengthChange → Bool
  is_earlier t NoLength = false
  is_earlier t Unknown = false
  is_earlier t (Known z) = is_optional_part s t && is_negated z

  -- ---- plans
  unfoldable pub plan_fs : Part → Part → UncertainLengthChange → EditPlan
  plan_fs r t n = cond (is_optional_part s r) (edit_if (is_stop t n) (end_pieces r Fs t None n)) None

  -- `extTer0`, and `-` where no terminal does
  unfoldable pub plan_ext : Part → Part → UncertainLengthChange → EditPlan
  plan_ext r t n =
      cond (is_optional_part s r)
      (cond (is_stop t n) (Some (end_pieces r Ext t None n))
      (edit_if (is_earlier t n) (end_pieces r Ext t (Some (code "-")) n)))
      None
