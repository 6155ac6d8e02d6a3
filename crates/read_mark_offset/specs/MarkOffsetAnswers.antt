-- What the routines give for the mark and the offset found: what they say, their lengths, and the faults of the offset.
use Rattle.std.specs.Prelude.{ℕ, ◌+◌, List, ◌∷◌, [], Bool, true, cond, eqb, ltb, length, get_or, Some}
use Prim.Native.Char.{code}
use Rattle.texts.specs.Runs.{run, front}
use Rattle.alphabet.specs.Letters.{digit}
use Rattle.numerals.specs.declared.Sign.{Sign}
use Rattle.record.specs.Named.{Offset}
use Rattle.grammar.specs.Positions.{Mark, OffsetTree, OffsetTree.absent, print_mark, print_offset}
use Rattle.grammar.specs.Meaning.{number, sign_of, from_of, offset_of}
use Rattle.grammar.specs.Numbers.{Numeral.numeral, offset_numbers}
use Rattle.read_scan.specs.declared.Found.{Found}
use Rattle.read_scan.specs.Faults.{faults}
use Rattle.read_mark_offset.specs.declared.MarkRead.{MarkRead}

-- the first byte lies above `*`, `+` and `-`
unfoldable pub above_signs : List ℕ → Bool
above_signs s = ltb (code "-") (get_or s 0 0)

abbrev pub mark_of : Mark → MarkRead
mark_of m = record { len = length (print_mark m); sign = sign_of m; cds_from = from_of m }

unfoldable pub offset_answer : ℕ → OffsetTree → Found Offset
offset_answer at o = record { value = offset_of o; len = length (print_offset o); faults = faults (offset_numbers at o) true }

-- s stands behind the sign of an offset that stands at `at`
unfoldable pub offset_behind : ℕ → Sign → List ℕ → Found Offset
offset_behind at sign s =
    cond (eqb (run digit s) 0) (offset_answer at absent)
    (record { value = Some (number sign (front digit s)); len = 1 + run digit s; faults = faults (numeral (at + 1) sign (front digit s) ∷ []) true })
