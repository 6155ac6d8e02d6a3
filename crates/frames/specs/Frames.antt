-- Change request 1: the bytes of a line of hexadecimal, the text of a list of lines, and the texts of a stream.
use Rattle.std.specs.Prelude.{ℕ, ◌+◌, ◌-◌, ◌*◌, ◌≡◌, true, cond, List, [], ◌∷◌, ◌++◌, length}
use Prim.Native.Char.{code}
use Rattle.std.proofs.Math.Option.{Option, none, some}
use Rattle.texts.specs.Runs.{every, Some}
use Rattle.alphabet.specs.Cells.{within}
use Rattle.lines.specs.Lines.{line_end}
use Rattle.lines.specs.Taking.{in_line}

-- a hexadecimal digit, of either case
unfoldable pub digit_value : ℕ → Option ℕ
digit_value b =
    cond (within (code "0") (code "9") b) (some (b - code "0"))
    (cond (within (code "A") (code "F") b) (some (b - code "A" + 10))
    (cond (within (code "a") (code "f") b) (some (b - code "a" + 10)) none))

-- two digits are a byte
abbrev pub two_digits : Option ℕ → Option ℕ → Option ℕ
two_digits (some high) (some low) = some (high * 16 + low)
two_digits (some high) none = none
two_digits none low = none

-- a byte, and those behind it
abbrev pub and_more : Option ℕ → Option (List ℕ) → Option (List ℕ)
and_more (some b) (some s) = some (b ∷ s)
and_more (some b) none = none
and_more none s = none

-- the bytes of a line, two digits each: none where a digit is odd or a byte is no digit
unfoldable pub bytes_of : List ℕ → Option (List ℕ)
bytes_of [] = some []
bytes_of (d ∷ []) = none
bytes_of (d ∷ e ∷ l) = and_more (two_digits (digit_value d) (digit_value e)) (bytes_of l)

-- 1 to 32 bytes
abbrev pub of_size : Option (List ℕ) → Option (List ℕ)
of_size none = none
of_size (some s) = cond (within 1 32 (length s)) (some s) none

-- the bytes of a line, and none of a bad line
unfoldable pub frame : List ℕ → Option (List ℕ)
frame l = of_size (bytes_of l)

-- the bytes of a frame, and those of the frames behind it
abbrev pub joined : Option (List ℕ) → Option (List ℕ) → Option (List ℕ)
joined (some a) (some b) = some (a ++ b)
joined (some a) none = none
joined none b = none

-- the text of its lines, and none where a line is bad
unfoldable pub text_of : List (List ℕ) → Option (List ℕ)
text_of [] = some []
text_of (l ∷ ls) = joined (frame l) (text_of ls)

-- lines that are not empty, each ended by LF
pub data Lines : List (List ℕ) → List ℕ → Type 0 where
  nothing : Lines [] []
  line : {l : List ℕ} {ls : List (List ℕ)} {s : List ℕ} → Some in_line l → Lines ls s → Lines (l ∷ ls) (l ++ (line_end ∷ s))

-- a stream: texts, each the lines before an empty line; and the lines and the bytes of a text that is not finished
pub data Stream : List (List (List ℕ)) → List (List ℕ) → List ℕ → List ℕ → Type 0 where
  unfinished : {ls : List (List ℕ)} {s p : List ℕ} → Lines ls s → every in_line p ≡ true → Stream [] ls p (s ++ p)
  text : {ls : List (List ℕ)} {s : List ℕ} {texts : List (List (List ℕ))} {rest : List (List ℕ)} {p r : List ℕ}
      → Lines ls s → Stream texts rest p r → Stream (ls ∷ texts) rest p (s ++ (line_end ∷ r))
