-- Document 01, "Line program": the lines of an input, what a buffer holds of a line, and what a program makes of them all.
use Rattle.std.specs.Prelude.{ℕ, cond, leb, eqb, length}
use Prim.Native.Char.{code}
use mathlib.Core.List.{List, [], ◌∷◌, ◌++◌, map, flat_map, foldl}

-- LF
abbrev pub line_end : ℕ
line_end = code "\n"

-- a byte in front of the first line
abbrev pub onto : ℕ → List (List ℕ) → List (List ℕ)
onto b [] = (b ∷ []) ∷ []
onto b (l ∷ ls) = (b ∷ l) ∷ ls

-- lines end at LF; a last line without one counts if it has a byte
unfoldable pub lines_of : List ℕ → List (List ℕ)
lines_of [] = []
lines_of (b ∷ s) = cond (eqb b line_end) ([] ∷ lines_of s) (onto b (lines_of s))

-- a line that a buffer holds, or one that is longer than the buffer
pub data Held : Type 0 where
  whole : List ℕ → Held
  too_long : Held

unfoldable pub held : ℕ → List ℕ → Held
held room l = cond (leb (length l) room) (whole l) too_long

-- what is made of every line in turn, by a program that makes of what it has and a line what it has next
unfoldable pub handled : {A : Type 0} → (A → Held → A) → ℕ → A → List ℕ → A
handled handle room a input = foldl handle a (map (held room) (lines_of input))

-- what is written by a program that answers each line by a text, and LF
unfoldable pub output : (Held → List ℕ) → ℕ → List ℕ → List ℕ
output answer room input = flat_map (λ l. answer (held room l) ++ (line_end ∷ [])) (lines_of input)
