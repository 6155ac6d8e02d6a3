-- The rows that begin with a letter, their numbers packed into one, and the search among them.
use Rattle.std.specs.Prelude.{ℕ, zero, suc, ◌+◌, ◌*◌, cond, List, [], ◌∷◌, eqb, get_or, Option, Some, None}
use Rattle.texts.specs.Words.{starts}
use Rattle.residue_rows.specs.Rows.{rows}

abbrev pub letter_of : ℕ → ℕ
letter_of i = get_or (get_or rows i []) 0 0

-- of the n rows from i on, those that begin with b
unfoldable pub beginning_from : ℕ → ℕ → ℕ → List ℕ
beginning_from zero i b = []
beginning_from (suc n) i b = cond (eqb (letter_of i) b) (i ∷ beginning_from n (suc i) b) (beginning_from n (suc i) b)

unfoldable pub beginning : ℕ → List ℕ
beginning b = beginning_from 25 0 b

-- a byte a row, the first row lowest, and 255, which is no row, behind the last
unfoldable pub packed : List ℕ → ℕ
packed [] = 255
packed (i ∷ is) = i + 256 * packed is

-- the first of the rows of these numbers that s starts with
unfoldable pub first_of : List ℕ → List ℕ → Option ℕ
first_of [] s = None
first_of (i ∷ is) s = cond (starts (get_or rows i []) s) (Some i) (first_of is s)
