-- The three-letter residues, and the first of them that a text starts with.
use Rattle.std.specs.Prelude.{ℕ, suc, cond, List, [], ◌∷◌, Option, Some, None}
use Rattle.texts.specs.Ascii.{ascii}
use Rattle.texts.specs.Words.{starts}

unfoldable pub rows : List (List ℕ)
rows =
    ascii "Ala" ∷
    ascii "Cys" ∷
    ascii "Asp" ∷
    ascii "Glu" ∷
    ascii "Phe" ∷
    ascii "Gly" ∷
    ascii "His" ∷
    ascii "Ile" ∷
    ascii "Lys" ∷
    ascii "Leu" ∷
    ascii "Met" ∷
    ascii "Asn" ∷
    ascii "Pro" ∷
    ascii "Gln" ∷
    ascii "Arg" ∷
    ascii "Ser" ∷
    ascii "Thr" ∷
    ascii "Val" ∷
    ascii "Trp" ∷
    ascii "Tyr" ∷
    ascii "Asx" ∷
    ascii "Glx" ∷
    ascii "Xaa" ∷
    ascii "Sec" ∷
    ascii "Ter" ∷
    []

-- the number of the first of the rows, counted from i, that s starts with
unfoldable pub first_from : ℕ → List (List ℕ) → List ℕ → Option ℕ
first_from i [] s = None
first_from i (r ∷ rs) s = cond (starts r s) (Some i) (first_from (suc i) rs s)

unfoldable pub row_of : List ℕ → Option ℕ
row_of s = first_from 0 rows s
