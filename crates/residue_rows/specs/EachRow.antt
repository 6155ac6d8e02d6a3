-- What each of some rows passes; each of the rows of residues has three bytes.
use Rattle.std.specs.Prelude.{ℕ, zero, suc, ◌<◌, ◌≡◌, refl, Bool, true, ◌&&◌, List, [], ◌∷◌, eqb, length, get_or}
use Rattle.std.proofs.Common.{arith, eqb-true}
use Rattle.texts.proofs.Tests.{and-true}
use Rattle.residue_rows.specs.Rows.{rows}

abbrev pub each : (List ℕ → Bool) → List (List ℕ) → Bool
each p [] = true
each p (r ∷ rs) = p r && each p rs

pub each_at : (p : List ℕ → Bool) (rs : List (List ℕ)) (i : ℕ) → each p rs ≡ true → i < length rs → p (get_or rs i []) ≡ true
each_at p [] i e h = absurd (omega arith)
each_at p (r ∷ rs) zero e h = (and-true (p r) (each p rs) e).0
each_at p (r ∷ rs) (suc i) e h = each_at p rs i (and-true (p r) (each p rs) e).1 (omega arith)

-- three bytes
abbrev pub long : List ℕ → Bool
long r = eqb (length r) 3

pub rows_long : each long rows ≡ true
unfolding rows
rows_long = refl

pub row_length : (i : ℕ) → i < 25 → length (get_or rows i []) ≡ 3
unfolding rows
row_length i h = eqb-true (length (get_or rows i [])) 3 (each_at long rows i rows_long h)
