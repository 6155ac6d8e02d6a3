-- Residues, each of three letters, or of one letter or `*`.
use Rattle.std.specs.Prelude.{ℕ, Bool, true, false, ◌&&◌, ◌||◌, List, [], ◌∷◌, leb, length}
use Rattle.texts.specs.Runs.{every}
use Rattle.texts.specs.Words.{same}
use Rattle.alphabet.specs.Letters.{residue}
use Rattle.residue_rows.specs.Rows.{rows}

unfoldable pub one_of : List (List ℕ) → List ℕ → Bool
one_of [] s = false
one_of (r ∷ rs) s = same r s || one_of rs s

-- three letters
unfoldable pub is_three : List ℕ → Bool
is_three s = one_of rows s

-- one letter or `*`
unfoldable pub is_one : List ℕ → Bool
is_one [] = false
is_one (b ∷ []) = residue b
is_one (b ∷ c ∷ s) = false

unfoldable pub is_residue : List ℕ → Bool
is_residue s = is_three s || is_one s

-- residues of three letters, one behind the other
unfoldable pub threes : List ℕ → Bool
threes [] = true
threes (a ∷ []) = false
threes (a ∷ b ∷ []) = false
threes (a ∷ b ∷ c ∷ s) = is_three (a ∷ b ∷ c ∷ []) && threes s

-- one or more residues, all of three letters or all of one
unfoldable pub is_residues : List ℕ → Bool
is_residues s = leb 1 (length s) && (threes s || every residue s)
