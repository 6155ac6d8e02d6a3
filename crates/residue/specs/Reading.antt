-- How many bytes at the front of a text are a residue, or residues.
use Rattle.std.specs.Prelude.{ℕ, ◌+◌, Bool, cond, List, [], ◌∷◌, map, eqb, take, drop}
use Rattle.texts.specs.Runs.{run}
use Rattle.alphabet.specs.Letters.{residue}
use Rattle.residue_rows.specs.Rows.{rows}
use Rattle.residue.specs.Residues.{one_of, is_three, is_one}

-- three letters, else one
unfoldable pub residue_len : List ℕ → ℕ
residue_len s = cond (is_three (take 3 s)) 3 (cond (is_one (take 1 s)) 1 0)

unfoldable pub threes_len : List ℕ → ℕ
threes_len [] = 0
threes_len (a ∷ []) = 0
threes_len (a ∷ b ∷ []) = 0
threes_len (a ∷ b ∷ c ∷ s) = cond (is_three (a ∷ b ∷ c ∷ [])) (3 + threes_len s) 0

-- all of three letters, else all of one
unfoldable pub residues_len : List ℕ → ℕ
residues_len s = cond (eqb (threes_len s) 0) (run residue s) (threes_len s)

-- x starts as a row goes on behind its first letter
unfoldable pub continues : List ℕ → Bool
continues x = one_of (map (drop 1) rows) (take 2 x)
