-- Digit strings of any length: their values, and the decimal text of a number.
use Rattle.std.specs.Prelude.{ℕ, zero, suc, ◌+◌, ◌-◌, ◌*◌, ◌/◌, ◌%◌, List, [], ◌∷◌, ◌++◌, true, false, ltb}
use Prim.Native.Char.{code}

-- the value of digits that stand behind a number v
unfoldable pub val_from : ℕ → List ℕ → ℕ
val_from v [] = v
val_from v (b ∷ s) = val_from (10 * v + (b - code "0")) s

abbrev pub val : List ℕ → ℕ
val s = val_from 0 s

-- the decimal text of a number v up to k
unfoldable pub dec_up_to : ℕ → ℕ → List ℕ
dec_up_to zero v = (code "0" + v) ∷ []
dec_up_to (suc k) v = elim (ltb v 10) [ true ↦ (code "0" + v) ∷ [] | false ↦ dec_up_to k (v / 10) ++ ((code "0" + v % 10) ∷ []) ]

abbrev pub dec : ℕ → List ℕ
dec v = dec_up_to v v
