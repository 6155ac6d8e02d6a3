-- Laws of the search in a row, and of texts that are too short for one.
use Rattle.std.specs.Prelude.{None}
use Prim.Native.Nat.{ℕ, suc, ◌+◌, ◌≤◌, ◌<◌}
use mathlib.Core.Path.{◌≡◌, refl, ◌∙◌}
use mathlib.Core.Bool.{true, false}
use mathlib.Core.List.{List, [], ◌∷◌}
use native.Mathlib.Omega.{arith}
use lib.ListN.{length, drop, get_or}
use borrow.Author.Tests.{eqb-true}
use Rattle.texts.proofs.Tests.{and-true, never}
use Rattle.texts.specs.Words.{starts}
use Rattle.texts.proofs.Words.{starts_length, starts_more, starts_differ, starts_end}
use Rattle.residue_rows.specs.Rows.{rows, first_from, row_of}
use Rattle.residue_rows.specs.EachRow.{each, long, rows_long, row_length}

-- ---- one byte more of a row, as the search goes
module _ (s : List ℕ) (i j : ℕ) (hi : i < 25) (hj : j < 3) (hs : 3 ≤ length s) (inv : starts (get_or rows i []) s ≡ starts (drop j (get_or rows i [])) (drop j s)) where
  in_row : j < length (get_or rows i [])
  in_row = rw (row_length i hi) hj

  pub same_byte : get_or (get_or rows i []) j 0 ≡ get_or s j 0 → starts (get_or rows i []) s ≡ starts (drop (j + 1) (get_or rows i [])) (drop (j + 1) s)
  same_byte e = inv ∙ starts_more (get_or rows i []) s j in_row (omega arith) e

  pub other_byte : (get_or (get_or rows i []) j 0 ≡ get_or s j 0 → ⊥) → starts (get_or rows i []) s ≡ false
  other_byte n = inv ∙ starts_differ (get_or rows i []) s j in_row (omega arith) n

  pub last_byte : get_or (get_or rows i []) j 0 ≡ get_or s j 0 → j + 1 ≡ 3 → starts (get_or rows i []) s ≡ true
  last_byte e l = same_byte e ∙ starts_end (get_or rows i []) s (j + 1) (omega (arith, row_length i hi))

-- ---- a text of fewer than three bytes
none_short : (i : ℕ) (rs : List (List ℕ)) (s : List ℕ) → length s < 3 → each long rs ≡ true → first_from i rs s ≡ None
unfolding first_from
none_short i [] s h e = refl
none_short i (r ∷ rs) s h e =
    let p = and-true (long r) (each long rs) e in
    let n : starts r s ≡ false = never (starts r s) (λ q. omega (arith, starts_length r s q, eqb-true (length r) 3 p.0)) in
    rw n (none_short (suc i) rs s h p.1)

pub short_none : (s : List ℕ) → length s < 3 → row_of s ≡ None
unfolding row_of
short_none s h = none_short 0 rows s h rows_long
