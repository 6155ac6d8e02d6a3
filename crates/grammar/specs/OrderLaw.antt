-- The numbers of a tree stand in its text from left to right as `numbers_at` lists them, so their places ascend.
use Rattle.std.specs.Prelude.{ℕ, ◌+◌, ◌≤◌, List, [], ◌∷◌, ◌++◌, length}
use Rattle.numerals.specs.declared.Sign.{Sign}
use Rattle.grammar.specs.Positions.{Digits}
use Rattle.grammar.specs.ProteinEdits as P
use Rattle.grammar.specs.Numbers.{Numeral, Numeral.numeral}

-- x starts at k, and the digits of these numbers stand in it, each behind those of the one before
pub data InOrder : ℕ → List Numeral → List ℕ → Type 0 where
  no_more : {k : ℕ} {x : List ℕ} → InOrder k [] x
  next : {k : ℕ} {sign : Sign} {ds x : List ℕ} {ns : List Numeral} (gap : List ℕ) → Digits ds → InOrder (k + length gap + length ds) ns x → InOrder k (numeral (k + length gap) sign ds ∷ ns) (gap ++ (ds ++ x))

-- ---- places from k on, each behind the one before, and all before e
abbrev pub Ascending : ℕ → List Numeral → ℕ → Type 0
Ascending k [] e = k ≤ e
Ascending k (numeral place sign ds ∷ ns) e = (k ≤ place) × Ascending (place + 1) ns e
