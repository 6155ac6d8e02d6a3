-- The search as it goes on: what is left to search is the rows whose numbers are packed into one.
use Rattle.std.specs.Prelude.{ℕ, suc, ◌/◌, ◌%◌, ◌≤◌, ◌<◌, ◌≡◌, refl, true, false, cond, List, [], ◌∷◌, length, get_or, Some, None}
use Rattle.std.proofs.Common.{◌∙◌, arith}
use Rattle.texts.specs.Words.{starts}
use Rattle.residue_rows.specs.Rows.{rows, row_of}
use Rattle.residue_rows.specs.Beginning.{beginning, packed, first_of}
use Rattle.residue_rows.specs.ChosenRows.{chosen_from, below_from}

-- what is left where `left` packs it
pub record Left (s : List ℕ) (left : ℕ) : Type 0 where
  pub numbers : List ℕ
  pub packs : left ≡ packed numbers
  pub below : (k : ℕ) → k < length numbers → get_or numbers k 0 < 25
  pub answer : row_of s ≡ first_of numbers s

pub left_all : (s : List ℕ) (left : ℕ) → 1 ≤ length s → left ≡ packed (beginning (get_or s 0 0)) → Left s left
unfolding row_of beginning
left_all s left l e =
    record { numbers = beginning (get_or s 0 0); packs = e; below = below_from (get_or s 0 0) 25 0 refl; answer = chosen_from s l 25 0 refl }

some_left : (is : List ℕ) → 255 ≤ packed is
unfolding packed
some_left [] = omega arith
some_left (i ∷ is) = omega (arith, some_left is)

pub left_less : (s : List ℕ) (left : ℕ) → Left s left → left / 256 < left
left_less s left l = omega (arith, l.packs, some_left l.numbers)

-- no row is left
pub none_left : (s : List ℕ) (left : ℕ) → Left s left → 25 ≤ left % 256 → row_of s ≡ None
unfolding packed first_of
none_left s left l h = go l.numbers l.packs l.below l.answer
  where
    go : (is : List ℕ) → left ≡ packed is → ((k : ℕ) → k < length is → get_or is k 0 < 25) → row_of s ≡ first_of is s → row_of s ≡ None
    go [] e b a = a
    go (i ∷ is) e b a = let first : i < 25 = b 0 (omega arith) in absurd (omega arith)

-- ---- the row that the lowest byte names, and what is left behind it
pub record OneLeft (s : List ℕ) (left : ℕ) : Type 0 where
  pub rest : List ℕ
  pub packs : left / 256 ≡ packed rest
  pub below : (k : ℕ) → k < length rest → get_or rest k 0 < 25
  pub answer : row_of s ≡ cond (starts (get_or rows (left % 256) []) s) (Some (left % 256)) (first_of rest s)

one_left : (s : List ℕ) (left : ℕ) → Left s left → left % 256 < 25 → OneLeft s left
unfolding packed first_of
one_left s left l h = go l.numbers l.packs l.below l.answer
  where
    go : (is : List ℕ) → left ≡ packed is → ((k : ℕ) → k < length is → get_or is k 0 < 25) → row_of s ≡ first_of is s → OneLeft s left
    go [] e b a = absurd (omega arith)
    go (i ∷ is) e b a =
        let first : i < 25 = b 0 (omega arith) in
        let named : i ≡ left % 256 = omega arith in
        record { rest = is; packs = omega arith; below = λ k m. b (suc k) (omega arith); answer = a ∙ rw named }

module _ (s : List ℕ) (left : ℕ) (l : Left s left) (h : left % 256 < 25) where
  pub next_row : starts (get_or rows (left % 256) []) s ≡ false → Left s (left / 256)
  next_row e = let o = one_left s left l h in record { numbers = o.rest; packs = o.packs; below = o.below; answer = o.answer ∙ rw e }

  pub this_row : starts (get_or rows (left % 256) []) s ≡ true → row_of s ≡ Some (left % 256)
  this_row e = (one_left s left l h).answer ∙ rw e
