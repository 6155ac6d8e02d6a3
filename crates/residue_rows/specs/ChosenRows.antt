-- Only rows that begin with the text's first byte can agree with it: the search among them answers as the search through all.
use Rattle.std.specs.Prelude.{ℕ, zero, suc, ◌+◌, ◌≤◌, ◌<◌, ◌≡◌, refl, Bool, true, false, cond, ◌||◌, List, [], ◌∷◌, eqb, length, drop, get_or, Some}
use Rattle.std.proofs.Common.{◌∙◌, arith, drop-cons, ne_eqb}
use Rattle.std.proofs.lemmas.Bool.{eqb-false}
use Rattle.texts.specs.Ascii.{ascii}
use Rattle.texts.proofs.Tests.{clash}
use Rattle.texts.specs.Words.{starts}
use Rattle.texts.proofs.Words.{starts_differ}
use Rattle.residue_rows.specs.Rows.{rows, first_from}
use Rattle.residue_rows.specs.EachRow.{each, each_at, row_length}
use Rattle.residue_rows.specs.Beginning.{letter_of, beginning_from, beginning, first_of}

-- ---- a row that does not begin with the text's first byte
row_from : (s : List ℕ) (i : ℕ) → i < 25 → first_from i (drop i rows) s ≡ cond (starts (get_or rows i []) s) (Some i) (first_from (suc i) (drop (suc i) rows) s)
unfolding first_from rows
row_from s i h = rw (drop-cons rows i [])

other_letter : (s : List ℕ) (i : ℕ) → i < 25 → 1 ≤ length s → (letter_of i ≡ get_or s 0 0 → ⊥) → starts (get_or rows i []) s ≡ false
other_letter s i h l n = starts_differ (get_or rows i []) s 0 (omega (arith, row_length i h)) (omega arith) n

chosen_one :
    (s : List ℕ) (i : ℕ) (is : List ℕ) (b : Bool) → i < 25 → 1 ≤ length s → eqb (letter_of i) (get_or s 0 0) ≡ b → first_from (suc i) (drop (suc i) rows) s ≡ first_of is s →
    first_from i (drop i rows) s ≡ first_of (cond b (i ∷ is) is) s
unfolding first_of
chosen_one s i is true h l q rest = row_from s i h ∙ rw rest
chosen_one s i is false h l q rest = row_from s i h ∙ rw (other_letter s i h l (eqb-false (letter_of i) (get_or s 0 0) q)) rest

-- no row that is skipped could have agreed
pub chosen_from : (s : List ℕ) → 1 ≤ length s → (n i : ℕ) → i + n ≡ 25 → first_from i (drop i rows) s ≡ first_of (beginning_from n i (get_or s 0 0)) s
unfolding first_from first_of beginning_from rows
chosen_from s l zero i e = let z : i ≡ 25 = omega arith in rw z
chosen_from s l (suc n) i e =
    chosen_one s i (beginning_from n (suc i) (get_or s 0 0)) (eqb (letter_of i) (get_or s 0 0)) (omega arith) l refl (chosen_from s l n (suc i) (omega arith))

-- ---- the numbers of rows
pub below_from : (b n i : ℕ) → i + n ≡ 25 → (k : ℕ) → k < length (beginning_from n i b) → get_or (beginning_from n i b) k 0 < 25
unfolding beginning_from
below_from b zero i e k h = absurd (omega arith)
below_from b (suc n) i e k h = go (eqb (letter_of i) b) k h (below_from b n (suc i) (omega arith))
  where
    go :
        (t : Bool) (k : ℕ) → k < length (cond t (i ∷ beginning_from n (suc i) b) (beginning_from n (suc i) b)) →
        ((m : ℕ) → m < length (beginning_from n (suc i) b) → get_or (beginning_from n (suc i) b) m 0 < 25) →
        get_or (cond t (i ∷ beginning_from n (suc i) b) (beginning_from n (suc i) b)) k 0 < 25
    go true zero h rest = omega arith
    go true (suc k) h rest = rest k (omega arith)
    go false k h rest = rest k h

-- ---- letters that begin no row
unfoldable pub one_of : List ℕ → ℕ → Bool
one_of [] b = false
one_of (x ∷ xs) b = eqb b x || one_of xs b

abbrev pub first_letters : List ℕ
first_letters = ascii "ACGHILMPSTVX"

-- every row begins with one of them
pub rows_lettered : each (λ (r : List ℕ). one_of first_letters (get_or r 0 0)) rows ≡ true
unfolding rows one_of
rows_lettered = refl

none_from : (b n i : ℕ) → one_of first_letters b ≡ false → i + n ≡ 25 → beginning_from n i b ≡ []
unfolding beginning_from rows
none_from b zero i e q = refl
none_from b (suc n) i e q =
    let lettered = each_at (λ (r : List ℕ). one_of first_letters (get_or r 0 0)) rows i rows_lettered (omega arith) in
    let other : eqb (letter_of i) b ≡ false = ne_eqb (letter_of i) b (λ same. clash (rw same at lettered) e) in
    rw other (none_from b n (suc i) e (omega arith))

pub no_row : (b : ℕ) → one_of first_letters b ≡ false → beginning b ≡ []
unfolding beginning
no_row b e = none_from b 25 0 e refl
