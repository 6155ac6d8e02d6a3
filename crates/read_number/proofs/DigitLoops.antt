-- The digits of a number, one by one: what is counted, where it may be capped, and a zero in front.
use Prim.Native.Nat.{ℕ, suc, ◌+◌, ◌-◌, ◌*◌, ◌%◌, ◌<◌, ◌≤◌, min}
use Prim.Native.Char.{code}
use mathlib.Core.Path.{◌≡◌, refl, sym, ◌∙◌}
use mathlib.Core.List.{List, [], ◌∷◌}
use mathlib.Core.Bool.{Bool, true, false, cond, ◌&&◌, ◌||◌}
use native.Mathlib.Omega.{arith}
use native.Mathlib.Numerals.{add-one}
use lib.Dec.{eqb, leb}
use lib.ListN.{length, get_or, take}
use lib.Seq.{take-suc}
use borrow.Author.Tests.{leb-true, leb-false, eqb-true}
use Rattle.texts.proofs.Tests.{clash, never}
use Rattle.texts.specs.Runs.{run, front}
use Rattle.texts.specs.Words.{starts}
use Rattle.alphabet.specs.Letters.{digit}
use Rattle.numerals.specs.Digits.{val, val_from}
use Rattle.numerals.proofs.Values.{val_append, val_one}
use Rattle.numerals.specs.Spelling.{zero_first}
use Rattle.numerals.specs.Reading.{most, too_large, number_of, number_at}
use Rattle.numerals.proofs.Signs.{most_bound}
use Rattle.numerals.proofs.Numbers.{number_misfit}
use Rattle.numerals.specs.declared.Sign.{Sign}

-- ---- a value that is too large may count as another
pub number_capped : (n : ℕ) (sign : Sign) (v : ℕ) (zero : Bool) → number_of n sign (min v too_large) zero ≡ number_of n sign v zero
number_capped n sign v zero = go (leb v (most sign)) refl
  where
    go : (t : Bool) → leb v (most sign) ≡ t → number_of n sign (min v too_large) zero ≡ number_of n sign v zero
    go true e =
        let k : min v too_large ≡ v = omega (arith, most_bound sign v (leb-true _ _ e)) in
        rw k
    go false e =
        let h : most sign < v = leb-false _ _ e in
        let k : most sign < min v too_large = omega (arith, most_bound sign (most sign) (omega arith)) in
        sym (number_misfit n sign (min v too_large) zero k) ∙ number_misfit n sign v zero h

-- ---- what digits are worth, which is n: v where they are not too large
pub record Worth (v : ℕ) (large : Bool) (n : ℕ) : Type 0 where
  pub small : large ≡ false → (v ≡ n) × (n < too_large)
  pub big : large ≡ true → too_large ≤ n

pub none_worth : Worth 0 false (val [])
unfolding val_from
none_worth = record { small = λ _. (refl, omega arith); big = λ z. absurd (clash z refl) }

pub worth_capped : {v n : ℕ} (large : Bool) → Worth v large n → cond large too_large v ≡ min n too_large
worth_capped true w = let h = w.big refl in omega arith
worth_capped false w = let h = w.small refl in omega (arith, h.0, h.1)

-- one digit more; the product and the sum are the machine's
abbrev wrapped : ℕ → ℕ → ℕ
wrapped v d = (v * 10 % 18446744073709551616 + d) % 18446744073709551616

tested : (x : ℕ) (t : Bool) → leb too_large x ≡ t → Worth x t x
tested x true e = record { small = λ z. absurd (clash (sym z) refl); big = λ _. leb-true _ _ e }
tested x false e = record { small = λ _. (refl, leb-false _ _ e); big = λ z. absurd (clash z refl) }

pub worth_more : (s : List ℕ) (i v : ℕ) (large : Bool) → i < length s → get_or s i 0 - code "0" ≤ 9 → Worth v large (val (take i s))
    → Worth (wrapped v (get_or s i 0 - code "0")) (large || leb too_large (wrapped v (get_or s i 0 - code "0"))) (val (take (i + 1) s))
worth_more s i v large h small w =
    let d : val (take (i + 1) s) ≡ 10 * val (take i s) + (get_or s i 0 - code "0") = rw (add-one, take-suc s i 0 h) (val_append 0 (take i s) (get_or s i 0 ∷ []) ∙ val_one (val (take i s)) (get_or s i 0)) in
    rw d (go large w)
  where
    n : ℕ
    n = val (take i s)

    k : ℕ
    k = get_or s i 0 - code "0"

    go : (t : Bool) → Worth v t n → Worth (wrapped v k) (t || leb too_large (wrapped v k)) (10 * n + k)
    go true w = record { small = λ z. absurd (clash (sym z) refl); big = λ _. let b = w.big refl in omega arith }
    go false w =
        let b = w.small refl in
        let same : wrapped v k ≡ 10 * n + k = omega (arith, b.0, b.1, small) in
        rw same (tested (10 * n + k) (leb too_large (10 * n + k)) refl)

-- ---- a zero in front
pub zero_missing : (s : List ℕ) → length s < 1 → false ≡ zero_first s
unfolding starts
zero_missing [] h = refl
zero_missing (b ∷ s) h = absurd (omega arith)

pub zero_there : (s : List ℕ) → (length s < 1 → ⊥) → get_or s 0 0 ≡ code "0" → true ≡ zero_first s
unfolding starts
zero_there [] h e = absurd (h (omega arith))
zero_there (b ∷ s) h e = rw e refl

pub zero_other : (s : List ℕ) → (get_or s 0 0 ≡ code "0" → ⊥) → false ≡ zero_first s
unfolding starts
zero_other [] n = refl
zero_other (b ∷ s) n = rw (never (eqb (code "0") b) (λ h. n (sym (eqb-true (code "0") b h)))) refl

-- it is a digit: it is the first byte of the text exactly where it is the first of the digits
zero_first_lem : (s : List ℕ) → zero_first s ≡ zero_first (front digit s)
unfolding starts front run digit
zero_first_lem [] = refl
zero_first_lem (b ∷ s) = go (digit b) refl
  where
    go : (t : Bool) → digit b ≡ t → eqb (code "0") b && true ≡ zero_first (take (cond t (suc (run digit s)) 0) (b ∷ s))
    go true e = refl
    go false e = rw (never (eqb (code "0") b) (λ h. clash (rw (← eqb-true (code "0") b h) refl) e))

pub value_all : (sign : Sign) (s : List ℕ) (i v : ℕ) (zero : Bool) → run digit s ≡ i → v ≡ min (val (take i s)) too_large → zero ≡ zero_first s → number_of i sign v zero ≡ number_at sign s
unfolding number_at front
value_all sign s i v zero r e z = rw (r, e, z ∙ zero_first_lem s) (rw r (number_capped i sign (val (take i s)) (zero_first (take i s))))
