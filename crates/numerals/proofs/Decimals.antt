-- The decimal text of a number: what it is worth, how long it is, and how it stands among the digit strings of one value.
use Rattle.std.specs.Prelude.{ℕ, zero, suc, ◌+◌, ◌-◌, ◌/◌, ◌%◌, ◌^◌, ◌≤◌, ◌<◌, ◌≡◌, refl, List, [], ◌∷◌, ◌++◌, Bool, true, false, length, get_or, ltb, leb}
use Prim.Native.Char.{code}
use Rattle.std.proofs.Common.{sym, ap, ◌∙◌, ⊎_elim, arith, le_refl, eq-or-lt_of_le, pow-suc, length-append, ltb-true, ltb-false, leb-true, leb-false}
use Rattle.std.proofs.Math.ListN.{get_or-append}
use Rattle.texts.specs.Runs.{Some}
use Rattle.texts.proofs.Runs.{every_append, one_every}
use Rattle.texts.specs.Best.{Best, shorter}
use Rattle.texts.proofs.Best.{best_refl}
use Rattle.alphabet.specs.Letters.{digit}
use Rattle.numerals.specs.Digits.{val_from, val, dec_up_to, dec}
use Rattle.numerals.proofs.Values.{digit_is, val_one, val_append, val_injective, zero_value, zero_every, longer_zero}

-- a digit string of value v that begins with a zero only where it is `0`
record Decimal (v : ℕ) (s : List ℕ) : Type 0 where
  value : val s ≡ v
  digits : Some digit s
  plain : get_or s 0 0 ≡ code "0" → s ≡ code "0" ∷ []

one_decimal : (v : ℕ) → v < 10 → Decimal v ((code "0" + v) ∷ [])
one_decimal v h = record {
  value = rw val_one (omega arith);
  digits = record { some = omega arith; all = one_every digit (code "0" + v) (digit_is v h) };
  plain = λ e. rw e;
}

more_decimal : (v : ℕ) (s : List ℕ) → 10 ≤ v → Decimal (v / 10) s → Decimal v (s ++ ((code "0" + v % 10) ∷ []))
unfolding val_from
more_decimal v s h d = record {
  value = rw (val_append 0 s, d.value) (omega arith);
  digits = record {
    some = rw length-append (omega arith);
    all = every_append digit s _ d.digits.all (one_every digit _ (digit_is (v % 10) (omega arith)));
  };
  plain = λ e.
      let z = d.plain (sym (get_or-append s ((code "0" + v % 10) ∷ []) 0 0 d.digits.some) ∙ e) in
      let y : 0 ≡ v / 10 = rw z at d.value in
      absurd (omega arith);
}

decimal_up_to : (k v : ℕ) → v ≤ k → Decimal v (dec_up_to k v)
unfolding dec_up_to
decimal_up_to zero v h = one_decimal v (omega arith)
decimal_up_to (suc k) v h = go (ltb v 10) refl (λ g. decimal_up_to k (v / 10) (omega arith))
  where
    go : (t : Bool) → ltb v 10 ≡ t → (10 ≤ v → Decimal (v / 10) (dec_up_to k (v / 10)))
        → Decimal v (elim t [ true ↦ (code "0" + v) ∷ [] | false ↦ dec_up_to k (v / 10) ++ ((code "0" + v % 10) ∷ []) ])
    go true e rest = one_decimal v (ltb-true v 10 e)
    go false e rest = more_decimal v (dec_up_to k (v / 10)) (ltb-false v 10 e) (rest (ltb-false v 10 e))

decimal : (v : ℕ) → Decimal v (dec v)
decimal v = decimal_up_to v v (le_refl v)

-- no digit string of the value is shorter
decimal_shortest : {v : ℕ} (t s : List ℕ) → Decimal v t → Some digit s → val s ≡ v → length t ≤ length s
decimal_shortest t s d ds e = go (leb (length t) (length s)) refl
  where
    go : (b : Bool) → leb (length t) (length s) ≡ b → length t ≤ length s
    go true h = leb-true _ _ h
    go false h =
        let l : length s < length t = leb-false _ _ h in
        let z = d.plain (longer_zero (length t - length s - 1) t s d.digits.all ds.all (omega arith) (d.value ∙ sym e)) in
        absurd (omega (arith, ap length z, ds.some))

-- ---- what it is worth, and its digits
pub dec_value : (v : ℕ) → val (dec v) ≡ v
dec_value v = (decimal v).value

pub dec_some : (v : ℕ) → Some digit (dec v)
dec_some v = (decimal v).digits

-- it begins with a zero where it is the one digit
pub dec_zero : (v : ℕ) → get_or (dec v) 0 0 ≡ code "0" → v ≡ 0
unfolding val_from
dec_zero v e = sym (decimal v).value ∙ ap val ((decimal v).plain e)

-- ---- among the digit strings of its value
module _ {v : ℕ} {s : List ℕ} (ds : Some digit s) (e : val s ≡ v) where
  pub dec_shortest : length (dec v) ≤ length s
  dec_shortest = decimal_shortest (dec v) s (decimal v) ds e

  -- as long, it is the decimal text
  pub dec_only : length s ≡ length (dec v) → s ≡ dec v
  dec_only l = (val_injective 0 0 s (dec v) ds.all (dec_some v).all l (e ∙ sym (dec_value v))).1

  pub dec_best : Best (dec v) s
  dec_best = ⊎_elim (λ (l : length (dec v) ≡ length s). rw (dec_only (sym l)) best_refl) shorter (eq-or-lt_of_le dec_shortest)

  -- one byte longer, it is a zero and the decimal text
  pub one_longer : length s ≡ suc (length (dec v)) → s ≡ code "0" ∷ dec v
  one_longer l =
      (val_injective 0 0 s (code "0" ∷ dec v) ds.all (zero_every (dec v) (dec_some v).all) l
      (e ∙ sym (zero_value (dec v) ∙ dec_value v))).1

  -- and that is best where it is not the decimal text itself
  pub next_best : (s ≡ dec v → ⊥) → Best (code "0" ∷ dec v) s
  next_best n = ⊎_elim (λ (l : length (dec v) ≡ length s). absurd (n (dec_only (sym l)))) next (eq-or-lt_of_le dec_shortest)
    where
      next : length (dec v) < length s → Best (code "0" ∷ dec v) s
      next h = ⊎_elim (λ (l : suc (length (dec v)) ≡ length s). rw (one_longer (sym l)) best_refl) shorter (eq-or-lt_of_le h)

-- ---- digit by digit
decimal_is : {v : ℕ} {s : List ℕ} → Decimal v s → dec v ≡ s
decimal_is {v} {s} d =
    let l : length s ≡ length (dec v) = omega (arith, decimal_shortest s (dec v) d (dec_some v) (dec_value v), dec_shortest d.digits d.value) in
    sym (dec_only d.digits d.value l)

-- digits that begin with a zero only where they are `0`
pub dec_is : {s : List ℕ} → Some digit s → (get_or s 0 0 ≡ code "0" → s ≡ code "0" ∷ []) → dec (val s) ≡ s
dec_is ds h = decimal_is (record { value = refl; digits = ds; plain = h })

pub dec_one : (v : ℕ) → v < 10 → dec v ≡ (code "0" + v) ∷ []
dec_one v h = decimal_is (one_decimal v h)

pub dec_more : (v : ℕ) → 10 ≤ v → dec v ≡ dec (v / 10) ++ ((code "0" + v % 10) ∷ [])
dec_more v h = decimal_is (more_decimal v (dec (v / 10)) h (decimal (v / 10)))

-- ---- how long it is
pub dec_one_length : (v : ℕ) → v < 10 → length (dec v) ≡ 1
dec_one_length v h = rw (dec_one v h)

pub dec_more_length : (v : ℕ) → 10 ≤ v → length (dec v) ≡ length (dec (v / 10)) + 1
dec_more_length v h = rw (dec_more v h) (length-append (dec (v / 10)) ((code "0" + v % 10) ∷ []))

dec_below : (n v : ℕ) → v < 10 ^ suc n → length (dec v) ≤ suc n
dec_below zero v h = omega (arith, dec_one_length v (omega arith))
dec_below (suc n) v h = go (ltb v 10) refl (dec_below n (v / 10) (omega (arith, pow-suc 10 (suc n))))
  where
    go : (t : Bool) → ltb v 10 ≡ t → length (dec (v / 10)) ≤ suc n → length (dec v) ≤ suc (suc n)
    go true e rest = omega (arith, dec_one_length v (ltb-true v 10 e))
    go false e rest = omega (arith, dec_more_length v (ltb-false v 10 e))

-- ten digits write every u32
pub dec_short : (v : ℕ) → v < 2 ^ 32 → length (dec v) ≤ 10
dec_short v h = dec_below 9 v (omega arith)
