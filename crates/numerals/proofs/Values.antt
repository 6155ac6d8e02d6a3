-- Laws of digits and of the values of digit strings.
use Rattle.std.specs.Prelude.{ℕ, zero, suc, ◌+◌, ◌-◌, ◌*◌, ◌<◌, ◌≡◌, refl, List, [], ◌∷◌, ◌++◌, true, length, get_or}
use Prim.Native.Char.{code}
use Rattle.std.proofs.Common.{ap, arith, le-leb}
use Rattle.texts.proofs.Tests.{and-true, true_and}
use Rattle.texts.specs.Runs.{every}
use Rattle.alphabet.specs.Letters.{digit}
use Rattle.alphabet.proofs.Apart.{digit_bounds}
use Rattle.numerals.specs.Digits.{val_from, val}

pub digit_is : (d : ℕ) → d < 10 → digit (code "0" + d) ≡ true
unfolding digit
digit_is d h = true_and (le-leb (code "0") (code "0" + d) (omega arith)) (le-leb (code "0" + d) (code "9") (omega arith))

pub val_one : (v b : ℕ) → val_from v (b ∷ []) ≡ 10 * v + (b - code "0")
unfolding val_from
val_one v b = refl

pub val_append : (v : ℕ) (s t : List ℕ) → val_from v (s ++ t) ≡ val_from (val_from v s) t
unfolding val_from
val_append v [] t = refl
val_append v (b ∷ s) t = val_append (10 * v + (b - code "0")) s t

-- a zero in front changes nothing
pub zero_value : (s : List ℕ) → val (code "0" ∷ s) ≡ val s
unfolding val_from
zero_value s = refl

pub zero_every : (s : List ℕ) → every digit s ≡ true → every digit (code "0" ∷ s) ≡ true
unfolding every digit
zero_every s h = h

-- digit strings of one length and one value are one
pub val_injective : (v w : ℕ) (s t : List ℕ) → every digit s ≡ true → every digit t ≡ true → length s ≡ length t
    → val_from v s ≡ val_from w t → (v ≡ w) × (s ≡ t)
unfolding val_from every
val_injective v w [] [] ds dt l e = (e, refl)
val_injective v w [] (b ∷ t) ds dt l e = absurd (omega arith)
val_injective v w (a ∷ s) [] ds dt l e = absurd (omega arith)
val_injective v w (a ∷ s) (b ∷ t) ds dt l e =
    let da = and-true (digit a) (every digit s) ds in
    let db = and-true (digit b) (every digit t) dt in
    let r = val_injective (10 * v + (a - code "0")) (10 * w + (b - code "0")) s t da.1 db.1 (omega arith) e in
    let ba = digit_bounds a da.0 in
    let bb = digit_bounds b db.0 in
    let h : a ≡ b = omega arith in
    let st = r.1 in
    (omega arith, cc)

-- of two digit strings of one value the longer begins with a zero
pub longer_zero : (n : ℕ) (s t : List ℕ) → every digit s ≡ true → every digit t ≡ true → length s ≡ suc n + length t
    → val s ≡ val t → get_or s 0 0 ≡ code "0"
longer_zero zero s t ds dt l e =
    ap (λ (x : List ℕ). get_or x 0 0) (val_injective 0 0 s (code "0" ∷ t) ds (zero_every t dt) (omega arith) (rw zero_value e)).1
longer_zero (suc n) s t ds dt l e =
    longer_zero n s (code "0" ∷ t) ds (zero_every t dt) (omega arith) (rw zero_value e)
