-- Flags, 1 where a test passes and else 0, as the lowest bits of numbers; and four of them joined by the machine's `&`.
use Rattle.std.specs.Prelude.{ℕ, ◌%◌, min, ◌≡◌, refl, Bool, true, false, ◌&&◌}
use Rattle.std.proofs.Common.{◌∙◌, arith}
use Rattle.std.specs.Int.Bits.{bit_and, and_step}
use Rattle.alphabet.specs.Flags.{flag}

least : (a b : Bool) → min (flag a) (flag b) ≡ flag (a && b)
unfolding flag
least true true = refl
least true false = refl
least false true = refl
least false false = refl

joined : (a b : Bool) (x y : ℕ) → x % 2 ≡ flag a → y % 2 ≡ flag b → bit_and x y % 2 ≡ flag (a && b)
joined a b x y e f =
    let h : bit_and x y % 2 ≡ min (x % 2) (y % 2) = omega (arith, and_step x y) in
    h ∙ rw (e, f) (least a b)

raised : (t : Bool) → (flag t ≡ 0 → ⊥) → t ≡ true
unfolding flag
raised true h = refl
raised false h = absurd (h refl)

pub four_flags : (a b c d : Bool) (w x y z : ℕ) → w % 2 ≡ flag a → x % 2 ≡ flag b → y % 2 ≡ flag c → z % 2 ≡ flag d → (bit_and (bit_and (bit_and w x) y) z % 2 ≡ 0 → ⊥) → ((a && b) && c) && d ≡ true
four_flags a b c d w x y z e f g i h =
    let two = joined a b w x e f in
    let three = joined (a && b) c (bit_and w x) y two g in
    raised (((a && b) && c) && d) (rw (joined ((a && b) && c) d (bit_and (bit_and w x) y) z three i) at h)

-- where two joined numbers are odd, each is
pub both_odd : (x y : ℕ) → (bit_and x y % 2 ≡ 0 → ⊥) → (x % 2 ≡ 0 → ⊥) × (y % 2 ≡ 0 → ⊥)
both_odd x y h =
    let e : bit_and x y % 2 ≡ min (x % 2) (y % 2) = omega (arith, and_step x y) in
    (λ q. h (omega (arith, e, q)), λ q. h (omega (arith, e, q)))
