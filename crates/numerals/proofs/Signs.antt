-- Laws of numbers with a sign: what is worth the same, what fits, and what the machine holds.
use Rattle.std.specs.Prelude.{ℕ, zero, suc, ◌≤◌, ◌≡◌, refl, Bool, true, false, leb, ℤ, pos, negsuc, neg_ℤ, nat_abs}
use Rattle.std.proofs.Common.{arith, le-leb, leb-true, SFits, to_z, of_z, to_z-of_z}
use Rattle.std.specs.Int.{w32}
use Rattle.numerals.specs.Reading.{signed, most, or_zero}
use Rattle.numerals.specs.declared.Sign.{Sign}
use Rattle.numerals.specs.declared.Sign.TheVariants.{Unsigned, Plus, Minus, Negated}
use Rattle.numerals.specs.Signs.{written_sign}

-- ---- what fits: a signed number exactly where an i32 holds it
minus_fits : (v : ℕ) → v ≤ 2147483648 → SFits w32 (neg_ℤ (pos v))
minus_fits zero h = record { sfits = omega arith }
minus_fits (suc v) h = record { sfits = omega arith }

pub signed_fits : (sign : Sign) (v : ℕ) → v ≤ most sign → SFits w32 (signed sign v)
signed_fits Unsigned v h = record { sfits = omega arith }
signed_fits Plus v h = record { sfits = omega arith }
signed_fits Minus v h = minus_fits v (omega arith)
signed_fits Negated v h = minus_fits v (omega arith)

pub most_bound : (sign : Sign) (v : ℕ) → v ≤ most sign → v ≤ 2147483648
most_bound Unsigned v h = omega arith
most_bound Plus v h = omega arith
most_bound Minus v h = omega arith
most_bound Negated v h = omega arith

pub unsigned_most : (v : ℕ) → SFits w32 (signed Unsigned v) → v ≤ most Unsigned
unsigned_most v h = omega arith

pub sign_most : (z : ℤ) → SFits w32 z → nat_abs z ≤ most (written_sign z)
unfolding written_sign
sign_most (pos v) h = omega arith
sign_most (negsuc v) h = omega arith

-- ---- the number where it fits, and else 0
pub or_zero_fit : (sign : Sign) (v : ℕ) → v ≤ most sign → or_zero sign v ≡ signed sign v
unfolding or_zero
or_zero_fit sign v h = rw (le-leb v (most sign) h)

-- and the machine holds it
pub or_zero_fits : (sign : Sign) (v : ℕ) → SFits w32 (or_zero sign v)
unfolding or_zero
or_zero_fits sign v = go (leb v (most sign)) refl
  where
    go : (t : Bool) → leb v (most sign) ≡ t → SFits w32 (or_zero sign v)
    go true e = rw e (signed_fits sign v (leb-true _ _ e))
    go false e = rw e (record { sfits = omega arith })

pub or_zero_held : (sign : Sign) (v : ℕ) → to_z w32 (of_z w32 (or_zero sign v)) ≡ or_zero sign v
or_zero_held sign v = to_z-of_z (or_zero_fits sign v)
