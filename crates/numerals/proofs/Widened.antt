-- What the machine makes of a number in 64 bits: of `0 - z` its negative, and of an i32 the same number.
use Rattle.std.specs.Prelude.{◌≡◌, ℤ, pos, neg_ℤ, ◌-ℤ◌}
use Rattle.std.proofs.Math.IntN.{+ℤ_idl}
use Rattle.std.specs.Int.{w32, w64}
use Rattle.std.proofs.Common.{SFits, to_z, of_z, to_z-of_z}
use Rattle.std.proofs.Math.Facts.{sfits_widen}

module _ {z a : ℤ} (e : z ≡ a) (f : SFits w64 (neg_ℤ a)) where
  pub negation_fits : SFits w64 (pos 0 -ℤ z)
  negation_fits = rw (e, +ℤ_idl) f

  pub negation : to_z w64 (of_z w64 (pos 0 -ℤ z)) ≡ neg_ℤ a
  negation = rw (e, +ℤ_idl) (to_z-of_z f)

pub widened : {a : ℤ} → SFits w32 a → to_z w64 (of_z w64 (to_z w32 (of_z w32 a))) ≡ a
widened {a} f = let g : SFits w64 a = sfits_widen tt f in rw (to_z-of_z f) (to_z-of_z g)
