-- Laws of numbers that are read.
use Rattle.std.specs.Prelude.{ℕ, ◌≤◌, ◌<◌, ◌≡◌, Bool, true, false, pos}
use Rattle.std.proofs.Common.{le-leb}
use Rattle.std.proofs.lemmas.Bool.{lt-leb}
use Rattle.numerals.specs.Spelling.{plainly}
use Rattle.numerals.specs.Reading.{signed, most, or_zero, number_of}
use Rattle.numerals.specs.declared.Sign.{Sign}

-- ---- a number that fits, and one that does not
module _ (n : ℕ) (sign : Sign) (v : ℕ) (zero : Bool) where
  pub number_fit : v ≤ most sign → record { len = n; value = signed sign v; fits = true; plain = plainly n sign zero } ≡ number_of n sign v zero
  unfolding number_of or_zero
  number_fit h = rw (le-leb v (most sign) h)

  pub number_misfit : most sign < v → record { len = n; value = pos 0; fits = false; plain = plainly n sign zero } ≡ number_of n sign v zero
  unfolding number_of or_zero
  number_misfit h = rw (lt-leb v (most sign) h)
