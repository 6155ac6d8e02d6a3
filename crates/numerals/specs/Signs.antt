-- Laws of numbers with a sign: what is worth the same, what fits, and what the machine holds.
use Rattle.std.specs.Prelude.{ℤ, pos, negsuc}
use Rattle.numerals.specs.declared.Sign.{Sign}
use Rattle.numerals.specs.declared.Sign.TheVariants.{Unsigned, Minus}

-- ---- what is worth the same
-- the sign with which a number is written
unfoldable pub written_sign : ℤ → Sign
written_sign (pos v) = Unsigned
written_sign (negsuc v) = Minus
