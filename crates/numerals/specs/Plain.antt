-- Digits that are plainly spelled are those that are written for their number.
use Rattle.std.specs.Prelude.{ℕ, suc, ◌≡◌, List, negsuc}
use Rattle.std.proofs.Math.Option.{some}
use Rattle.numerals.specs.Digits.{val}
use Rattle.numerals.specs.Reading.{or_zero}
use Rattle.numerals.specs.Written.{digits_of}
use Rattle.numerals.specs.declared.Sign.TheVariants.{Minus}

-- with a minus they are below 0
pub record Below (ds : List ℕ) : Type 0 where
  pub less : ℕ
  pub value : or_zero Minus (val ds) ≡ negsuc less
  pub found : digits_of Minus (suc less) ≡ some ds
