-- Where a position may be unknown.
use Rattle.std.specs.Prelude.{None, Some}
use mathlib.Core.Path.{◌≡◌, refl}
use mathlib.Core.Bool.{Bool, true, false, cond}
use lib.IntN.{ℤ}
use Rattle.record.specs.declared.Kind.TheVariants.{Genome, Mt}
use Rattle.lang_locations.specs.Equal.{eq_position}
use Rattle.any_location_same.specs.Same.{eq_genomic}

-- unknown, or a number
module _ (v w : ℤ) where
  pub genome_same : (t u : Bool) → eq_genomic t u v w ≡ eq_position Genome (cond t None (Some v)) (cond u None (Some w))
  genome_same true true = refl
  genome_same true false = refl
  genome_same false true = refl
  genome_same false false = refl

  pub mt_same : (t u : Bool) → eq_genomic t u v w ≡ eq_position Mt (cond t None (Some v)) (cond u None (Some w))
  mt_same true true = refl
  mt_same true false = refl
  mt_same false true = refl
  mt_same false false = refl
