-- Whether a location's numbers are faultless: their row is exactly where each position's row is, wherever it stands.
use Rattle.std.specs.Prelude.{ℕ, ◌+◌, ◌≡◌, length}
use Rattle.std.proofs.Math.Path.{refl}
use Rattle.record.specs.declared.Kind.{Kind}
use Rattle.record.specs.declared.Kind.TheVariants.{Cds, Genome, Mt, Tx, Prot, Rna}
use Rattle.grammar.specs.Positions.{OffsetTree.absent, OffsetTree.ahead, OffsetTree.back, Based, Based.based, Genomic, Genomic.known, Genomic.unknown, Residual.residual, PositionTree, print_position}
use Rattle.grammar.specs.Shapes.{Interval.one, Interval.two, Mu.certain, Mu.uncertain}
use Rattle.grammar.specs.Bodies.{Ends, LocationTree}
use Rattle.grammar.specs.Numbers.{Faultless, based_numbers, genomic_numbers, position_numbers, ends_numbers, mu_numbers}
use Rattle.grammar.specs.NumberLaws.{every_number, is_faultless}
use Rattle.grammar.proofs.NumberLaws.{faultless_elsewhere, faultless_both, both_faultless}
use Rattle.lang_locations.proofs.Canonical.{ends_canon, location_canon}

-- ---- a position fits wherever it stands
module _ (i j : ℕ) where
  based_anywhere : (t : Based) → is_faultless (based_numbers i t) ≡ is_faultless (based_numbers j t)
  unfolding every_number
  based_anywhere (based m ds absent) = refl
  based_anywhere (based m ds (ahead es)) = refl
  based_anywhere (based m ds (back es)) = refl

  genomic_anywhere : (t : Genomic) → is_faultless (genomic_numbers i t) ≡ is_faultless (genomic_numbers j t)
  unfolding every_number
  genomic_anywhere (known ds) = refl
  genomic_anywhere unknown = refl

  position_anywhere : (k : Kind) (t : PositionTree k) → is_faultless (position_numbers k i t) ≡ is_faultless (position_numbers k j t)
  unfolding every_number
  position_anywhere Cds t = based_anywhere t
  position_anywhere Genome t = genomic_anywhere t
  position_anywhere Mt t = genomic_anywhere t
  position_anywhere Tx t = based_anywhere t
  position_anywhere Prot (residual r ds) = refl
  position_anywhere Rna t = based_anywhere t

pub position_fits_anywhere : (k : Kind) (i j : ℕ) (t : PositionTree k) → Faultless (position_numbers k i t) → Faultless (position_numbers k j t)
position_fits_anywhere k i j t = faultless_elsewhere (position_numbers k i t) (position_numbers k j t) (position_anywhere i j k t)

-- ---- intervals and locations
module _ (k : Kind) (i : ℕ) where
  pub ends_fits : (t : Ends k) → Faultless (ends_numbers k i t) → (ends_canon k).Fits t
  ends_fits (one p) e = position_fits_anywhere k i 0 p e
  ends_fits (two p q) e =
      let j = i + length (print_position k p) + 1 in
      let h = faultless_both (position_numbers k i p) (position_numbers k j q) e in
      (position_fits_anywhere k i 0 p h.0, position_fits_anywhere k j 0 q h.1)

  pub fits_ends : (t : Ends k) → (ends_canon k).Fits t → Faultless (ends_numbers k i t)
  fits_ends (one p) f = position_fits_anywhere k 0 i p f
  fits_ends (two p q) f =
      let j = i + length (print_position k p) + 1 in
      both_faultless (position_numbers k i p) (position_numbers k j q) (position_fits_anywhere k 0 i p f.0) (position_fits_anywhere k 0 j q f.1)

pub location_fits : (k : Kind) (i : ℕ) (l : LocationTree k) → Faultless (mu_numbers (ends_numbers k) i l) → (location_canon k).Fits l
location_fits k i (certain t) e = ends_fits k i t e
location_fits k i (uncertain t) e = ends_fits k (i + 1) t e

pub fits_location : (k : Kind) (i : ℕ) (l : LocationTree k) → (location_canon k).Fits l → Faultless (mu_numbers (ends_numbers k) i l)
fits_location k i (certain t) f = fits_ends k i t f
fits_location k i (uncertain t) f = fits_ends k (i + 1) t f
