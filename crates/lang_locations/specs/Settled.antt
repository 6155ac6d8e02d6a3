-- Locations that are written as they stand: with plainly spelled numbers that fit, each is the one that canon gives for its value.
use Rattle.std.specs.Prelude.{Bool, true, not, ℤ, pos}
use Rattle.numerals.specs.declared.Sign.TheVariants.{Unsigned}
use Rattle.record.specs.declared.Kind.{Kind}
use Rattle.record.specs.declared.Kind.TheVariants.{Cds, Genome, Mt, Tx, Prot, Rna}
use Rattle.grammar.specs.Positions.{Based, Based.based, Genomic, Genomic.known, Genomic.unknown, Residual, Residual.residual, PositionTree}
use Rattle.grammar.specs.Shapes.{Interval.one, Interval.two}
use Rattle.grammar.specs.Bodies.{Ends, LocationTree}
use Rattle.grammar.specs.Meaning.{number, sign_of}
use Rattle.lang.specs.MuCanon.{settled_mu}
use Rattle.lang_locations.specs.Equal.{eqℤ}

-- ---- which they are
-- the number of a position; 0 where it is unknown
abbrev pub based_number : Based → ℤ
based_number (based m ds o) = number (sign_of m) ds

abbrev pub genomic_number : Genomic → ℤ
genomic_number (known ds) = number Unsigned ds
genomic_number unknown = pos 0

abbrev pub residual_number : Residual → ℤ
residual_number (residual r ds) = number Unsigned ds

abbrev pub number_in : (k : Kind) → PositionTree k → ℤ
number_in Cds = based_number
number_in Genome = genomic_number
number_in Mt = genomic_number
number_in Tx = based_number
number_in Prot = residual_number
number_in Rna = based_number

-- two ends with different numbers: this leaves out some pairs that differ otherwise, and one test tells it
abbrev pub settled_ends : (k : Kind) → Ends k → Bool
settled_ends k (one p) = true
settled_ends k (two p q) = not (eqℤ (number_in k p) (number_in k q))

abbrev pub settled_location : (k : Kind) → LocationTree k → Bool
settled_location k = settled_mu (settled_ends k)
