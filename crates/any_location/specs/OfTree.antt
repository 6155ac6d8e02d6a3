-- The position and the location of any kind that a tree means, its spans where it stands in a text.
use Rattle.std.specs.Prelude.{ℕ, ◌+◌, Bool, true, false, ℤ, pos, length, None}
use Rattle.numerals.specs.declared.Sign.TheVariants.{Unsigned}
use Rattle.record.specs.declared.Span.{Span}
use Rattle.record.specs.declared.Kind.{Kind}
use Rattle.record.specs.declared.Kind.TheVariants.{Cds, Genome, Mt, Tx, Prot, Rna}
use Rattle.record.specs.declared.CdsFrom.{CdsFrom}
use Rattle.record.specs.declared.CdsFrom.TheVariants.{Start}
use Rattle.record.specs.Named.{Offset}
use Rattle.grammar.specs.Positions as G
use Rattle.grammar.specs.Positions.{Based, Based.based, Genomic, Genomic.known, Genomic.unknown, Residual, Residual.residual, print_position}
use Rattle.grammar.specs.Shapes.{Interval.one, Interval.two, Mu.certain, Mu.uncertain}
use Rattle.grammar.specs.Bodies as B
use Rattle.grammar.specs.Bodies.{Ends}
use Rattle.grammar.specs.Meaning.{number, sign_of, from_of, offset_of}
use Rattle.grammar.specs.Records.{span, span_of}
use Rattle.any_location.specs.declared.Position.{Position}
use Rattle.any_location.specs.declared.Location.{Location}

-- ---- positions: with a base; a number, or none, without offset
abbrev pub with_base : ℤ → CdsFrom → Offset → Position
with_base n from o = record { aa = span 0 0; number = n; unknown = false; cds_from = from; offset = o }

abbrev pub unmarked_of : Span → ℤ → Bool → Position
unmarked_of aa n is_unknown = record { aa = aa; number = n; unknown = is_unknown; cds_from = Start; offset = None }

abbrev pub known_at : ℤ → Position
known_at n = unmarked_of (span 0 0) n false

abbrev pub not_known : Position
not_known = unmarked_of (span 0 0) (pos 0) true

-- ---- of a tree
abbrev pub based_of : Based → Position
based_of (based m ds o) = with_base (number (sign_of m) ds) (from_of m) (offset_of o)

-- of n and r, where no mark is a `*`: from the start
abbrev pub unstarred_of : Based → Position
unstarred_of (based m ds o) = with_base (number (sign_of m) ds) Start (offset_of o)

abbrev pub genomic_of : Genomic → Position
genomic_of (known ds) = known_at (number Unsigned ds)
genomic_of unknown = not_known

abbrev pub residual_of : ℕ → Residual → Position
residual_of at (residual r ds) = unmarked_of (span_of at r) (number Unsigned ds) false

abbrev pub position_of : (k : Kind) → ℕ → G.PositionTree k → Position
position_of Cds at = based_of
position_of Genome at = genomic_of
position_of Mt at = genomic_of
position_of Tx at = unstarred_of
position_of Prot at = residual_of at
position_of Rna at = unstarred_of

abbrev pub interval_of : (k : Kind) → Bool → ℕ → Ends k → Location
interval_of k sure at (one p) = record { certain = sure; start = position_of k at p; end = position_of k at p }
interval_of k sure at (two p q) = record { certain = sure; start = position_of k at p; end = position_of k (at + length (print_position k p) + 1) q }

abbrev pub location_of : (k : Kind) → ℕ → B.LocationTree k → Location
location_of k at (certain i) = interval_of k true at i
location_of k at (uncertain i) = interval_of k false (at + 1) i

-- ---- in brackets
abbrev pub uncertain_of : Location → Location
uncertain_of l = record { certain = false; start = l.start; end = l.end }
