-- The declared record of each kind, from a position and from a location of any kind. Of a tree it is the tree's record, of a record the record.
use Rattle.std.specs.Prelude.{Bool, true, false, cond, None, Some}
use Rattle.record.specs.declared.Kind.{Kind}
use Rattle.record.specs.declared.Kind.TheVariants.{Cds, Genome, Mt, Tx, Prot, Rna}
use Rattle.record.specs.declared.MuCdsInterval.TheVariants as MuCds
use Rattle.record.specs.declared.MuGenomeInterval.TheVariants as MuGenome
use Rattle.record.specs.declared.MuMtInterval.TheVariants as MuMt
use Rattle.record.specs.declared.MuTxInterval.TheVariants as MuTx
use Rattle.record.specs.declared.MuRnaInterval.TheVariants as MuRna
use Rattle.record.specs.declared.MuProtInterval.TheVariants as MuProt
use Rattle.grammar.specs.Positions as Tree
use Rattle.grammar.specs.Positions.{Genomic.unknown}
use Rattle.grammar.specs.Shapes.{Mu.certain}
use Rattle.grammar.specs.Bodies as B
use Rattle.grammar.specs.Records.{PositionR, interval, MuIntervalR, certainly, uncertainly}
use Rattle.any_location.specs.declared.Position.{Position}
use Rattle.any_location.specs.declared.Location.{Location}

abbrev pub position_for : (k : Kind) → Position → PositionR k
position_for Cds p = record { base = p.number; offset = p.offset; cds_from = p.cds_from }
position_for Genome p = cond p.unknown None (Some p.number)
position_for Mt p = cond p.unknown None (Some p.number)
position_for Tx p = record { base = p.number; offset = p.offset }
position_for Prot p = record { aa = p.aa; number = p.number }
position_for Rna p = record { base = p.number; offset = p.offset }

abbrev pub mu_for : (k : Kind) → Bool → PositionR k → PositionR k → MuIntervalR k
mu_for k true start end = certainly k (interval k start end)
mu_for k false start end = uncertainly k (interval k start end)

abbrev pub location_for : (k : Kind) → Location → MuIntervalR k
location_for k l = mu_for k l.certain (position_for k l.start) (position_for k l.end)
