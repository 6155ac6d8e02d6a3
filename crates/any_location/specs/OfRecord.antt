-- A position and a location of a record, as those of any kind. Of a tree's record it is what the tree means.
use Rattle.std.specs.Prelude.{Bool, true, false, None, Some}
use Rattle.record.specs.declared.Kind.{Kind}
use Rattle.record.specs.declared.Kind.TheVariants.{Cds, Genome, Mt, Tx, Prot, Rna}
use Rattle.record.specs.declared.CdsFrom.TheVariants.{Start}
use Rattle.record.specs.declared.MuCdsInterval.TheVariants as MuCds
use Rattle.record.specs.declared.MuGenomeInterval.TheVariants as MuGenome
use Rattle.record.specs.declared.MuMtInterval.TheVariants as MuMt
use Rattle.record.specs.declared.MuTxInterval.TheVariants as MuTx
use Rattle.record.specs.declared.MuRnaInterval.TheVariants as MuRna
use Rattle.record.specs.declared.MuProtInterval.TheVariants as MuProt
use Rattle.grammar.specs.Positions as Tree
use Rattle.grammar.specs.Shapes.{Mu.certain}
use Rattle.grammar.specs.Bodies as B
use Rattle.grammar.specs.Records.{PositionR, MuIntervalR}
use Rattle.any_location.specs.declared.Position.{Position}
use Rattle.any_location.specs.declared.Location.{Location}
use Rattle.any_location.specs.OfTree.{with_base, unmarked_of, known_at, not_known}

abbrev pub any_position : (k : Kind) → PositionR k → Position
any_position Cds p = with_base p.base p.cds_from p.offset
any_position Genome None = not_known
any_position Genome (Some z) = known_at z
any_position Mt None = not_known
any_position Mt (Some z) = known_at z
any_position Tx p = with_base p.base Start p.offset
any_position Prot p = unmarked_of p.aa p.number false
any_position Rna p = with_base p.base Start p.offset

abbrev pub any_mu : (k : Kind) → Bool → PositionR k → PositionR k → Location
any_mu k is_certain start end = record { certain = is_certain; start = any_position k start; end = any_position k end }

abbrev pub any_location : (k : Kind) → MuIntervalR k → Location
any_location Cds (MuCds.Certain i) = any_mu Cds true i.start i.end
any_location Cds (MuCds.Uncertain i) = any_mu Cds false i.start i.end
any_location Genome (MuGenome.Certain i) = any_mu Genome true i.start i.end
any_location Genome (MuGenome.Uncertain i) = any_mu Genome false i.start i.end
any_location Mt (MuMt.Certain i) = any_mu Mt true i.start i.end
any_location Mt (MuMt.Uncertain i) = any_mu Mt false i.start i.end
any_location Tx (MuTx.Certain i) = any_mu Tx true i.start i.end
any_location Tx (MuTx.Uncertain i) = any_mu Tx false i.start i.end
any_location Prot (MuProt.Certain i) = any_mu Prot true i.start i.end
any_location Prot (MuProt.Uncertain i) = any_mu Prot false i.start i.end
any_location Rna (MuRna.Certain i) = any_mu Rna true i.start i.end
any_location Rna (MuRna.Uncertain i) = any_mu Rna false i.start i.end
