-- The declared record of each kind, from a position and from a location of any kind. Of a tree it is the tree's record, of a record the record.
use Rattle.std.specs.Prelude.{ℕ, ◌+◌, ◌≡◌, refl, Bool, true, false, cond, length, None, Some}
use Rattle.record.specs.declared.Kind.{Kind}
use Rattle.record.specs.declared.Kind.TheVariants.{Cds, Genome, Mt, Tx, Prot, Rna}
use Rattle.record.specs.declared.MuCdsInterval.TheVariants as MuCds
use Rattle.record.specs.declared.MuGenomeInterval.TheVariants as MuGenome
use Rattle.record.specs.declared.MuMtInterval.TheVariants as MuMt
use Rattle.record.specs.declared.MuTxInterval.TheVariants as MuTx
use Rattle.record.specs.declared.MuRnaInterval.TheVariants as MuRna
use Rattle.record.specs.declared.MuProtInterval.TheVariants as MuProt
use Rattle.grammar.specs.Positions as Tree
use Rattle.grammar.specs.Positions.{Based.based, Genomic.known, Genomic.unknown, Residual.residual, print_position}
use Rattle.grammar.specs.Shapes.{Interval.one, Interval.two, Mu.certain, Mu.uncertain}
use Rattle.grammar.specs.Bodies as B
use Rattle.grammar.specs.Bodies.{Ends}
use Rattle.grammar.specs.Records.{PositionR, position_at, interval, interval_at, MuIntervalR, certainly, uncertainly, location_at}
use Rattle.any_location.specs.declared.Location.{Location}
use Rattle.any_location.specs.OfTree.{position_of, interval_of, location_of, uncertain_of}
use Rattle.any_location.specs.OfRecord.{any_position, any_location}
use Rattle.any_location.specs.ToRecord.{position_for, mu_for, location_for}

-- by whether it is certain
module _ (k : Kind) (l : Location) (start end : PositionR k) (es : start ≡ position_for k l.start) (ee : end ≡ position_for k l.end) where
  pub certain_for : l.certain ≡ true → certainly k (interval k start end) ≡ location_for k l
  certain_for e = rw (e, es, ee)

  pub bracketed_for : l.certain ≡ false → uncertainly k (interval k start end) ≡ location_for k l
  bracketed_for e = rw (e, es, ee)

-- ---- of a tree
position_for_lem : (k : Kind) (at : ℕ) (p : Tree.PositionTree k) → position_for k (position_of k at p) ≡ position_at k at p
position_for_lem Cds at (based m ds o) = refl
position_for_lem Genome at (known ds) = refl
position_for_lem Genome at unknown = refl
position_for_lem Mt at (known ds) = refl
position_for_lem Mt at unknown = refl
position_for_lem Tx at (based m ds o) = refl
position_for_lem Prot at (residual r ds) = refl
position_for_lem Rna at (based m ds o) = refl

interval_for : (k : Kind) (sure : Bool) (at : ℕ) (i : Ends k) → location_for k (interval_of k sure at i) ≡ cond sure (certainly k (interval_at k at i)) (uncertainly k (interval_at k at i))
interval_for k true at (one p) = rw (position_for_lem k at p)
interval_for k true at (two p q) = rw (position_for_lem k at p, position_for_lem k (at + length (print_position k p) + 1) q)
interval_for k false at (one p) = rw (position_for_lem k at p)
interval_for k false at (two p q) = rw (position_for_lem k at p, position_for_lem k (at + length (print_position k p) + 1) q)

pub location_for_lem : (k : Kind) (at : ℕ) (l : B.LocationTree k) → location_for k (location_of k at l) ≡ location_at k at l
location_for_lem k at (certain i) = interval_for k true at i
location_for_lem k at (uncertain i) = interval_for k false (at + 1) i

-- an interval whose brackets stand around more than it
pub uncertain_for : (k : Kind) (at : ℕ) (i : Ends k) → location_for k (uncertain_of (interval_of k true at i)) ≡ uncertainly k (interval_at k at i)
uncertain_for k at (one p) = interval_for k false at (one p)
uncertain_for k at (two p q) = interval_for k false at (two p q)

-- ---- of a record
any_position_lem : (k : Kind) (p : PositionR k) → position_for k (any_position k p) ≡ p
any_position_lem Cds p = refl
any_position_lem Genome None = refl
any_position_lem Genome (Some z) = refl
any_position_lem Mt None = refl
any_position_lem Mt (Some z) = refl
any_position_lem Tx p = refl
any_position_lem Prot p = refl
any_position_lem Rna p = refl

any_ends : (k : Kind) (is_certain : Bool) (start end : PositionR k) → mu_for k is_certain (position_for k (any_position k start)) (position_for k (any_position k end)) ≡ mu_for k is_certain start end
any_ends k is_certain start end = rw (any_position_lem k start, any_position_lem k end)

pub any_location_lem : (k : Kind) (l : MuIntervalR k) → location_for k (any_location k l) ≡ l
any_location_lem Cds (MuCds.Certain i) = any_ends Cds true i.start i.end
any_location_lem Cds (MuCds.Uncertain i) = any_ends Cds false i.start i.end
any_location_lem Genome (MuGenome.Certain i) = any_ends Genome true i.start i.end
any_location_lem Genome (MuGenome.Uncertain i) = any_ends Genome false i.start i.end
any_location_lem Mt (MuMt.Certain i) = any_ends Mt true i.start i.end
any_location_lem Mt (MuMt.Uncertain i) = any_ends Mt false i.start i.end
any_location_lem Tx (MuTx.Certain i) = any_ends Tx true i.start i.end
any_location_lem Tx (MuTx.Uncertain i) = any_ends Tx false i.start i.end
any_location_lem Prot (MuProt.Certain i) = any_ends Prot true i.start i.end
any_location_lem Prot (MuProt.Uncertain i) = any_ends Prot false i.start i.end
any_location_lem Rna (MuRna.Certain i) = any_ends Rna true i.start i.end
any_location_lem Rna (MuRna.Uncertain i) = any_ends Rna false i.start i.end
