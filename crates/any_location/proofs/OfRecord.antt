-- A position and a location of a record, as those of any kind. Of a tree's record it is what the tree means.
use Rattle.std.specs.Prelude.{ℕ, ◌+◌, ◌≡◌, refl, Bool, true, false, cond, length}
use Rattle.std.proofs.Common.{◌∙◌}
use Rattle.record.specs.declared.Kind.{Kind}
use Rattle.record.specs.declared.Kind.TheVariants.{Cds, Genome, Mt, Tx, Prot, Rna}
use Rattle.record.specs.declared.MuCdsInterval.TheVariants as MuCds
use Rattle.record.specs.declared.MuGenomeInterval.TheVariants as MuGenome
use Rattle.record.specs.declared.MuMtInterval.TheVariants as MuMt
use Rattle.record.specs.declared.MuTxInterval.TheVariants as MuTx
use Rattle.record.specs.declared.MuRnaInterval.TheVariants as MuRna
use Rattle.record.specs.declared.MuProtInterval.TheVariants as MuProt
use Rattle.grammar.specs.Positions as Tree
use Rattle.grammar.specs.Positions.{Based.based, Genomic.known, Genomic.unknown, Residual.residual, print_position}
use Rattle.grammar.specs.Shapes.{Interval.one, Interval.two, Mu.certain, Mu.uncertain}
use Rattle.grammar.specs.Bodies as B
use Rattle.grammar.specs.Bodies.{Ends}
use Rattle.grammar.specs.Records.{PositionR, position_at, interval, interval_at, certainly, uncertainly, location_at}
use Rattle.any_location.specs.OfTree.{position_of, interval_of, location_of}
use Rattle.any_location.specs.OfRecord.{any_position, any_mu, any_location}

-- ---- of a tree's record
position_any : (k : Kind) (at : ℕ) (p : Tree.PositionTree k) → any_position k (position_at k at p) ≡ position_of k at p
position_any Cds at (based m ds o) = refl
position_any Genome at (known ds) = refl
position_any Genome at unknown = refl
position_any Mt at (known ds) = refl
position_any Mt at unknown = refl
position_any Tx at (based m ds o) = refl
position_any Prot at (residual r ds) = refl
position_any Rna at (based m ds o) = refl

mu_any : (k : Kind) (sure : Bool) (start end : PositionR k) → any_location k (cond sure (certainly k (interval k start end)) (uncertainly k (interval k start end))) ≡ any_mu k sure start end
mu_any Cds true start end = refl
mu_any Cds false start end = refl
mu_any Genome true start end = refl
mu_any Genome false start end = refl
mu_any Mt true start end = refl
mu_any Mt false start end = refl
mu_any Tx true start end = refl
mu_any Tx false start end = refl
mu_any Prot true start end = refl
mu_any Prot false start end = refl
mu_any Rna true start end = refl
mu_any Rna false start end = refl

interval_any : (k : Kind) (sure : Bool) (at : ℕ) (i : Ends k) → any_location k (cond sure (certainly k (interval_at k at i)) (uncertainly k (interval_at k at i))) ≡ interval_of k sure at i
interval_any k sure at (one p) = mu_any k sure (position_at k at p) (position_at k at p) ∙ rw (position_any k at p)
interval_any k sure at (two p q) = mu_any k sure (position_at k at p) (position_at k (at + length (print_position k p) + 1) q) ∙ rw (position_any k at p, position_any k (at + length (print_position k p) + 1) q)

pub location_any : (k : Kind) (at : ℕ) (l : B.LocationTree k) → any_location k (location_at k at l) ≡ location_of k at l
location_any k at (certain i) = interval_any k true at i
location_any k at (uncertain i) = interval_any k false (at + 1) i
