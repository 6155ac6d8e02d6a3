-- The width of a record's location is that of its location of any kind.
use Rattle.std.specs.Prelude.{ℕ, ◌≡◌, refl, None, Some}
use Rattle.std.proofs.Common.{ap, ◌∙◌}
use Rattle.std.proofs.Math.Option.{Option}
use Rattle.record.specs.declared.Kind.{Kind}
use Rattle.record.specs.declared.Kind.TheVariants.{Cds, Genome, Mt, Tx, Prot, Rna}
use Rattle.record.specs.declared.Body.{Body}
use Rattle.record.specs.declared.Body.TheVariants as Bo
use Rattle.record.specs.Named.{GenomePos, MtPos}
use Rattle.record.specs.declared.MuCdsInterval.TheVariants as MuCds
use Rattle.record.specs.declared.MuGenomeInterval.TheVariants as MuGenome
use Rattle.record.specs.declared.MuMtInterval.TheVariants as MuMt
use Rattle.record.specs.declared.MuTxInterval.TheVariants as MuTx
use Rattle.record.specs.declared.MuRnaInterval.TheVariants as MuRna
use Rattle.record.specs.declared.MuProtInterval.TheVariants as MuProt
use Rattle.grammar.specs.Records.{MuIntervalR}
use Rattle.promise.specs.Width.{between, genome_number, mt_number, mu_cds_width, mu_genome_width, mu_mt_width, mu_tx_width, mu_rna_width, mu_prot_width, prot_width, body_width}
use Rattle.any_location.specs.declared.Location.{Location}
use Rattle.any_body.specs.declared.AnyBody.{AnyBody}
use Rattle.any_body.specs.declared.AnyBody.TheVariants.{Nucleotide, Protein}
use Rattle.any_location.specs.OfRecord.{any_position, any_location}
use Rattle.any_body.specs.AnyBodies.{any_body}
use Rattle.measure_location.specs.LocationWidths.{width_from_to, location_width}

abbrev pub kind_width : (k : Kind) → MuIntervalR k → Option ℕ
kind_width Cds l = mu_cds_width l
kind_width Genome l = mu_genome_width l
kind_width Mt l = mu_mt_width l
kind_width Tx l = mu_tx_width l
kind_width Prot l = mu_prot_width l
kind_width Rna l = mu_rna_width l

genome_width : (a b : GenomePos) → width_from_to Genome (any_position Genome a) (any_position Genome b) ≡ between (genome_number a) (genome_number b)
genome_width None None = refl
genome_width None (Some n) = refl
genome_width (Some m) None = refl
genome_width (Some m) (Some n) = refl

mt_width : (a b : MtPos) → width_from_to Mt (any_position Mt a) (any_position Mt b) ≡ between (mt_number a) (mt_number b)
mt_width None None = refl
mt_width None (Some n) = refl
mt_width (Some m) None = refl
mt_width (Some m) (Some n) = refl

any_width_lem : (k : Kind) (l : MuIntervalR k) → location_width k (any_location k l) ≡ kind_width k l
any_width_lem Cds (MuCds.Certain i) = refl
any_width_lem Cds (MuCds.Uncertain i) = refl
any_width_lem Genome (MuGenome.Certain i) = genome_width i.start i.end
any_width_lem Genome (MuGenome.Uncertain i) = genome_width i.start i.end
any_width_lem Mt (MuMt.Certain i) = mt_width i.start i.end
any_width_lem Mt (MuMt.Uncertain i) = mt_width i.start i.end
any_width_lem Tx (MuTx.Certain i) = refl
any_width_lem Tx (MuTx.Uncertain i) = refl
any_width_lem Prot (MuProt.Certain i) = refl
any_width_lem Prot (MuProt.Uncertain i) = refl
any_width_lem Rna (MuRna.Certain i) = refl
any_width_lem Rna (MuRna.Uncertain i) = refl

pub measured : (k : Kind) (l : MuIntervalR k) {o : Option ℕ} {any : Location} → o ≡ location_width k any → any ≡ any_location k l → o ≡ kind_width k l
measured k l p q = p ∙ ap (location_width k) q ∙ any_width_lem k l

-- ---- a body's
abbrev pub any_width : AnyBody → Option ℕ
any_width (Nucleotide k l e) = location_width k l
any_width (Protein p) = prot_width p

pub any_body_width : (b : Body) → any_width (any_body b) ≡ body_width b
any_body_width (Bo.Cds b) = any_width_lem Cds b.loc
any_body_width (Bo.Genome b) = any_width_lem Genome b.loc
any_body_width (Bo.Mt b) = any_width_lem Mt b.loc
any_body_width (Bo.Tx b) = any_width_lem Tx b.loc
any_body_width (Bo.Prot b) = refl
any_body_width (Bo.Rna b) = any_width_lem Rna b.loc
