-- Document 01, "Width", and document 02, request 2: what measuring a record answers. Checks 1 (source), 4, 5, 7.
use Rattle.std.specs.Prelude.{ℕ, zero, suc, ◌-◌, ◌≡◌, List, Bool, cond, ℤ, pos, negsuc, nat_abs, ◌-ℤ◌, None, Some}
use Rattle.std.proofs.Math.Option.{Option, none, some}
use Rattle.std.specs.Int.Signed.{le_z}
use Rattle.record.specs.declared.Kind.{Kind}
use Rattle.record.specs.Named.{Offset, CdsInterval, GenomePos, MtPos}
use Rattle.record.specs.declared.CdsFrom.{CdsFrom}
use Rattle.record.specs.declared.CdsFrom.TheVariants.{Start, End}
use Rattle.record.specs.declared.MuCdsInterval.{MuCdsInterval}
use Rattle.record.specs.declared.MuCdsInterval.TheVariants as MuCds
use Rattle.record.specs.declared.MuGenomeInterval.{MuGenomeInterval}
use Rattle.record.specs.declared.MuGenomeInterval.TheVariants as MuGenome
use Rattle.record.specs.declared.MuMtInterval.{MuMtInterval}
use Rattle.record.specs.declared.MuMtInterval.TheVariants as MuMt
use Rattle.record.specs.declared.MuTxInterval.{MuTxInterval}
use Rattle.record.specs.declared.MuTxInterval.TheVariants as MuTx
use Rattle.record.specs.declared.MuRnaInterval.{MuRnaInterval}
use Rattle.record.specs.declared.MuRnaInterval.TheVariants as MuRna
use Rattle.record.specs.declared.MuProtInterval.{MuProtInterval}
use Rattle.record.specs.declared.MuProtInterval.TheVariants as MuProt
use Rattle.record.specs.declared.ProtLocEdit.{ProtLocEdit}
use Rattle.record.specs.declared.ProtLocEdit.TheVariants.{Ordinary, NoChange, NoChangeUncertain, NoProtein, NoProteinUncertain, Unknown, InitiationUncertain}
use Rattle.record.specs.declared.Body.{Body}
use Rattle.record.specs.declared.Body.TheVariants as Bo
use Rattle.record.specs.declared.HgvsVariant.{HgvsVariant}
use Rattle.promise.specs.Outcome.{Outcome, Outcome.given, Outcome.refused}
use Rattle.promise.specs.Writing.{Sound, Unsound}

-- end minus start plus 1; none where the end lies before the start
unfoldable pub width_between : ℤ → ℤ → Option ℕ
width_between start end = cond (le_z start end) (some (suc (nat_abs (end -ℤ start)))) none

abbrev pub between : Option ℤ → Option ℤ → Option ℕ
between none b = none
between (some a) none = none
between (some a) (some b) = width_between a b

-- for c, n and r, which have no base zero: ..., -2, -1, 1, 2, ... as consecutive numbers
abbrev pub base_index : ℤ → Option ℤ
base_index (negsuc n) = some (negsuc n)
base_index (pos zero) = none
base_index (pos (suc n)) = some (pos n)

-- of an end that no offset goes with
abbrev pub unshifted : Option ℤ → Offset → Option ℤ
unshifted index None = index
unshifted index (Some n) = none

abbrev pub genome_number : GenomePos → Option ℤ
genome_number None = none
genome_number (Some n) = some n

abbrev pub mt_number : MtPos → Option ℤ
mt_number None = none
mt_number (Some n) = some n

-- both ends have one anchor
abbrev pub anchored : CdsFrom → CdsFrom → Option ℕ → Option ℕ
anchored Start Start w = w
anchored Start End w = none
anchored End Start w = none
anchored End End w = w

abbrev pub cds_width : CdsInterval → Option ℕ
cds_width i =
    anchored i.start.cds_from i.end.cds_from (between (unshifted (base_index i.start.base) i.start.offset) (unshifted (base_index i.end.base) i.end.offset))

abbrev pub mu_cds_width : MuCdsInterval → Option ℕ
mu_cds_width (MuCds.Certain i) = cds_width i
mu_cds_width (MuCds.Uncertain i) = cds_width i

abbrev pub mu_genome_width : MuGenomeInterval → Option ℕ
mu_genome_width (MuGenome.Certain i) = between (genome_number i.start) (genome_number i.end)
mu_genome_width (MuGenome.Uncertain i) = between (genome_number i.start) (genome_number i.end)

abbrev pub mu_mt_width : MuMtInterval → Option ℕ
mu_mt_width (MuMt.Certain i) = between (mt_number i.start) (mt_number i.end)
mu_mt_width (MuMt.Uncertain i) = between (mt_number i.start) (mt_number i.end)

abbrev pub mu_tx_width : MuTxInterval → Option ℕ
mu_tx_width (MuTx.Certain i) = between (unshifted (base_index i.start.base) i.start.offset) (unshifted (base_index i.end.base) i.end.offset)
mu_tx_width (MuTx.Uncertain i) = between (unshifted (base_index i.start.base) i.start.offset) (unshifted (base_index i.end.base) i.end.offset)

abbrev pub mu_rna_width : MuRnaInterval → Option ℕ
mu_rna_width (MuRna.Certain i) = between (unshifted (base_index i.start.base) i.start.offset) (unshifted (base_index i.end.base) i.end.offset)
mu_rna_width (MuRna.Uncertain i) = between (unshifted (base_index i.start.base) i.start.offset) (unshifted (base_index i.end.base) i.end.offset)

abbrev pub mu_prot_width : MuProtInterval → Option ℕ
mu_prot_width (MuProt.Certain i) = width_between i.start.number i.end.number
mu_prot_width (MuProt.Uncertain i) = width_between i.start.number i.end.number

-- of p, ordinary bodies alone
abbrev pub prot_width : ProtLocEdit → Option ℕ
prot_width (Ordinary l e) = mu_prot_width l
prot_width NoChange = none
prot_width NoChangeUncertain = none
prot_width NoProtein = none
prot_width NoProteinUncertain = none
prot_width Unknown = none
prot_width InitiationUncertain = none

abbrev pub body_width : Body → Option ℕ
body_width (Bo.Cds b) = mu_cds_width b.loc
body_width (Bo.Genome b) = mu_genome_width b.loc
body_width (Bo.Mt b) = mu_mt_width b.loc
body_width (Bo.Tx b) = mu_tx_width b.loc
body_width (Bo.Prot b) = prot_width b
body_width (Bo.Rna b) = mu_rna_width b.loc

module _ (letters : Kind → ℕ → Bool) where
  pub data Measures (source : List ℕ) (v : HgvsVariant) : Outcome ℕ → Type 0 where
    unsound : (number : ℕ) → Unsound letters source v number → Measures source v (refused number 0)
    no_width : Sound letters source v → body_width v.body ≡ none → Measures source v (refused 7 0)
    measured : Sound letters source v → (width : ℕ) → body_width v.body ≡ some width → Measures source v (given width)
