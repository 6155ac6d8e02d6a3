-- What a text means: the record, with lists of bytes in place of spans. A declared type that holds no span stands for itself.
use Rattle.std.specs.Prelude.{ℕ, List, ℤ}
use Rattle.std.proofs.Math.Option.{Option}
use Rattle.record.specs.declared.Kind.{Kind}
use Rattle.record.specs.declared.Kind.TheVariants.{Cds, Genome, Mt, Tx, Prot, Rna}
use Rattle.record.specs.declared.CdsPos.{CdsPos}
use Rattle.record.specs.Named.{GenomePos, MtPos, TxPos, RnaPos}
use Rattle.record.specs.declared.UncertainLengthChange.{UncertainLengthChange}
use Rattle.grammar.specs.Shapes.{Mu, Both}

-- a position of p: its residue and its number
pub data ProtPosV : Type 0 where
  prot_pos_v : List ℕ → ℤ → ProtPosV

abbrev pub PositionV : Kind → Type 0
PositionV Cds = CdsPos
PositionV Genome = GenomePos
PositionV Mt = MtPos
PositionV Tx = TxPos
PositionV Prot = ProtPosV
PositionV Rna = RnaPos

-- start and end
abbrev pub EndsV : Kind → Type 0
EndsV k = Both (PositionV k) (PositionV k)

pub data NaEditV : Type 0 where
  ref_alt : List ℕ → List ℕ → NaEditV
  num_alt : ℤ → List ℕ → NaEditV
  del_ref : List ℕ → NaEditV
  del_num : ℤ → NaEditV
  ins_v dup_v inv_ref : List ℕ → NaEditV
  inv_num : ℤ → NaEditV

pub data ProteinEditV : Type 0 where
  fs_v ext_v : Option (List ℕ) → Option (List ℕ) → UncertainLengthChange → ProteinEditV
  subst_v del_ins_v ins_pv : List ℕ → ProteinEditV
  del_v dup_pv ident_v : ProteinEditV

abbrev pub NaBodyV : Kind → Type 0
NaBodyV k = Both (Mu (EndsV k)) (Mu NaEditV)

pub data ProteinBodyV : Type 0 where
  ordinary : Both (Mu (EndsV Prot)) (Mu ProteinEditV) → ProteinBodyV
  no_change_v no_change_uncertain_v no_protein_v no_protein_uncertain_v unknown_v initiation_uncertain : ProteinBodyV

abbrev pub BodyV : Kind → Type 0
BodyV Cds = NaBodyV Cds
BodyV Genome = NaBodyV Genome
BodyV Mt = NaBodyV Mt
BodyV Tx = NaBodyV Tx
BodyV Prot = ProteinBodyV
BodyV Rna = NaBodyV Rna

pub data HeaderV : Type 0 where
  header_v : List ℕ → Option (List ℕ) → HeaderV

pub data Value : Type 0 where
  value : HeaderV → (k : Kind) → BodyV k → Value
