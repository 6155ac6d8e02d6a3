-- The content of a record in a source: spans compared by content; and which records have every span in the source.
use Rattle.std.specs.Prelude.{ℕ, List, Bool, true, ◌&&◌}
use Rattle.record.specs.declared.Kind.{Kind}
use Rattle.record.specs.declared.Kind.TheVariants.{Cds, Genome, Mt, Tx, Prot, Rna}
use Rattle.record.specs.declared.ProtPos.{ProtPos}
use Rattle.record.specs.declared.MuCdsInterval.TheVariants as MuCds
use Rattle.record.specs.declared.MuGenomeInterval.TheVariants as MuGenome
use Rattle.record.specs.declared.MuMtInterval.TheVariants as MuMt
use Rattle.record.specs.declared.MuTxInterval.TheVariants as MuTx
use Rattle.record.specs.declared.MuRnaInterval.TheVariants as MuRna
use Rattle.record.specs.declared.MuProtInterval.{MuProtInterval}
use Rattle.record.specs.declared.MuProtInterval.TheVariants as MuProt
use Rattle.record.specs.declared.NaEdit.{NaEdit}
use Rattle.record.specs.declared.NaEdit.TheVariants.{RefAlt, NumAlt, DelRef, DelNum, Ins, Dup, InvRef, InvNum}
use Rattle.record.specs.declared.MuNaEdit.{MuNaEdit}
use Rattle.record.specs.declared.MuNaEdit.TheVariants as MuNa
use Rattle.record.specs.declared.ProteinEdit.{ProteinEdit}
use Rattle.record.specs.declared.ProteinEdit.TheVariants as Pr
use Rattle.record.specs.declared.MuProteinEdit.{MuProteinEdit}
use Rattle.record.specs.declared.MuProteinEdit.TheVariants as MuPr
use Rattle.record.specs.declared.ProtLocEdit.{ProtLocEdit}
use Rattle.record.specs.declared.ProtLocEdit.TheVariants.{Ordinary, NoChange, NoChangeUncertain, NoProtein, NoProteinUncertain, Unknown, InitiationUncertain}
use Rattle.record.specs.declared.Header.{Header}
use Rattle.record.specs.declared.Body.{Body}
use Rattle.record.specs.declared.Body.TheVariants as Bo
use Rattle.record.specs.declared.HgvsVariant.{HgvsVariant}
use Rattle.grammar.specs.Shapes.{Mu, Mu.certain, Mu.uncertain, Both.both}
use Rattle.grammar.specs.Spans.{inside, part, inside_optional, optional_part}
use Rattle.grammar.specs.Records.{PositionR, IntervalR, MuIntervalR}
use Rattle.grammar.specs.Values.{ProtPosV, ProtPosV.prot_pos_v, PositionV, EndsV, NaEditV, NaEditV.ref_alt, NaEditV.num_alt, NaEditV.del_ref, NaEditV.del_num, NaEditV.ins_v, NaEditV.dup_v, NaEditV.inv_ref, NaEditV.inv_num, ProteinEditV, ProteinEditV.fs_v, ProteinEditV.ext_v, ProteinEditV.subst_v, ProteinEditV.del_ins_v, ProteinEditV.ins_pv, ProteinEditV.del_v, ProteinEditV.dup_pv, ProteinEditV.ident_v, ProteinBodyV, ProteinBodyV.ordinary, ProteinBodyV.no_change_v, ProteinBodyV.no_change_uncertain_v, ProteinBodyV.no_protein_v, ProteinBodyV.no_protein_uncertain_v, ProteinBodyV.unknown_v, ProteinBodyV.initiation_uncertain, HeaderV, HeaderV.header_v, Value, Value.value}

module _ (s : List ℕ) where
  -- ---- locations
  abbrev pub prot_content : ProtPos → ProtPosV
  prot_content p = prot_pos_v (part s p.aa) p.number

  abbrev pub position_content : (kind : Kind) → PositionR kind → PositionV kind
  position_content Cds p = p
  position_content Genome p = p
  position_content Mt p = p
  position_content Tx p = p
  position_content Prot p = prot_content p
  position_content Rna p = p

  abbrev pub interval_content : (kind : Kind) → IntervalR kind → EndsV kind
  interval_content Cds i = both i.start i.end
  interval_content Genome i = both i.start i.end
  interval_content Mt i = both i.start i.end
  interval_content Tx i = both i.start i.end
  interval_content Prot i = both (prot_content i.start) (prot_content i.end)
  interval_content Rna i = both i.start i.end

  abbrev pub location_content : (kind : Kind) → MuIntervalR kind → Mu (EndsV kind)
  location_content Cds (MuCds.Certain i) = certain (interval_content Cds i)
  location_content Cds (MuCds.Uncertain i) = uncertain (interval_content Cds i)
  location_content Genome (MuGenome.Certain i) = certain (interval_content Genome i)
  location_content Genome (MuGenome.Uncertain i) = uncertain (interval_content Genome i)
  location_content Mt (MuMt.Certain i) = certain (interval_content Mt i)
  location_content Mt (MuMt.Uncertain i) = uncertain (interval_content Mt i)
  location_content Tx (MuTx.Certain i) = certain (interval_content Tx i)
  location_content Tx (MuTx.Uncertain i) = uncertain (interval_content Tx i)
  location_content Prot (MuProt.Certain i) = certain (interval_content Prot i)
  location_content Prot (MuProt.Uncertain i) = uncertain (interval_content Prot i)
  location_content Rna (MuRna.Certain i) = certain (interval_content Rna i)
  location_content Rna (MuRna.Uncertain i) = uncertain (interval_content Rna i)

  -- ---- edits
  abbrev pub na_edit_content : NaEdit → NaEditV
  na_edit_content (RefAlt p q) = ref_alt (part s p) (part s q)
  na_edit_content (NumAlt n q) = num_alt n (part s q)
  na_edit_content (DelRef p) = del_ref (part s p)
  na_edit_content (DelNum n) = del_num n
  na_edit_content (Ins q) = ins_v (part s q)
  na_edit_content (Dup p) = dup_v (part s p)
  na_edit_content (InvRef p) = inv_ref (part s p)
  na_edit_content (InvNum n) = inv_num n

  abbrev pub mu_na_edit_content : MuNaEdit → Mu NaEditV
  mu_na_edit_content (MuNa.Certain e) = certain (na_edit_content e)
  mu_na_edit_content (MuNa.Uncertain e) = uncertain (na_edit_content e)

  abbrev pub protein_edit_content : ProteinEdit → ProteinEditV
  protein_edit_content (Pr.Fs r t n) = fs_v (optional_part s r) (optional_part s t) n
  protein_edit_content (Pr.Ext r t n) = ext_v (optional_part s r) (optional_part s t) n
  protein_edit_content (Pr.Subst p) = subst_v (part s p)
  protein_edit_content (Pr.DelIns p) = del_ins_v (part s p)
  protein_edit_content (Pr.Ins p) = ins_pv (part s p)
  protein_edit_content Pr.Del = del_v
  protein_edit_content Pr.Dup = dup_pv
  protein_edit_content Pr.Ident = ident_v

  abbrev pub mu_protein_edit_content : MuProteinEdit → Mu ProteinEditV
  mu_protein_edit_content (MuPr.Certain e) = certain (protein_edit_content e)
  mu_protein_edit_content (MuPr.Uncertain e) = uncertain (protein_edit_content e)

  -- ---- bodies, the header, and the whole
  abbrev pub prot_body_content : ProtLocEdit → ProteinBodyV
  prot_body_content (Ordinary l e) = ordinary (both (location_content Prot l) (mu_protein_edit_content e))
  prot_body_content NoChange = no_change_v
  prot_body_content NoChangeUncertain = no_change_uncertain_v
  prot_body_content NoProtein = no_protein_v
  prot_body_content NoProteinUncertain = no_protein_uncertain_v
  prot_body_content Unknown = unknown_v
  prot_body_content InitiationUncertain = initiation_uncertain

  abbrev pub body_content : HeaderV → Body → Value
  body_content h (Bo.Cds b) = value h Cds (both (location_content Cds b.loc) (mu_na_edit_content b.edit))
  body_content h (Bo.Genome b) = value h Genome (both (location_content Genome b.loc) (mu_na_edit_content b.edit))
  body_content h (Bo.Mt b) = value h Mt (both (location_content Mt b.loc) (mu_na_edit_content b.edit))
  body_content h (Bo.Tx b) = value h Tx (both (location_content Tx b.loc) (mu_na_edit_content b.edit))
  body_content h (Bo.Prot b) = value h Prot (prot_body_content b)
  body_content h (Bo.Rna b) = value h Rna (both (location_content Rna b.loc) (mu_na_edit_content b.edit))

  abbrev pub header_content : Header → HeaderV
  header_content h = header_v (part s h.accession) (optional_part s h.gene_symbol)

  abbrev pub content : HgvsVariant → Value
  content v = body_content (header_content v.header) v.body

-- ---- every span of a record lies in a source of n bytes
module _ (n : ℕ) where
  abbrev pub prot_location_inside : MuProtInterval → Bool
  prot_location_inside (MuProt.Certain i) = inside n i.start.aa && inside n i.end.aa
  prot_location_inside (MuProt.Uncertain i) = inside n i.start.aa && inside n i.end.aa

  abbrev pub na_edit_inside : NaEdit → Bool
  na_edit_inside (RefAlt p q) = inside n p && inside n q
  na_edit_inside (NumAlt k q) = inside n q
  na_edit_inside (DelRef p) = inside n p
  na_edit_inside (DelNum k) = true
  na_edit_inside (Ins q) = inside n q
  na_edit_inside (Dup p) = inside n p
  na_edit_inside (InvRef p) = inside n p
  na_edit_inside (InvNum k) = true

  abbrev pub mu_na_edit_inside : MuNaEdit → Bool
  mu_na_edit_inside (MuNa.Certain e) = na_edit_inside e
  mu_na_edit_inside (MuNa.Uncertain e) = na_edit_inside e

  abbrev pub protein_edit_inside : ProteinEdit → Bool
  protein_edit_inside (Pr.Fs r t k) = inside_optional n r && inside_optional n t
  protein_edit_inside (Pr.Ext r t k) = inside_optional n r && inside_optional n t
  protein_edit_inside (Pr.Subst p) = inside n p
  protein_edit_inside (Pr.DelIns p) = inside n p
  protein_edit_inside (Pr.Ins p) = inside n p
  protein_edit_inside Pr.Del = true
  protein_edit_inside Pr.Dup = true
  protein_edit_inside Pr.Ident = true

  abbrev pub mu_protein_edit_inside : MuProteinEdit → Bool
  mu_protein_edit_inside (MuPr.Certain e) = protein_edit_inside e
  mu_protein_edit_inside (MuPr.Uncertain e) = protein_edit_inside e

  abbrev pub prot_body_inside : ProtLocEdit → Bool
  prot_body_inside (Ordinary l e) = prot_location_inside l && mu_protein_edit_inside e
  prot_body_inside NoChange = true
  prot_body_inside NoChangeUncertain = true
  prot_body_inside NoProtein = true
  prot_body_inside NoProteinUncertain = true
  prot_body_inside Unknown = true
  prot_body_inside InitiationUncertain = true

  abbrev pub body_inside : Body → Bool
  body_inside (Bo.Cds b) = mu_na_edit_inside b.edit
  body_inside (Bo.Genome b) = mu_na_edit_inside b.edit
  body_inside (Bo.Mt b) = mu_na_edit_inside b.edit
  body_inside (Bo.Tx b) = mu_na_edit_inside b.edit
  body_inside (Bo.Prot b) = prot_body_inside b
  body_inside (Bo.Rna b) = mu_na_edit_inside b.edit

  abbrev pub spans_inside : HgvsVariant → Bool
  spans_inside v = inside n v.header.accession && inside_optional n v.header.gene_symbol && body_inside v.body
