-- The record that a tree gives: spans where its parts stand, in a text in which the tree starts at a place.
use Rattle.std.specs.Prelude.{ℕ, ◌+◌, List, [], length, None, Some}
use Rattle.std.proofs.Math.Option.{Option, none, some}
use Rattle.numerals.specs.declared.Sign.TheVariants.{Unsigned, Negated}
use Rattle.record.specs.declared.Span.{Span}
use Rattle.record.specs.Named.{Part, GenomePos, MtPos, TxPos, RnaPos, CdsInterval, GenomeInterval, MtInterval, TxInterval, RnaInterval, ProtInterval}
use Rattle.record.specs.declared.Kind.{Kind}
use Rattle.record.specs.declared.Kind.TheVariants.{Cds, Genome, Mt, Tx, Prot, Rna}
use Rattle.record.specs.declared.CdsPos.{CdsPos}
use Rattle.record.specs.declared.ProtPos.{ProtPos}
use Rattle.record.specs.declared.MuCdsInterval.{MuCdsInterval}
use Rattle.record.specs.declared.MuGenomeInterval.{MuGenomeInterval}
use Rattle.record.specs.declared.MuMtInterval.{MuMtInterval}
use Rattle.record.specs.declared.MuTxInterval.{MuTxInterval}
use Rattle.record.specs.declared.MuRnaInterval.{MuRnaInterval}
use Rattle.record.specs.declared.MuProtInterval.{MuProtInterval}
use Rattle.record.specs.declared.MuCdsInterval.TheVariants as MuCds
use Rattle.record.specs.declared.MuGenomeInterval.TheVariants as MuGenome
use Rattle.record.specs.declared.MuMtInterval.TheVariants as MuMt
use Rattle.record.specs.declared.MuTxInterval.TheVariants as MuTx
use Rattle.record.specs.declared.MuRnaInterval.TheVariants as MuRna
use Rattle.record.specs.declared.MuProtInterval.TheVariants as MuProt
use Rattle.record.specs.declared.NaEdit as D
use Rattle.record.specs.declared.NaEdit.TheVariants as Na
use Rattle.record.specs.declared.MuNaEdit.{MuNaEdit}
use Rattle.record.specs.declared.MuNaEdit.TheVariants as MuNa
use Rattle.record.specs.declared.UncertainLengthChange.TheVariants.{None as NoLength, Known}
use Rattle.record.specs.declared.ProteinEdit as DP
use Rattle.record.specs.declared.ProteinEdit.TheVariants as Pr
use Rattle.record.specs.declared.MuProteinEdit.{MuProteinEdit}
use Rattle.record.specs.declared.MuProteinEdit.TheVariants as MuPr
use Rattle.record.specs.declared.ProtLocEdit.{ProtLocEdit}
use Rattle.record.specs.declared.ProtLocEdit.TheVariants.{Ordinary, NoChange, NoChangeUncertain, NoProtein, NoProteinUncertain, Unknown, InitiationUncertain}
use Rattle.record.specs.declared.Header as DH
use Rattle.record.specs.declared.Body as DB
use Rattle.record.specs.declared.Body.TheVariants as Bo
use Rattle.record.specs.declared.HgvsVariant.{HgvsVariant}
use Rattle.grammar.specs.Header.{HeaderTree, HeaderTree.header, print_accession, print_header, print_kind}
use Rattle.grammar.specs.Positions.{Residual, Residual.residual, PositionTree, print_position}
use Rattle.grammar.specs.Shapes.{Interval.one, Interval.two, Mu, Mu.certain, Mu.uncertain, Both.both}
use Rattle.grammar.specs.NucleotideEdits.{NaEditTree, NaEditTree.equal, NaEditTree.swap, NaEditTree.del_ins, NaEditTree.del_num_ins, NaEditTree.del_num, NaEditTree.del, NaEditTree.ins, NaEditTree.dup, NaEditTree.inv_num, NaEditTree.inv}
use Rattle.grammar.specs.Optional.{print_optional}
use Rattle.grammar.specs.ProteinEdits as P
use Rattle.grammar.specs.ProteinEdits.{ProteinEditTree, Stop, Stop.stop, ExtEnd, ExtEnd.nothing, ExtEnd.later, ExtEnd.earlier, print_terminal}
use Rattle.grammar.specs.Bodies.{Ends, LocationTree, print_ends, print_location, ProteinBody, ProteinBody.met1, ProteinBody.bracketed_met1, ProteinBody.no_protein_uncertain, ProteinBody.no_protein, ProteinBody.no_change_uncertain, ProteinBody.no_change, ProteinBody.unknown, ProteinBody.change, ProteinBody.bracketed, BodyTree}
use Rattle.grammar.specs.Texts.{Text, Text.text}
use Rattle.grammar.specs.Meaning.{number, meaning_cds, meaning_genome, meaning_mt, meaning_tx, meaning_rna, length_of}

-- n bytes from k on
abbrev pub span : ℕ → ℕ → Span
span k n = record { start = k; end = k + n }

-- the span of s, which starts at k
abbrev pub span_of : ℕ → List ℕ → Span
span_of k s = span k (length s)

abbrev pub part_of : ℕ → Option (List ℕ) → Part
part_of k none = None
part_of k (some s) = Some (span_of k s)

-- ---- positions
abbrev pub PositionR : Kind → Type 0
PositionR Cds = CdsPos
PositionR Genome = GenomePos
PositionR Mt = MtPos
PositionR Tx = TxPos
PositionR Prot = ProtPos
PositionR Rna = RnaPos

abbrev pub prot_at : ℕ → Residual → ProtPos
prot_at k (residual r ds) = record { aa = span_of k r; number = number Unsigned ds }

abbrev pub position_at : (kind : Kind) → ℕ → PositionTree kind → PositionR kind
position_at Cds k = meaning_cds
position_at Genome k = meaning_genome
position_at Mt k = meaning_mt
position_at Tx k = meaning_tx
position_at Prot k = prot_at k
position_at Rna k = meaning_rna

abbrev pub IntervalR : Kind → Type 0
IntervalR Cds = CdsInterval
IntervalR Genome = GenomeInterval
IntervalR Mt = MtInterval
IntervalR Tx = TxInterval
IntervalR Prot = ProtInterval
IntervalR Rna = RnaInterval

abbrev pub interval : (kind : Kind) → PositionR kind → PositionR kind → IntervalR kind
interval Cds a b = record { start = a; end = b }
interval Genome a b = record { start = a; end = b }
interval Mt a b = record { start = a; end = b }
interval Tx a b = record { start = a; end = b }
interval Prot a b = record { start = a; end = b }
interval Rna a b = record { start = a; end = b }

abbrev pub interval_at : (kind : Kind) → ℕ → Ends kind → IntervalR kind
interval_at kind k (one p) = interval kind (position_at kind k p) (position_at kind k p)
interval_at kind k (two p q) = interval kind (position_at kind k p) (position_at kind (k + length (print_position kind p) + 1) q)

abbrev pub MuIntervalR : Kind → Type 0
MuIntervalR Cds = MuCdsInterval
MuIntervalR Genome = MuGenomeInterval
MuIntervalR Mt = MuMtInterval
MuIntervalR Tx = MuTxInterval
MuIntervalR Prot = MuProtInterval
MuIntervalR Rna = MuRnaInterval

abbrev pub certainly : (kind : Kind) → IntervalR kind → MuIntervalR kind
certainly Cds = MuCds.Certain
certainly Genome = MuGenome.Certain
certainly Mt = MuMt.Certain
certainly Tx = MuTx.Certain
certainly Prot = MuProt.Certain
certainly Rna = MuRna.Certain

abbrev pub uncertainly : (kind : Kind) → IntervalR kind → MuIntervalR kind
uncertainly Cds = MuCds.Uncertain
uncertainly Genome = MuGenome.Uncertain
uncertainly Mt = MuMt.Uncertain
uncertainly Tx = MuTx.Uncertain
uncertainly Prot = MuProt.Uncertain
uncertainly Rna = MuRna.Uncertain

-- behind `(` where it is uncertain
abbrev pub location_at : (kind : Kind) → ℕ → LocationTree kind → MuIntervalR kind
location_at kind k (certain i) = certainly kind (interval_at kind k i)
location_at kind k (uncertain i) = uncertainly kind (interval_at kind (k + 1) i)

-- ---- nucleotide edits
abbrev pub na_edit_at : ℕ → NaEditTree → D.NaEdit
na_edit_at k (equal seq) = Na.RefAlt (span_of k seq) (span_of k seq)
na_edit_at k (swap a b) = Na.RefAlt (span k 1) (span (k + 2) 1)
na_edit_at k (del_ins seq seq1) = Na.RefAlt (span_of (k + 3) seq) (span_of (k + 3 + length seq + 3) seq1)
na_edit_at k (del_num_ins ds seq1) = Na.NumAlt (number Unsigned ds) (span_of (k + 3 + length ds + 3) seq1)
na_edit_at k (del_num ds) = Na.DelNum (number Unsigned ds)
na_edit_at k (del seq) = Na.DelRef (span_of (k + 3) seq)
na_edit_at k (ins seq1) = Na.Ins (span_of (k + 3) seq1)
na_edit_at k (dup seq) = Na.Dup (span_of (k + 3) seq)
na_edit_at k (inv_num ds) = Na.InvNum (number Unsigned ds)
na_edit_at k (inv seq) = Na.InvRef (span_of (k + 3) seq)

abbrev pub mu_na_edit_at : ℕ → Mu NaEditTree → MuNaEdit
mu_na_edit_at k (certain e) = MuNa.Certain (na_edit_at k e)
mu_na_edit_at k (uncertain e) = MuNa.Uncertain (na_edit_at (k + 1) e)

-- ---- protein edits: of `fs` and `ext`, k is where the word starts
abbrev pub fs_at : Part → ℕ → Option Stop → DP.ProteinEdit
fs_at r k none = Pr.Fs r None NoLength
fs_at r k (some (stop t n)) = Pr.Fs r (Some (span_of (k + 2) (print_terminal t))) (length_of n)

abbrev pub ext_at : Part → ℕ → ExtEnd → DP.ProteinEdit
ext_at r k nothing = Pr.Ext r None NoLength
ext_at r k (later (stop t n)) = Pr.Ext r (Some (span_of (k + 3) (print_terminal t))) (length_of n)
ext_at r k (earlier q ds) = Pr.Ext r (part_of (k + 3) q) (Known (number Negated ds))

abbrev pub protein_edit_at : ℕ → ProteinEditTree → DP.ProteinEdit
protein_edit_at k (P.ProteinEditTree.subst r) = Pr.Subst (span_of k r)
protein_edit_at k P.ProteinEditTree.subst_unknown = Pr.Subst (span k 1)
protein_edit_at k P.ProteinEditTree.equal = Pr.Ident
protein_edit_at k P.ProteinEditTree.del = Pr.Del
protein_edit_at k P.ProteinEditTree.dup = Pr.Dup
protein_edit_at k (P.ProteinEditTree.ins rs) = Pr.Ins (span_of (k + 3) rs)
protein_edit_at k (P.ProteinEditTree.del_ins rs) = Pr.DelIns (span_of (k + 6) rs)
protein_edit_at k (P.ProteinEditTree.fs r e) = fs_at (part_of k r) (k + length (print_optional [] r)) e
protein_edit_at k (P.ProteinEditTree.ext r e) = ext_at (part_of k r) (k + length (print_optional [] r)) e

abbrev pub mu_protein_edit_at : ℕ → Mu ProteinEditTree → MuProteinEdit
mu_protein_edit_at k (certain e) = MuPr.Certain (protein_edit_at k e)
mu_protein_edit_at k (uncertain e) = MuPr.Uncertain (protein_edit_at (k + 1) e)

-- ---- bodies
abbrev pub protein_body_at : ℕ → ProteinBody → ProtLocEdit
protein_body_at k met1 = InitiationUncertain
protein_body_at k bracketed_met1 = InitiationUncertain
protein_body_at k no_protein_uncertain = NoProteinUncertain
protein_body_at k no_protein = NoProtein
protein_body_at k no_change_uncertain = NoChangeUncertain
protein_body_at k no_change = NoChange
protein_body_at k unknown = Unknown
protein_body_at k (change (both l e)) = Ordinary (location_at Prot k l) (mu_protein_edit_at (k + length (print_location Prot l)) e)
protein_body_at k (bracketed (both i e)) =
    Ordinary (uncertainly Prot (interval_at Prot (k + 1) i)) (MuPr.Uncertain (protein_edit_at (k + 1 + length (print_ends Prot i)) e))

abbrev pub body_at : (kind : Kind) → ℕ → BodyTree kind → DB.Body
body_at Cds k (both l e) = Bo.Cds (record { loc = location_at Cds k l; edit = mu_na_edit_at (k + length (print_location Cds l)) e })
body_at Genome k (both l e) = Bo.Genome (record { loc = location_at Genome k l; edit = mu_na_edit_at (k + length (print_location Genome l)) e })
body_at Mt k (both l e) = Bo.Mt (record { loc = location_at Mt k l; edit = mu_na_edit_at (k + length (print_location Mt l)) e })
body_at Tx k (both l e) = Bo.Tx (record { loc = location_at Tx k l; edit = mu_na_edit_at (k + length (print_location Tx l)) e })
body_at Prot k b = Bo.Prot (protein_body_at k b)
body_at Rna k (both l e) = Bo.Rna (record { loc = location_at Rna k l; edit = mu_na_edit_at (k + length (print_location Rna l)) e })

-- ---- the header, and the whole
abbrev pub header_at : ℕ → HeaderTree → DH.Header
header_at k (header a gene) = record { accession = span_of k (print_accession a); gene_symbol = part_of (k + length (print_accession a) + 1) gene }

abbrev pub record_at : ℕ → Text → HgvsVariant
record_at k (text h kind b) = record { header = header_at k h; body = body_at kind (k + length (print_header h) + length (print_kind kind)) b }
