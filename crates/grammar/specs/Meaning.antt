-- What each tree means.
use Rattle.std.specs.Prelude.{ℕ, List, [], ◌∷◌, ℤ, None, Some}
use Rattle.std.proofs.Math.Option.{Option, none, some}
use Rattle.texts.specs.Ascii.{ascii}
use Rattle.numerals.specs.declared.Sign.{Sign}
use Rattle.numerals.specs.declared.Sign.TheVariants.{Unsigned, Plus, Minus, Negated}
use Rattle.numerals.specs.Digits.{val}
use Rattle.numerals.specs.Reading.{or_zero}
use Rattle.record.specs.declared.Kind.{Kind}
use Rattle.record.specs.declared.Kind.TheVariants.{Cds, Genome, Mt, Tx, Prot, Rna}
use Rattle.record.specs.Named as Declared
use Rattle.record.specs.declared.CdsFrom.{CdsFrom}
use Rattle.record.specs.declared.CdsFrom.TheVariants.{Start, End}
use Rattle.record.specs.declared.CdsPos.{CdsPos}
use Rattle.record.specs.Named.{GenomePos, MtPos, TxPos, RnaPos}
use Rattle.record.specs.declared.UncertainLengthChange.{UncertainLengthChange}
use Rattle.record.specs.declared.UncertainLengthChange.TheVariants.{None as NoLength, Unknown, Known}
use Rattle.grammar.specs.Header.{HeaderTree, HeaderTree.header, print_accession}
use Rattle.grammar.specs.Positions.{Mark, Mark.bare, Mark.plus, Mark.minus, Mark.star, OffsetTree, OffsetTree.absent, OffsetTree.ahead, OffsetTree.back, Based, Based.based, Genomic, Genomic.known, Genomic.unknown, Residual, Residual.residual, PositionTree}
use Rattle.grammar.specs.Shapes.{Interval, Interval.one, Interval.two, Mu, Mu.certain, Mu.uncertain, Both, Both.both}
use Rattle.grammar.specs.NucleotideEdits.{NaEditTree, NaEditTree.equal, NaEditTree.swap, NaEditTree.del_ins, NaEditTree.del_num_ins, NaEditTree.del_num, NaEditTree.del, NaEditTree.ins, NaEditTree.dup, NaEditTree.inv_num, NaEditTree.inv}
use Rattle.grammar.specs.ProteinEdits as P
use Rattle.grammar.specs.ProteinEdits.{ProteinEditTree, Length, Length.counted, Length.unsaid, Stop, Stop.stop, ExtEnd, ExtEnd.nothing, ExtEnd.later, ExtEnd.earlier, print_terminal}
use Rattle.grammar.specs.Bodies.{Ends, NaBody, ProteinBody, ProteinBody.met1, ProteinBody.bracketed_met1, ProteinBody.no_protein_uncertain, ProteinBody.no_protein, ProteinBody.no_change_uncertain, ProteinBody.no_change, ProteinBody.change, ProteinBody.bracketed, BodyTree}
use Rattle.grammar.specs.Bodies as B
use Rattle.grammar.specs.Texts.{Text, Text.text}
use Rattle.grammar.specs.Values.{ProtPosV, ProtPosV.prot_pos_v, PositionV, EndsV, NaEditV, NaEditV.ref_alt, NaEditV.num_alt, NaEditV.del_ref, NaEditV.del_num, NaEditV.ins_v, NaEditV.dup_v, NaEditV.inv_ref, NaEditV.inv_num, ProteinEditV, ProteinEditV.fs_v, ProteinEditV.ext_v, ProteinEditV.subst_v, ProteinEditV.del_ins_v, ProteinEditV.ins_pv, ProteinEditV.del_v, ProteinEditV.dup_pv, ProteinEditV.ident_v, NaBodyV, ProteinBodyV, ProteinBodyV.ordinary, ProteinBodyV.no_change_v, ProteinBodyV.no_change_uncertain_v, ProteinBodyV.no_protein_v, ProteinBodyV.no_protein_uncertain_v, ProteinBodyV.unknown_v, ProteinBodyV.initiation_uncertain, BodyV, HeaderV, HeaderV.header_v, Value, Value.value}

-- the number that digits write with a sign; where it does not fit, which no record has, 0 stands for it
abbrev pub number : Sign → List ℕ → ℤ
number sign ds = or_zero sign (val ds)

-- ---- positions
abbrev pub sign_of : Mark → Sign
sign_of bare = Unsigned
sign_of plus = Plus
sign_of minus = Minus
sign_of star = Unsigned

abbrev pub from_of : Mark → CdsFrom
from_of bare = Start
from_of plus = Start
from_of minus = Start
from_of star = End

-- `+0` is an offset of 0, which differs from no offset
abbrev pub offset_of : OffsetTree → Declared.Offset
offset_of absent = None
offset_of (ahead ds) = Some (number Unsigned ds)
offset_of (back ds) = Some (number Minus ds)

abbrev pub meaning_cds : Based → CdsPos
meaning_cds (based m ds o) = record { base = number (sign_of m) ds; offset = offset_of o; cds_from = from_of m }

abbrev pub meaning_tx : Based → TxPos
meaning_tx (based m ds o) = record { base = number (sign_of m) ds; offset = offset_of o }

abbrev pub meaning_rna : Based → RnaPos
meaning_rna (based m ds o) = record { base = number (sign_of m) ds; offset = offset_of o }

abbrev pub meaning_genome : Genomic → GenomePos
meaning_genome (known ds) = Some (number Unsigned ds)
meaning_genome unknown = None

abbrev pub meaning_mt : Genomic → MtPos
meaning_mt (known ds) = Some (number Unsigned ds)
meaning_mt unknown = None

abbrev pub meaning_prot : Residual → ProtPosV
meaning_prot (residual r ds) = prot_pos_v r (number Unsigned ds)

abbrev pub meaning_position : (k : Kind) → PositionTree k → PositionV k
meaning_position Cds = meaning_cds
meaning_position Genome = meaning_genome
meaning_position Mt = meaning_mt
meaning_position Tx = meaning_tx
meaning_position Prot = meaning_prot
meaning_position Rna = meaning_rna

-- one position p reads as the pair p, p
abbrev pub meaning_interval : {A C : Type 0} → (A → C) → Interval A → Both C C
meaning_interval m (one a) = both (m a) (m a)
meaning_interval m (two a b) = both (m a) (m b)

abbrev pub map_mu : {A C : Type 0} → (A → C) → Mu A → Mu C
map_mu m (certain a) = certain (m a)
map_mu m (uncertain a) = uncertain (m a)

abbrev pub map_both : {A B C D : Type 0} → (A → C) → (B → D) → Both A B → Both C D
map_both m n (both a b) = both (m a) (n b)

abbrev pub meaning_ends : (k : Kind) → Ends k → EndsV k
meaning_ends k = meaning_interval (meaning_position k)

-- ---- nucleotide edits
abbrev pub meaning_na_edit : NaEditTree → NaEditV
meaning_na_edit (equal seq) = ref_alt seq seq
meaning_na_edit (swap a b) = ref_alt (a ∷ []) (b ∷ [])
meaning_na_edit (del_ins seq seq1) = ref_alt seq seq1
meaning_na_edit (del_num_ins ds seq1) = num_alt (number Unsigned ds) seq1
meaning_na_edit (del_num ds) = del_num (number Unsigned ds)
meaning_na_edit (del seq) = del_ref seq
meaning_na_edit (ins seq1) = ins_v seq1
meaning_na_edit (dup seq) = dup_v seq
meaning_na_edit (inv_num ds) = inv_num (number Unsigned ds)
meaning_na_edit (inv seq) = inv_ref seq

abbrev pub meaning_na_body : (k : Kind) → NaBody k → NaBodyV k
meaning_na_body k = map_both (map_mu (meaning_ends k)) (map_mu meaning_na_edit)

-- ---- protein edits
abbrev pub length_of : Length → UncertainLengthChange
length_of (counted ds) = Known (number Unsigned ds)
length_of P.Length.unknown = Unknown
length_of unsaid = NoLength

abbrev pub meaning_fs : Option (List ℕ) → Option Stop → ProteinEditV
meaning_fs r none = fs_v r none NoLength
meaning_fs r (some (stop t n)) = fs_v r (some (print_terminal t)) (length_of n)

-- after `-` the change is the negative of the digits' number
abbrev pub meaning_ext : Option (List ℕ) → ExtEnd → ProteinEditV
meaning_ext r nothing = ext_v r none NoLength
meaning_ext r (later (stop t n)) = ext_v r (some (print_terminal t)) (length_of n)
meaning_ext r (earlier q ds) = ext_v r q (Known (number Negated ds))

abbrev pub meaning_protein_edit : ProteinEditTree → ProteinEditV
meaning_protein_edit (P.ProteinEditTree.subst r) = subst_v r
meaning_protein_edit P.ProteinEditTree.subst_unknown = subst_v (ascii "?")
meaning_protein_edit P.ProteinEditTree.equal = ident_v
meaning_protein_edit P.ProteinEditTree.del = del_v
meaning_protein_edit P.ProteinEditTree.dup = dup_pv
meaning_protein_edit (P.ProteinEditTree.ins rs) = ins_pv rs
meaning_protein_edit (P.ProteinEditTree.del_ins rs) = del_ins_v rs
meaning_protein_edit (P.ProteinEditTree.fs r e) = meaning_fs r e
meaning_protein_edit (P.ProteinEditTree.ext r e) = meaning_ext r e

abbrev pub both_uncertain : {A B : Type 0} → Both A B → Both (Mu A) (Mu B)
both_uncertain (both a b) = both (uncertain a) (uncertain b)

-- `(`location edit`)` gives both uncertain, as `(`location`)(`edit`)` does
abbrev pub meaning_protein_body : ProteinBody → ProteinBodyV
meaning_protein_body met1 = initiation_uncertain
meaning_protein_body bracketed_met1 = initiation_uncertain
meaning_protein_body no_protein_uncertain = no_protein_uncertain_v
meaning_protein_body no_protein = no_protein_v
meaning_protein_body no_change_uncertain = no_change_uncertain_v
meaning_protein_body no_change = no_change_v
meaning_protein_body B.ProteinBody.unknown = unknown_v
meaning_protein_body (change b) = ordinary (map_both (map_mu (meaning_ends Prot)) (map_mu meaning_protein_edit) b)
meaning_protein_body (bracketed b) = ordinary (both_uncertain (map_both (meaning_ends Prot) meaning_protein_edit b))

abbrev pub meaning_body : (k : Kind) → BodyTree k → BodyV k
meaning_body Cds = meaning_na_body Cds
meaning_body Genome = meaning_na_body Genome
meaning_body Mt = meaning_na_body Mt
meaning_body Tx = meaning_na_body Tx
meaning_body Prot = meaning_protein_body
meaning_body Rna = meaning_na_body Rna

-- ---- the header, and the whole
abbrev pub meaning_header : HeaderTree → HeaderV
meaning_header (header a gene) = header_v (print_accession a) gene

abbrev pub meaning : Text → Value
meaning (text h k b) = value (meaning_header h) k (meaning_body k b)
