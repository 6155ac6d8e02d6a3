-- A tree with each of its numbers plainly spelled. Two trees that differ in nothing but how their numbers are spelled are the same one then.
use Rattle.std.specs.Prelude.{ℕ, List, cond, eqb}
use Rattle.std.proofs.Math.Option.{Option, none, some}
use Rattle.numerals.specs.declared.Sign.{Sign}
use Rattle.numerals.specs.declared.Sign.TheVariants.{Unsigned, Plus, Minus, Negated}
use Rattle.numerals.specs.Digits.{val, dec}
use Rattle.record.specs.declared.Kind.{Kind}
use Rattle.record.specs.declared.Kind.TheVariants.{Cds, Genome, Mt, Tx, Prot, Rna}
use Rattle.grammar.specs.Positions.{Mark, Mark.bare, Mark.plus, Mark.minus, Mark.star, OffsetTree, OffsetTree.absent, OffsetTree.ahead, OffsetTree.back, Based, Based.based, Genomic, Genomic.known, Genomic.unknown, Residual, Residual.residual, PositionTree}
use Rattle.grammar.specs.Shapes.{Interval.one, Interval.two}
use Rattle.grammar.specs.NucleotideEdits.{NaEditTree, NaEditTree.equal, NaEditTree.swap, NaEditTree.del_ins, NaEditTree.del_num_ins, NaEditTree.del_num, NaEditTree.del, NaEditTree.ins, NaEditTree.dup, NaEditTree.inv_num, NaEditTree.inv}
use Rattle.grammar.specs.ProteinEdits as P
use Rattle.grammar.specs.ProteinEdits.{ProteinEditTree, Length, Length.counted, Length.unsaid, Stop, Stop.stop, ExtEnd, ExtEnd.nothing, ExtEnd.later, ExtEnd.earlier}
use Rattle.grammar.specs.Bodies.{Ends, NaBody, ProteinBody, ProteinBody.met1, ProteinBody.bracketed_met1, ProteinBody.no_protein_uncertain, ProteinBody.no_protein, ProteinBody.no_change_uncertain, ProteinBody.no_change, ProteinBody.unknown, ProteinBody.change, ProteinBody.bracketed, BodyTree}
use Rattle.grammar.specs.Texts.{Text, Text.text}
use Rattle.grammar.specs.Meaning.{map_mu, map_both}

-- ---- a sign and digits
abbrev pub respelled_sign : Sign → List ℕ → Sign
respelled_sign Unsigned ds = Unsigned
respelled_sign Plus ds = Unsigned
respelled_sign Minus ds = cond (eqb (val ds) 0) Unsigned Minus
respelled_sign Negated ds = Negated

abbrev pub respelled_digits : List ℕ → List ℕ
respelled_digits ds = dec (val ds)

-- ---- positions
abbrev pub respelled_mark : Mark → List ℕ → Mark
respelled_mark bare ds = bare
respelled_mark plus ds = bare
respelled_mark minus ds = cond (eqb (val ds) 0) bare minus
respelled_mark star ds = star

abbrev pub respelled_offset : OffsetTree → OffsetTree
respelled_offset absent = absent
respelled_offset (ahead ds) = ahead (respelled_digits ds)
respelled_offset (back ds) = cond (eqb (val ds) 0) (ahead (respelled_digits ds)) (back (respelled_digits ds))

abbrev pub respelled_based : Based → Based
respelled_based (based m ds o) = based (respelled_mark m ds) (respelled_digits ds) (respelled_offset o)

abbrev pub respelled_genomic : Genomic → Genomic
respelled_genomic (known ds) = known (respelled_digits ds)
respelled_genomic unknown = unknown

abbrev pub respelled_residual : Residual → Residual
respelled_residual (residual r ds) = residual r (respelled_digits ds)

abbrev pub respelled_position : (k : Kind) → PositionTree k → PositionTree k
respelled_position Cds = respelled_based
respelled_position Genome = respelled_genomic
respelled_position Mt = respelled_genomic
respelled_position Tx = respelled_based
respelled_position Prot = respelled_residual
respelled_position Rna = respelled_based

abbrev pub respelled_ends : (k : Kind) → Ends k → Ends k
respelled_ends k (one p) = one (respelled_position k p)
respelled_ends k (two p q) = two (respelled_position k p) (respelled_position k q)

-- ---- edits
abbrev pub respelled_na_edit : NaEditTree → NaEditTree
respelled_na_edit (equal seq) = equal seq
respelled_na_edit (swap a b) = swap a b
respelled_na_edit (del_ins seq seq1) = del_ins seq seq1
respelled_na_edit (del_num_ins ds seq1) = del_num_ins (respelled_digits ds) seq1
respelled_na_edit (del_num ds) = del_num (respelled_digits ds)
respelled_na_edit (del seq) = del seq
respelled_na_edit (ins seq1) = ins seq1
respelled_na_edit (dup seq) = dup seq
respelled_na_edit (inv_num ds) = inv_num (respelled_digits ds)
respelled_na_edit (inv seq) = inv seq

abbrev pub respelled_length : Length → Length
respelled_length (counted ds) = counted (respelled_digits ds)
respelled_length P.Length.unknown = P.Length.unknown
respelled_length unsaid = unsaid

abbrev pub respelled_fs : Option Stop → Option Stop
respelled_fs none = none
respelled_fs (some (stop t n)) = some (stop t (respelled_length n))

abbrev pub respelled_ext : ExtEnd → ExtEnd
respelled_ext nothing = nothing
respelled_ext (later (stop t n)) = later (stop t (respelled_length n))
respelled_ext (earlier r ds) = earlier r (respelled_digits ds)

abbrev pub respelled_protein_edit : ProteinEditTree → ProteinEditTree
respelled_protein_edit (P.ProteinEditTree.subst r) = P.ProteinEditTree.subst r
respelled_protein_edit P.ProteinEditTree.subst_unknown = P.ProteinEditTree.subst_unknown
respelled_protein_edit P.ProteinEditTree.equal = P.ProteinEditTree.equal
respelled_protein_edit P.ProteinEditTree.del = P.ProteinEditTree.del
respelled_protein_edit P.ProteinEditTree.dup = P.ProteinEditTree.dup
respelled_protein_edit (P.ProteinEditTree.ins rs) = P.ProteinEditTree.ins rs
respelled_protein_edit (P.ProteinEditTree.del_ins rs) = P.ProteinEditTree.del_ins rs
respelled_protein_edit (P.ProteinEditTree.fs r e) = P.ProteinEditTree.fs r (respelled_fs e)
respelled_protein_edit (P.ProteinEditTree.ext r e) = P.ProteinEditTree.ext r (respelled_ext e)

-- ---- bodies, and the whole; the header's digits are no numbers
abbrev pub respelled_na_body : (k : Kind) → NaBody k → NaBody k
respelled_na_body k = map_both (map_mu (respelled_ends k)) (map_mu respelled_na_edit)

abbrev pub respelled_protein_body : ProteinBody → ProteinBody
respelled_protein_body met1 = met1
respelled_protein_body bracketed_met1 = bracketed_met1
respelled_protein_body no_protein_uncertain = no_protein_uncertain
respelled_protein_body no_protein = no_protein
respelled_protein_body no_change_uncertain = no_change_uncertain
respelled_protein_body no_change = no_change
respelled_protein_body unknown = unknown
respelled_protein_body (change b) = change (map_both (map_mu (respelled_ends Prot)) (map_mu respelled_protein_edit) b)
respelled_protein_body (bracketed b) = bracketed (map_both (respelled_ends Prot) respelled_protein_edit b)

abbrev pub respelled_body : (k : Kind) → BodyTree k → BodyTree k
respelled_body Cds = respelled_na_body Cds
respelled_body Genome = respelled_na_body Genome
respelled_body Mt = respelled_na_body Mt
respelled_body Tx = respelled_na_body Tx
respelled_body Prot = respelled_protein_body
respelled_body Rna = respelled_na_body Rna

abbrev pub respelled : Text → Text
respelled (text h k b) = text h k (respelled_body k b)
