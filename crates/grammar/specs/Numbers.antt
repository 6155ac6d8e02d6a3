-- The numbers of a text from left to right, each with the place of its first digit; the leftmost that does not fit, and the leftmost that is not plainly
-- spelled.
use Rattle.std.specs.Prelude.{ℕ, ◌+◌, ◌≡◌, List, [], ◌∷◌, ◌++◌, Bool, cond, length}
use Rattle.std.proofs.Math.Option.{Option, none, some}
use Rattle.numerals.specs.declared.Sign.{Sign}
use Rattle.numerals.specs.declared.Sign.TheVariants.{Unsigned, Minus, Negated}
use Rattle.numerals.specs.Digits.{val}
use Rattle.numerals.specs.Spelling.{is_plain}
use Rattle.numerals.specs.Reading.{fits}
use Rattle.record.specs.declared.Kind.{Kind}
use Rattle.record.specs.declared.Kind.TheVariants.{Cds, Genome, Mt, Tx, Prot, Rna}
use Rattle.grammar.specs.Header.{print_header, print_kind}
use Rattle.grammar.specs.Positions.{OffsetTree, OffsetTree.absent, OffsetTree.ahead, OffsetTree.back, Based, Based.based, Genomic, Genomic.known, Genomic.unknown, Residual, Residual.residual, PositionTree, print_mark, print_position}
use Rattle.grammar.specs.Shapes.{Interval.one, Interval.two, Mu, Mu.certain, Mu.uncertain, Both.both}
use Rattle.grammar.specs.NucleotideEdits.{NaEditTree, NaEditTree.equal, NaEditTree.swap, NaEditTree.del_ins, NaEditTree.del_num_ins, NaEditTree.del_num, NaEditTree.del, NaEditTree.ins, NaEditTree.dup, NaEditTree.inv_num, NaEditTree.inv}
use Rattle.grammar.specs.Optional.{print_optional}
use Rattle.grammar.specs.ProteinEdits as P
use Rattle.grammar.specs.ProteinEdits.{ProteinEditTree, Length, Length.counted, Length.unsaid, Stop, Stop.stop, ExtEnd, ExtEnd.nothing, ExtEnd.later, ExtEnd.earlier, print_terminal}
use Rattle.grammar.specs.Bodies.{Ends, print_ends, print_location, NaBody, ProteinBody, ProteinBody.met1, ProteinBody.bracketed_met1, ProteinBody.no_protein_uncertain, ProteinBody.no_protein, ProteinBody.no_change_uncertain, ProteinBody.no_change, ProteinBody.unknown, ProteinBody.change, ProteinBody.bracketed, BodyTree}
use Rattle.grammar.specs.Texts.{Text, Text.text}
use Rattle.grammar.specs.Meaning.{sign_of}

-- digits at a place, and with which sign they are read
pub data Numeral : Type 0 where
  numeral : (place : ℕ) → Sign → List ℕ → Numeral

-- the place of the leftmost number that fails a test
abbrev pub leftmost_failing : (Sign → List ℕ → Bool) → List Numeral → Option ℕ
leftmost_failing test [] = none
leftmost_failing test (numeral place sign ds ∷ ns) = cond (test sign ds) (leftmost_failing test ns) (some place)

-- that does not fit
abbrev pub misfit : List Numeral → Option ℕ
misfit = leftmost_failing (λ sign ds. fits sign (val ds))

-- that is not plainly spelled
abbrev pub not_plain : List Numeral → Option ℕ
not_plain = leftmost_failing is_plain

-- what is asked of the numbers of a text that is accepted: each fits
unfoldable pub Faultless : List Numeral → Type 0
Faultless ns = misfit ns ≡ none

-- ---- positions
abbrev pub offset_numbers : ℕ → OffsetTree → List Numeral
offset_numbers k absent = []
offset_numbers k (ahead ds) = numeral (k + 1) Unsigned ds ∷ []
offset_numbers k (back ds) = numeral (k + 1) Minus ds ∷ []

abbrev pub based_numbers : ℕ → Based → List Numeral
based_numbers k (based m ds o) = numeral (k + length (print_mark m)) (sign_of m) ds ∷ offset_numbers (k + length (print_mark m) + length ds) o

abbrev pub genomic_numbers : ℕ → Genomic → List Numeral
genomic_numbers k (known ds) = numeral k Unsigned ds ∷ []
genomic_numbers k unknown = []

abbrev pub residual_numbers : ℕ → Residual → List Numeral
residual_numbers k (residual r ds) = numeral (k + length r) Unsigned ds ∷ []

abbrev pub position_numbers : (kind : Kind) → ℕ → PositionTree kind → List Numeral
position_numbers Cds = based_numbers
position_numbers Genome = genomic_numbers
position_numbers Mt = genomic_numbers
position_numbers Tx = based_numbers
position_numbers Prot = residual_numbers
position_numbers Rna = based_numbers

abbrev pub ends_numbers : (kind : Kind) → ℕ → Ends kind → List Numeral
ends_numbers kind k (one p) = position_numbers kind k p
ends_numbers kind k (two p q) = position_numbers kind k p ++ position_numbers kind (k + length (print_position kind p) + 1) q

-- behind `(` where it is uncertain
abbrev pub mu_numbers : {A : Type 0} → (ℕ → A → List Numeral) → ℕ → Mu A → List Numeral
mu_numbers numbers k (certain a) = numbers k a
mu_numbers numbers k (uncertain a) = numbers (k + 1) a

-- ---- nucleotide edits
abbrev pub na_edit_numbers : ℕ → NaEditTree → List Numeral
na_edit_numbers k (equal seq) = []
na_edit_numbers k (swap a b) = []
na_edit_numbers k (del_ins seq seq1) = []
na_edit_numbers k (del_num_ins ds seq1) = numeral (k + 3) Unsigned ds ∷ []
na_edit_numbers k (del_num ds) = numeral (k + 3) Unsigned ds ∷ []
na_edit_numbers k (del seq) = []
na_edit_numbers k (ins seq1) = []
na_edit_numbers k (dup seq) = []
na_edit_numbers k (inv_num ds) = numeral (k + 3) Unsigned ds ∷ []
na_edit_numbers k (inv seq) = []

-- ---- protein edits
abbrev pub length_numbers : ℕ → Length → List Numeral
length_numbers k (counted ds) = numeral k Unsigned ds ∷ []
length_numbers k P.Length.unknown = []
length_numbers k unsaid = []

abbrev pub stop_numbers : ℕ → Stop → List Numeral
stop_numbers k (stop t n) = length_numbers (k + length (print_terminal t)) n

abbrev pub fs_numbers : ℕ → Option Stop → List Numeral
fs_numbers k none = []
fs_numbers k (some e) = stop_numbers k e

abbrev pub ext_numbers : ℕ → ExtEnd → List Numeral
ext_numbers k nothing = []
ext_numbers k (later e) = stop_numbers k e
ext_numbers k (earlier r ds) = numeral (k + length (print_optional [] r) + 1) Negated ds ∷ []

abbrev pub protein_edit_numbers : ℕ → ProteinEditTree → List Numeral
protein_edit_numbers k (P.ProteinEditTree.subst r) = []
protein_edit_numbers k P.ProteinEditTree.subst_unknown = []
protein_edit_numbers k P.ProteinEditTree.equal = []
protein_edit_numbers k P.ProteinEditTree.del = []
protein_edit_numbers k P.ProteinEditTree.dup = []
protein_edit_numbers k (P.ProteinEditTree.ins rs) = []
protein_edit_numbers k (P.ProteinEditTree.del_ins rs) = []
protein_edit_numbers k (P.ProteinEditTree.fs r e) = fs_numbers (k + length (print_optional [] r) + 2) e
protein_edit_numbers k (P.ProteinEditTree.ext r e) = ext_numbers (k + length (print_optional [] r) + 3) e

-- ---- bodies, and the whole; the header's digits are no numbers
abbrev pub na_body_numbers : (kind : Kind) → ℕ → NaBody kind → List Numeral
na_body_numbers kind k (both l e) = mu_numbers (ends_numbers kind) k l ++ mu_numbers na_edit_numbers (k + length (print_location kind l)) e

abbrev pub protein_body_numbers : ℕ → ProteinBody → List Numeral
protein_body_numbers k met1 = []
protein_body_numbers k bracketed_met1 = []
protein_body_numbers k no_protein_uncertain = []
protein_body_numbers k no_protein = []
protein_body_numbers k no_change_uncertain = []
protein_body_numbers k no_change = []
protein_body_numbers k unknown = []
protein_body_numbers k (change (both l e)) = mu_numbers (ends_numbers Prot) k l ++ mu_numbers protein_edit_numbers (k + length (print_location Prot l)) e
protein_body_numbers k (bracketed (both i e)) = ends_numbers Prot (k + 1) i ++ protein_edit_numbers (k + 1 + length (print_ends Prot i)) e

abbrev pub body_numbers : (kind : Kind) → ℕ → BodyTree kind → List Numeral
body_numbers Cds = na_body_numbers Cds
body_numbers Genome = na_body_numbers Genome
body_numbers Mt = na_body_numbers Mt
body_numbers Tx = na_body_numbers Tx
body_numbers Prot = protein_body_numbers
body_numbers Rna = na_body_numbers Rna

abbrev pub numbers_at : ℕ → Text → List Numeral
numbers_at k (text h kind b) = body_numbers kind (k + length (print_header h) + length (print_kind kind)) b

abbrev pub FaultlessText : Text → Type 0
FaultlessText x = Faultless (numbers_at 0 x)
