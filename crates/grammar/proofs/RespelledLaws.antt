-- Plainly spelled, a tree means what it meant; its numbers fit where they did, and all of them are plain.
use Rattle.std.specs.Prelude.{ℕ, ◌+◌, ◌≡◌, List, ◌++◌, Bool, not, cond, eqb, Some}
use Rattle.std.proofs.Math.Path.{refl}
use Rattle.std.proofs.Common.{sym, ap, ◌∙◌, eqb-true}
use Rattle.std.proofs.Math.Option.{none, some}
use Rattle.std.proofs.Math.Bool.{true, false}
use Rattle.std.proofs.Math.ListN.{length}
use Rattle.numerals.specs.declared.Sign.{Sign}
use Rattle.numerals.specs.declared.Sign.TheVariants.{Unsigned, Plus, Minus, Negated}
use Rattle.numerals.specs.Digits.{val}
use Rattle.numerals.proofs.Decimals.{dec_value}
use Rattle.numerals.specs.Spelling.{is_plain}
use Rattle.numerals.specs.Reading.{fits, or_zero}
use Rattle.numerals.proofs.Plain.{dec_plain}
use Rattle.record.specs.declared.Kind.{Kind}
use Rattle.record.specs.declared.Kind.TheVariants.{Cds, Genome, Mt, Tx, Prot, Rna}
use Rattle.grammar.specs.Positions.{Mark, Mark.bare, Mark.plus, Mark.minus, Mark.star, OffsetTree, OffsetTree.absent, OffsetTree.ahead, OffsetTree.back, Based, Based.based, Genomic.known, Genomic.unknown, Residual.residual, PositionTree, print_mark, print_position}
use Rattle.grammar.specs.Shapes.{Interval.one, Interval.two, Mu, Mu.certain, Mu.uncertain, Both.both}
use Rattle.grammar.specs.NucleotideEdits.{NaEditTree, NaEditTree.equal, NaEditTree.swap, NaEditTree.del_ins, NaEditTree.del_num_ins, NaEditTree.del_num, NaEditTree.del, NaEditTree.ins, NaEditTree.dup, NaEditTree.inv_num, NaEditTree.inv}
use Rattle.grammar.specs.ProteinEdits as P
use Rattle.grammar.specs.ProteinEdits.{ProteinEditTree, Length, Length.counted, Length.unsaid, Stop.stop, ExtEnd.nothing, ExtEnd.later, ExtEnd.earlier}
use Rattle.grammar.specs.Bodies.{Ends, LocationTree, print_ends, print_location, NaBody, ProteinBody, ProteinBody.met1, ProteinBody.bracketed_met1, ProteinBody.no_protein_uncertain, ProteinBody.no_protein, ProteinBody.no_change_uncertain, ProteinBody.no_change, ProteinBody.unknown, ProteinBody.change, ProteinBody.bracketed, BodyTree}
use Rattle.grammar.specs.Texts.{Text, Text.text}
use Rattle.grammar.specs.Meaning.{number, sign_of, from_of, offset_of, meaning_position, meaning_ends, map_mu, meaning_na_edit, meaning_na_body, length_of, meaning_protein_edit, meaning_protein_body, meaning_body, meaning}
use Rattle.grammar.specs.Numbers.{Numeral, offset_numbers, based_numbers, position_numbers, ends_numbers, mu_numbers, na_edit_numbers, length_numbers, protein_edit_numbers, na_body_numbers, protein_body_numbers, body_numbers, numbers_at}
use Rattle.grammar.specs.NumberLaws.{every_number, is_faultless, all_plain}
use Rattle.grammar.proofs.NumberLaws.{every_append, every_same, every_so}
use Rattle.grammar.specs.Respelled.{respelled_sign, respelled_digits, respelled_mark, respelled_offset, respelled_based, respelled_position, respelled_ends, respelled_na_edit, respelled_length, respelled_protein_edit, respelled_na_body, respelled_protein_body, respelled_body, respelled}

-- ---- a sign and digits
number_same : (sign : Sign) (ds : List ℕ) → number (respelled_sign sign ds) (respelled_digits ds) ≡ number sign ds
unfolding or_zero
number_same Unsigned ds = rw (dec_value (val ds))
number_same Plus ds = rw (dec_value (val ds))
number_same Minus ds = rw (dec_value (val ds)) (go (eqb (val ds) 0) refl)
  where
    go : (t : Bool) → eqb (val ds) 0 ≡ t → or_zero (cond t Unsigned Minus) (val ds) ≡ or_zero Minus (val ds)
    go true e = rw (eqb-true (val ds) 0 e)
    go false e = refl
number_same Negated ds = rw (dec_value (val ds))

fits_same : (sign : Sign) (ds : List ℕ) → fits (respelled_sign sign ds) (val (respelled_digits ds)) ≡ fits sign (val ds)
fits_same Unsigned ds = rw (dec_value (val ds))
fits_same Plus ds = rw (dec_value (val ds))
fits_same Minus ds = rw (dec_value (val ds)) (go (eqb (val ds) 0) refl)
  where
    go : (t : Bool) → eqb (val ds) 0 ≡ t → fits (cond t Unsigned Minus) (val ds) ≡ fits Minus (val ds)
    go true e = rw (eqb-true (val ds) 0 e)
    go false e = refl
fits_same Negated ds = rw (dec_value (val ds))

now_plain : (sign : Sign) (ds : List ℕ) → is_plain (respelled_sign sign ds) (respelled_digits ds) ≡ true
now_plain Unsigned ds = dec_plain Unsigned (val ds) refl
now_plain Plus ds = dec_plain Unsigned (val ds) refl
now_plain Minus ds = go (eqb (val ds) 0) refl
  where
    go : (t : Bool) → eqb (val ds) 0 ≡ t → is_plain (cond t Unsigned Minus) (respelled_digits ds) ≡ true
    go true e = dec_plain Unsigned (val ds) refl
    go false e = dec_plain Minus (val ds) (ap not e)
now_plain Negated ds = dec_plain Negated (val ds) refl

sign_of_lem : (m : Mark) (ds : List ℕ) → sign_of (respelled_mark m ds) ≡ respelled_sign (sign_of m) ds
sign_of_lem bare ds = refl
sign_of_lem plus ds = refl
sign_of_lem minus ds = go (eqb (val ds) 0)
  where
    go : (t : Bool) → sign_of (cond t bare minus) ≡ cond t Unsigned Minus
    go true = refl
    go false = refl
sign_of_lem star ds = refl

-- ---- what it means
from_same : (m : Mark) (ds : List ℕ) → from_of (respelled_mark m ds) ≡ from_of m
from_same bare ds = refl
from_same plus ds = refl
from_same minus ds = go (eqb (val ds) 0)
  where
    go : (t : Bool) → from_of (cond t bare minus) ≡ from_of minus
    go true = refl
    go false = refl
from_same star ds = refl

offset_same : (o : OffsetTree) → offset_of (respelled_offset o) ≡ offset_of o
offset_same absent = refl
offset_same (ahead ds) = rw (number_same Unsigned ds)
offset_same (back ds) = rw (← number_same Minus ds) (go (eqb (val ds) 0))
  where
    go : (t : Bool) → offset_of (cond t (ahead (respelled_digits ds)) (back (respelled_digits ds))) ≡ Some (number (cond t Unsigned Minus) (respelled_digits ds))
    go true = refl
    go false = refl

base_same : (m : Mark) (ds : List ℕ) → number (sign_of (respelled_mark m ds)) (respelled_digits ds) ≡ number (sign_of m) ds
base_same m ds = rw (sign_of_lem m ds) (number_same (sign_of m) ds)

position_same : (k : Kind) (p : PositionTree k) → meaning_position k (respelled_position k p) ≡ meaning_position k p
position_same Cds (based m ds o) = rw (base_same m ds, from_same m ds, offset_same o)
position_same Genome (known ds) = rw (number_same Unsigned ds)
position_same Genome unknown = refl
position_same Mt (known ds) = rw (number_same Unsigned ds)
position_same Mt unknown = refl
position_same Tx (based m ds o) = rw (base_same m ds, offset_same o)
position_same Prot (residual r ds) = rw (number_same Unsigned ds)
position_same Rna (based m ds o) = rw (base_same m ds, offset_same o)

ends_same : (k : Kind) (i : Ends k) → meaning_ends k (respelled_ends k i) ≡ meaning_ends k i
ends_same k (one p) = rw (position_same k p)
ends_same k (two p q) = rw (position_same k p, position_same k q)

na_edit_same : (e : NaEditTree) → meaning_na_edit (respelled_na_edit e) ≡ meaning_na_edit e
na_edit_same (equal seq) = refl
na_edit_same (swap a b) = refl
na_edit_same (del_ins seq seq1) = refl
na_edit_same (del_num_ins ds seq1) = rw (number_same Unsigned ds)
na_edit_same (del_num ds) = rw (number_same Unsigned ds)
na_edit_same (del seq) = refl
na_edit_same (ins seq1) = refl
na_edit_same (dup seq) = refl
na_edit_same (inv_num ds) = rw (number_same Unsigned ds)
na_edit_same (inv seq) = refl

length_same : (n : Length) → length_of (respelled_length n) ≡ length_of n
length_same (counted ds) = rw (number_same Unsigned ds)
length_same P.Length.unknown = refl
length_same unsaid = refl

protein_edit_same : (e : ProteinEditTree) → meaning_protein_edit (respelled_protein_edit e) ≡ meaning_protein_edit e
protein_edit_same (P.ProteinEditTree.subst r) = refl
protein_edit_same P.ProteinEditTree.subst_unknown = refl
protein_edit_same P.ProteinEditTree.equal = refl
protein_edit_same P.ProteinEditTree.del = refl
protein_edit_same P.ProteinEditTree.dup = refl
protein_edit_same (P.ProteinEditTree.ins rs) = refl
protein_edit_same (P.ProteinEditTree.del_ins rs) = refl
protein_edit_same (P.ProteinEditTree.fs r none) = refl
protein_edit_same (P.ProteinEditTree.fs r (some (stop t n))) = rw (length_same n)
protein_edit_same (P.ProteinEditTree.ext r nothing) = refl
protein_edit_same (P.ProteinEditTree.ext r (later (stop t n))) = rw (length_same n)
protein_edit_same (P.ProteinEditTree.ext r (earlier q ds)) = rw (number_same Negated ds)

module _ {A C : Type 0} (means : A → C) (spell : A → A) (same : (a : A) → means (spell a) ≡ means a) where
  mu_same : (m : Mu A) → map_mu means (map_mu spell m) ≡ map_mu means m
  mu_same (certain a) = ap certain (same a)
  mu_same (uncertain a) = ap uncertain (same a)

na_body_same : (k : Kind) (b : NaBody k) → meaning_na_body k (respelled_na_body k b) ≡ meaning_na_body k b
na_body_same k (both l e) = rw (mu_same (meaning_ends k) (respelled_ends k) (ends_same k) l, mu_same meaning_na_edit respelled_na_edit na_edit_same e)

protein_body_same : (b : ProteinBody) → meaning_protein_body (respelled_protein_body b) ≡ meaning_protein_body b
protein_body_same met1 = refl
protein_body_same bracketed_met1 = refl
protein_body_same no_protein_uncertain = refl
protein_body_same no_protein = refl
protein_body_same no_change_uncertain = refl
protein_body_same no_change = refl
protein_body_same unknown = refl
protein_body_same (change (both l e)) = rw (mu_same (meaning_ends Prot) (respelled_ends Prot) (ends_same Prot) l, mu_same meaning_protein_edit respelled_protein_edit protein_edit_same e)
protein_body_same (bracketed (both i e)) = rw (ends_same Prot i, protein_edit_same e)

body_same : (k : Kind) (b : BodyTree k) → meaning_body k (respelled_body k b) ≡ meaning_body k b
body_same Cds = na_body_same Cds
body_same Genome = na_body_same Genome
body_same Mt = na_body_same Mt
body_same Tx = na_body_same Tx
body_same Prot = protein_body_same
body_same Rna = na_body_same Rna

pub meaning_same : (x : Text) → meaning (respelled x) ≡ meaning x
meaning_same (text h k b) = rw (body_same k b)

-- ---- its numbers: what a test says of them, wherever the tree stands
module _ (test : Sign → List ℕ → Bool) where
  -- of a number once it is plainly spelled
  abbrev test_then : Sign → List ℕ → Bool
  test_then sign ds = test (respelled_sign sign ds) (respelled_digits ds)

  abbrev Tested : List Numeral → List Numeral → Type 0
  Tested ms ns = every_number test ms ≡ every_number test_then ns

  tested_append : (ms ns os ps : List Numeral) → Tested ms os → Tested ns ps → Tested (ms ++ ns) (os ++ ps)
  tested_append ms ns os ps p q = every_append test ms ns ∙ rw (p, q) (sym (every_append test_then os ps))

  offset_tested : (j k : ℕ) (o : OffsetTree) → Tested (offset_numbers j (respelled_offset o)) (offset_numbers k o)
  unfolding every_number
  offset_tested j k absent = refl
  offset_tested j k (ahead ds) = refl
  offset_tested j k (back ds) = go (eqb (val ds) 0)
    where
      go : (t : Bool) → every_number test (offset_numbers j (cond t (ahead (respelled_digits ds)) (back (respelled_digits ds)))) ≡ every_number (λ sign es. test (cond t Unsigned Minus) (respelled_digits es)) (offset_numbers k (back ds))
      go true = refl
      go false = refl

  based_tested : (j k : ℕ) (p : Based) → Tested (based_numbers j (respelled_based p)) (based_numbers k p)
  unfolding every_number
  based_tested j k (based m ds o) = rw (sign_of_lem m ds, offset_tested _ (k + length (print_mark m) + length ds) o)

  position_tested : (kind : Kind) (j k : ℕ) (p : PositionTree kind) → Tested (position_numbers kind j (respelled_position kind p)) (position_numbers kind k p)
  unfolding every_number
  position_tested Cds j k p = based_tested j k p
  position_tested Genome j k (known ds) = refl
  position_tested Genome j k unknown = refl
  position_tested Mt j k (known ds) = refl
  position_tested Mt j k unknown = refl
  position_tested Tx j k p = based_tested j k p
  position_tested Prot j k (residual r ds) = refl
  position_tested Rna j k p = based_tested j k p

  ends_tested : (kind : Kind) (j k : ℕ) (i : Ends kind) → Tested (ends_numbers kind j (respelled_ends kind i)) (ends_numbers kind k i)
  ends_tested kind j k (one p) = position_tested kind j k p
  ends_tested kind j k (two p q) =
      let i = j + length (print_position kind (respelled_position kind p)) + 1 in
      let m = k + length (print_position kind p) + 1 in
      tested_append (position_numbers kind j (respelled_position kind p)) (position_numbers kind i (respelled_position kind q)) (position_numbers kind k p) (position_numbers kind m q) (position_tested kind j k p) (position_tested kind i m q)

  mu_tested : {A : Type 0} (numbers : ℕ → A → List Numeral) (spell : A → A) → ((j k : ℕ) (a : A) → Tested (numbers j (spell a)) (numbers k a))
      → (j k : ℕ) (m : Mu A) → Tested (mu_numbers numbers j (map_mu spell m)) (mu_numbers numbers k m)
  mu_tested numbers spell within j k (certain a) = within j k a
  mu_tested numbers spell within j k (uncertain a) = within (j + 1) (k + 1) a

  -- a location, and an edit behind it
  parts_tested : {A : Type 0} (kind : Kind) (numbers : ℕ → A → List Numeral) (spell : A → A) → ((j k : ℕ) (a : A) → Tested (numbers j (spell a)) (numbers k a))
      → (j k : ℕ) (l : LocationTree kind) (e : Mu A)
      → Tested (mu_numbers (ends_numbers kind) j (map_mu (respelled_ends kind) l) ++ mu_numbers numbers (j + length (print_location kind (map_mu (respelled_ends kind) l))) (map_mu spell e)) (mu_numbers (ends_numbers kind) k l ++ mu_numbers numbers (k + length (print_location kind l)) e)
  parts_tested kind numbers spell within j k l e =
      let i = j + length (print_location kind (map_mu (respelled_ends kind) l)) in
      let m = k + length (print_location kind l) in
      tested_append (mu_numbers (ends_numbers kind) j (map_mu (respelled_ends kind) l)) (mu_numbers numbers i (map_mu spell e)) (mu_numbers (ends_numbers kind) k l) (mu_numbers numbers m e)
      (mu_tested (ends_numbers kind) (respelled_ends kind) (ends_tested kind) j k l)
      (mu_tested numbers spell within i m e)

  na_edit_tested : (j k : ℕ) (e : NaEditTree) → Tested (na_edit_numbers j (respelled_na_edit e)) (na_edit_numbers k e)
  unfolding every_number
  na_edit_tested j k (equal seq) = refl
  na_edit_tested j k (swap a b) = refl
  na_edit_tested j k (del_ins seq seq1) = refl
  na_edit_tested j k (del_num_ins ds seq1) = refl
  na_edit_tested j k (del_num ds) = refl
  na_edit_tested j k (del seq) = refl
  na_edit_tested j k (ins seq1) = refl
  na_edit_tested j k (dup seq) = refl
  na_edit_tested j k (inv_num ds) = refl
  na_edit_tested j k (inv seq) = refl

  length_tested : (j k : ℕ) (n : Length) → Tested (length_numbers j (respelled_length n)) (length_numbers k n)
  unfolding every_number
  length_tested j k (counted ds) = refl
  length_tested j k P.Length.unknown = refl
  length_tested j k unsaid = refl

  protein_edit_tested : (j k : ℕ) (e : ProteinEditTree) → Tested (protein_edit_numbers j (respelled_protein_edit e)) (protein_edit_numbers k e)
  unfolding every_number
  protein_edit_tested j k (P.ProteinEditTree.subst r) = refl
  protein_edit_tested j k P.ProteinEditTree.subst_unknown = refl
  protein_edit_tested j k P.ProteinEditTree.equal = refl
  protein_edit_tested j k P.ProteinEditTree.del = refl
  protein_edit_tested j k P.ProteinEditTree.dup = refl
  protein_edit_tested j k (P.ProteinEditTree.ins rs) = refl
  protein_edit_tested j k (P.ProteinEditTree.del_ins rs) = refl
  protein_edit_tested j k (P.ProteinEditTree.fs r none) = refl
  protein_edit_tested j k (P.ProteinEditTree.fs r (some (stop t n))) = length_tested _ _ n
  protein_edit_tested j k (P.ProteinEditTree.ext r nothing) = refl
  protein_edit_tested j k (P.ProteinEditTree.ext r (later (stop t n))) = length_tested _ _ n
  protein_edit_tested j k (P.ProteinEditTree.ext r (earlier q ds)) = refl

  na_body_tested : (kind : Kind) (j k : ℕ) (b : NaBody kind) → Tested (na_body_numbers kind j (respelled_na_body kind b)) (na_body_numbers kind k b)
  na_body_tested kind j k (both l e) = parts_tested kind na_edit_numbers respelled_na_edit na_edit_tested j k l e

  protein_body_tested : (j k : ℕ) (b : ProteinBody) → Tested (protein_body_numbers j (respelled_protein_body b)) (protein_body_numbers k b)
  unfolding every_number
  protein_body_tested j k met1 = refl
  protein_body_tested j k bracketed_met1 = refl
  protein_body_tested j k no_protein_uncertain = refl
  protein_body_tested j k no_protein = refl
  protein_body_tested j k no_change_uncertain = refl
  protein_body_tested j k no_change = refl
  protein_body_tested j k unknown = refl
  protein_body_tested j k (change (both l e)) = parts_tested Prot protein_edit_numbers respelled_protein_edit protein_edit_tested j k l e
  protein_body_tested j k (bracketed (both i e)) =
      let n = j + 1 + length (print_ends Prot (respelled_ends Prot i)) in
      let m = k + 1 + length (print_ends Prot i) in
      tested_append (ends_numbers Prot (j + 1) (respelled_ends Prot i)) (protein_edit_numbers n (respelled_protein_edit e)) (ends_numbers Prot (k + 1) i) (protein_edit_numbers m e) (ends_tested Prot (j + 1) (k + 1) i) (protein_edit_tested n m e)

  body_tested : (kind : Kind) (j k : ℕ) (b : BodyTree kind) → Tested (body_numbers kind j (respelled_body kind b)) (body_numbers kind k b)
  body_tested Cds = na_body_tested Cds
  body_tested Genome = na_body_tested Genome
  body_tested Mt = na_body_tested Mt
  body_tested Tx = na_body_tested Tx
  body_tested Prot = protein_body_tested
  body_tested Rna = na_body_tested Rna

  numbers_tested : (j k : ℕ) (x : Text) → Tested (numbers_at j (respelled x)) (numbers_at k x)
  numbers_tested j k (text h kind b) = body_tested kind _ _ b

pub all_plain_lem : (k : ℕ) (x : Text) → all_plain (numbers_at k (respelled x)) ≡ true
all_plain_lem k x = numbers_tested is_plain k k x ∙ every_so now_plain (numbers_at k x)

pub faultless_same : (j k : ℕ) (x : Text) → is_faultless (numbers_at j (respelled x)) ≡ is_faultless (numbers_at k x)
faultless_same j k x = numbers_tested (λ sign ds. fits sign (val ds)) j k x ∙ every_same fits_same (numbers_at k x)
