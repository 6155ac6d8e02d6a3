-- The number is handed on; behind it `ins` and letters, or nothing.
use Prim.Native.Nat.{◌≤◌}
use mathlib.Core.Path.{◌≡◌, refl, sym, ◌∙◌}
use native.Mathlib.Omega.{arith}
use lib.ListN.{length}
use Rattle.texts.specs.Ascii.{ascii}
use Rattle.texts.specs.Runs.{front, behind}
use Rattle.alphabet.specs.Letters.{digit, nucleotide}
use Rattle.record.specs.declared.NaEdit.TheVariants.{DelNum}
use Rattle.grammar.specs.NucleotideEdits.{NaEditTree.del_num}
use Rattle.lang_na_edits.specs.Parse.{inserted}
use Rattle.read_scan.specs.Reading.{number_run, number_le}
use Rattle.read_na_forms.proofs.Found.{found_number, found_num_ins}
use Rattle.read_na_forms.proofs.NaFormCases.{inserted_behind, inserted_within, del_num_lem, del_num_ins_lem}
use Rattle.read_na_del.proofs.after_del_num.Goals as goal

pub slice_bounds-inserted-count : goal.slice_bounds-inserted-count
slice_bounds-inserted-count c =
    let n-le : c.args.n.len ≤ length c.args.s.now = number_le _ _ _ c.requires.1 in
    n-le

pub slice_bounds-inserted-start : goal.slice_bounds-inserted-start
slice_bounds-inserted-start c =
    let n-le : c.args.n.len ≤ length c.args.s.now = number_le _ _ _ c.requires.1 in
    n-le

pub overflow_add-result : goal.overflow_add-result
overflow_add-result c =
    let n-le : c.args.n.len ≤ length c.args.s.now = number_le _ _ _ c.requires.1 in
    omega (arith, n-le)

pub returns-then-b-eq0 : goal.returns-then-b-eq0
returns-then-b-eq0 c =
    let b-is : c.inserted-b.result ≡ length (inserted nucleotide (behind digit c.args.s.now)) = inserted_behind nucleotide digit _ _ _ (number_run _ _ _ c.requires.1) c.inserted-b.ensures in
    let s = c.args.s.now in
    rw (del_num_lem nucleotide (front digit s) (behind digit s) (sym b-is ∙ c.if-b-eq0.true))
    (found_number s _ c.requires.1 _ _ c.of_number-faults.ensures DelNum (del_num (front digit s)) (ascii "del") refl refl refl refl refl)

pub overflow_add-at-3 : goal.overflow_add-at-3
overflow_add-at-3 c =
    let n-le : c.args.n.len ≤ length c.args.s.now = number_le _ _ _ c.requires.1 in
    omega (arith, n-le)

pub overflow_add-at-4 : goal.overflow_add-at-4
overflow_add-at-4 c =
    let n-le : c.args.n.len ≤ length c.args.s.now = number_le _ _ _ c.requires.1 in
    omega (arith, n-le)

pub span-requires : goal.span-requires
span-requires c =
    let b-le : c.inserted-b.result ≤ length c.args.s.now = let b-is : c.inserted-b.result ≡ length (inserted nucleotide (behind digit c.args.s.now)) = inserted_behind nucleotide digit _ _ _ (number_run _ _ _ c.requires.1) c.inserted-b.ensures in
    inserted_within nucleotide digit _ _ b-is in
    let n-le : c.args.n.len ≤ length c.args.s.now = number_le _ _ _ c.requires.1 in
    omega (arith, n-le, b-le)

pub overflow_add-result-2 : goal.overflow_add-result-2
overflow_add-result-2 c =
    let n-le : c.args.n.len ≤ length c.args.s.now = number_le _ _ _ c.requires.1 in
    omega (arith, n-le)

pub overflow_add-result-3 : goal.overflow_add-result-3
overflow_add-result-3 c =
    let n-le : c.args.n.len ≤ length c.args.s.now = number_le _ _ _ c.requires.1 in
    omega (arith, n-le)

pub overflow_add-result-4 : goal.overflow_add-result-4
overflow_add-result-4 c =
    let b-le : c.inserted-b.result ≤ length c.args.s.now = let b-is : c.inserted-b.result ≡ length (inserted nucleotide (behind digit c.args.s.now)) = inserted_behind nucleotide digit _ _ _ (number_run _ _ _ c.requires.1) c.inserted-b.ensures in
    inserted_within nucleotide digit _ _ b-is in
    let n-le : c.args.n.len ≤ length c.args.s.now = number_le _ _ _ c.requires.1 in
    omega (arith, n-le, b-le)

pub returns : goal.returns
returns c =
    let b-is : c.inserted-b.result ≡ length (inserted nucleotide (behind digit c.args.s.now)) = inserted_behind nucleotide digit _ _ _ (number_run _ _ _ c.requires.1) c.inserted-b.ensures in
    let s = c.args.s.now in
    rw (del_num_ins_lem nucleotide (front digit s) (behind digit s) (λ z. c.if-b-eq0.false (b-is ∙ z)))
    (found_num_ins s _ c.requires.1 _ _ c.of_number-faults.ensures _ (inserted nucleotide (behind digit s)) _ b-is c.span.ensures)
