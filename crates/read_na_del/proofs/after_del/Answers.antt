-- The four alternatives behind `del`.
use Prim.Native.Nat.{◌≤◌}
use mathlib.Core.Path.{◌≡◌, refl, sym, ◌∙◌}
use native.Mathlib.Omega.{arith}
use lib.ListN.{length}
use Rattle.texts.specs.Ascii.{ascii}
use Rattle.texts.specs.Runs.{front, behind}
use Rattle.texts.proofs.Runs.{front_length}
use Rattle.alphabet.specs.Letters.{nucleotide}
use Rattle.alphabet.specs.Classes.{member}
use Rattle.record.specs.declared.NaEdit.TheVariants.{DelRef}
use Rattle.grammar.specs.NucleotideEdits.{NaEditTree.del}
use Rattle.lang_na_edits.specs.Parse.{inserted}
use Rattle.read_scan.specs.Reading.{number_len}
use Rattle.read_na_forms.proofs.Found.{found_word, found_del_ins}
use Rattle.read_na_forms.proofs.NaFormCases.{counted_le, inserted_behind, inserted_within, del_ins_lem, del_digits, del_letters}
use Rattle.read_na_del.proofs.after_del.Goals as goal

pub slice_bounds-inserted-count : goal.slice_bounds-inserted-count
unfolding member
slice_bounds-inserted-count c =
    let m-le : c.sequence_of-m.result ≤ length c.args.s.now = counted_le nucleotide _ _ c.sequence_of-m.ensures in
    m-le

pub slice_bounds-inserted-start : goal.slice_bounds-inserted-start
unfolding member
slice_bounds-inserted-start c =
    let m-le : c.sequence_of-m.result ≤ length c.args.s.now = counted_le nucleotide _ _ c.sequence_of-m.ensures in
    m-le

pub span-requires : goal.span-requires
unfolding member
span-requires c =
    let m-le : c.sequence_of-m.result ≤ length c.args.s.now = counted_le nucleotide _ _ c.sequence_of-m.ensures in
    omega (arith, m-le)

pub overflow_add-at-then-b-ne0-2 : goal.overflow_add-at-then-b-ne0-2
unfolding member
overflow_add-at-then-b-ne0-2 c =
    let m-le : c.sequence_of-m.result ≤ length c.args.s.now = counted_le nucleotide _ _ c.sequence_of-m.ensures in
    omega (arith, m-le)

pub overflow_add-at-then-b-ne0-3 : goal.overflow_add-at-then-b-ne0-3
unfolding member
overflow_add-at-then-b-ne0-3 c =
    let m-le : c.sequence_of-m.result ≤ length c.args.s.now = counted_le nucleotide _ _ c.sequence_of-m.ensures in
    omega (arith, m-le)

pub span-requires-then-b-ne0 : goal.span-requires-then-b-ne0
unfolding member
span-requires-then-b-ne0 c =
    let b-le : c.inserted-b.result ≤ length c.args.s.now = let b-is : c.inserted-b.result ≡ length (inserted nucleotide (behind nucleotide c.args.s.now)) = inserted_behind nucleotide nucleotide _ _ _ c.sequence_of-m.ensures c.inserted-b.ensures in
    inserted_within nucleotide nucleotide _ _ b-is in
    let m-le : c.sequence_of-m.result ≤ length c.args.s.now = counted_le nucleotide _ _ c.sequence_of-m.ensures in
    omega (arith, m-le, b-le)

pub overflow_add-result : goal.overflow_add-result
unfolding member
overflow_add-result c =
    let m-le : c.sequence_of-m.result ≤ length c.args.s.now = counted_le nucleotide _ _ c.sequence_of-m.ensures in
    omega (arith, m-le)

pub overflow_add-result-then-b-ne0 : goal.overflow_add-result-then-b-ne0
unfolding member
overflow_add-result-then-b-ne0 c =
    let m-le : c.sequence_of-m.result ≤ length c.args.s.now = counted_le nucleotide _ _ c.sequence_of-m.ensures in
    omega (arith, m-le)

pub overflow_add-result-then-b-ne0-2 : goal.overflow_add-result-then-b-ne0-2
unfolding member
overflow_add-result-then-b-ne0-2 c =
    let b-le : c.inserted-b.result ≤ length c.args.s.now = let b-is : c.inserted-b.result ≡ length (inserted nucleotide (behind nucleotide c.args.s.now)) = inserted_behind nucleotide nucleotide _ _ _ c.sequence_of-m.ensures c.inserted-b.ensures in
    inserted_within nucleotide nucleotide _ _ b-is in
    let m-le : c.sequence_of-m.result ≤ length c.args.s.now = counted_le nucleotide _ _ c.sequence_of-m.ensures in
    omega (arith, m-le, b-le)

pub returns-then-b-ne0 : goal.returns-then-b-ne0
unfolding member
returns-then-b-ne0 c =
    let b-is : c.inserted-b.result ≡ length (inserted nucleotide (behind nucleotide c.args.s.now)) = inserted_behind nucleotide nucleotide _ _ _ c.sequence_of-m.ensures c.inserted-b.ensures in
    let m-is : c.sequence_of-m.result ≡ length (front nucleotide c.args.s.now) = c.sequence_of-m.ensures ∙ sym (front_length nucleotide c.args.s.now) in
    let s = c.args.s.now in
    rw (del_ins_lem nucleotide s (λ e. c.if-b-ne0.true (b-is ∙ e)))
    (found_del_ins _ _ _ (front nucleotide s) _ m-is c.span.ensures _ (inserted nucleotide (behind nucleotide s)) _ b-is c.span-then-b-ne0.ensures c.settled_if.ensures)

pub returns-then-n-ne0 : goal.returns-then-n-ne0
unfolding member
returns-then-n-ne0 c =
    let b-is : c.inserted-b.result ≡ length (inserted nucleotide (behind nucleotide c.args.s.now)) = inserted_behind nucleotide nucleotide _ _ _ c.sequence_of-m.ensures c.inserted-b.ensures in
    let s = c.args.s.now in
    rw (del_digits nucleotide s (sym b-is ∙ c.if-b-ne0.false) (λ z. c.if-n-ne0.true (number_len _ s _ c.number_at-n.ensures ∙ z)))
    c.after_del_num.ensures

pub span-requires-2 : goal.span-requires-2
unfolding member
span-requires-2 c =
    let m-le : c.sequence_of-m.result ≤ length c.args.s.now = counted_le nucleotide _ _ c.sequence_of-m.ensures in
    omega (arith, m-le)

pub overflow_add-m : goal.overflow_add-m
unfolding member
overflow_add-m c =
    let m-le : c.sequence_of-m.result ≤ length c.args.s.now = counted_le nucleotide _ _ c.sequence_of-m.ensures in
    omega (arith, m-le)

pub returns : goal.returns
unfolding member
returns c =
    let b-is : c.inserted-b.result ≡ length (inserted nucleotide (behind nucleotide c.args.s.now)) = inserted_behind nucleotide nucleotide _ _ _ c.sequence_of-m.ensures c.inserted-b.ensures in
    let m-is : c.sequence_of-m.result ≡ length (front nucleotide c.args.s.now) = c.sequence_of-m.ensures ∙ sym (front_length nucleotide c.args.s.now) in
    let s = c.args.s.now in
    rw (del_letters nucleotide s (sym b-is ∙ c.if-b-ne0.false) (sym (number_len _ s _ c.number_at-n.ensures) ∙ c.if-n-ne0.false))
    (rw c.plain.ensures (found_word _ _ (front nucleotide s) _ m-is c.span-2.ensures DelRef (del (front nucleotide s)) (ascii "del") refl refl refl refl refl))
