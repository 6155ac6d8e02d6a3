-- Behind `inv`: digits where there is one, else letters.
use Prim.Native.Nat.{◌≤◌}
use mathlib.Core.Path.{refl, sym, ◌∙◌}
use native.Mathlib.Omega.{arith}
use lib.ListN.{length}
use Rattle.texts.specs.Ascii.{ascii}
use Rattle.texts.specs.Runs.{front}
use Rattle.texts.proofs.Runs.{front_length}
use Rattle.alphabet.specs.Letters.{digit, nucleotide}
use Rattle.alphabet.specs.Classes.{member}
use Rattle.record.specs.declared.NaEdit.TheVariants.{InvRef, InvNum}
use Rattle.grammar.specs.NucleotideEdits.{NaEditTree.inv_num, NaEditTree.inv}
use Rattle.read_scan.specs.Reading.{number_len, number_le}
use Rattle.read_na_forms.proofs.Found.{found_word, found_number}
use Rattle.read_na_forms.proofs.NaFormCases.{counted_le, inv_digits, inv_letters}
use Rattle.read_na_forms.proofs.after_inv.Goals as goal

pub overflow_add-result : goal.overflow_add-result
overflow_add-result c = omega (arith, number_le _ _ _ c.number_at-n.ensures)

pub returns-then-n-ne0 : goal.returns-then-n-ne0
returns-then-n-ne0 c =
    let s = c.args.s.now in
    rw (inv_digits nucleotide s (λ z. c.if-n-ne0.true (number_len _ s _ c.number_at-n.ensures ∙ z)))
    (found_number s _ c.number_at-n.ensures _ _ c.of_number.ensures InvNum (inv_num (front digit s)) (ascii "inv") refl refl refl refl refl)

pub span-requires : goal.span-requires
unfolding member
span-requires c =
    let m-le : c.run_of-m.result ≤ length c.args.s.now = counted_le nucleotide _ _ c.run_of-m.ensures in
    omega (arith, m-le)

pub overflow_add-m : goal.overflow_add-m
unfolding member
overflow_add-m c =
    let m-le : c.run_of-m.result ≤ length c.args.s.now = counted_le nucleotide _ _ c.run_of-m.ensures in
    omega (arith, m-le)

pub returns : goal.returns
unfolding member
returns c =
    let s = c.args.s.now in
    rw (inv_letters nucleotide s (sym (number_len _ s _ c.number_at-n.ensures) ∙ c.if-n-ne0.false))
    (rw c.plain.ensures (found_word _ _ (front nucleotide s) _ (c.run_of-m.ensures ∙ sym (front_length nucleotide s)) c.span.ensures InvRef (inv (front nucleotide s)) (ascii "inv") refl refl refl refl refl))
