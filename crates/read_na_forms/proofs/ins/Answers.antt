-- The letters behind `ins`, of which there is one at least.
use Prim.Native.Nat.{◌≤◌}
use mathlib.Core.Path.{refl, sym, ◌∙◌}
use native.Mathlib.Omega.{arith}
use lib.ListN.{length}
use Rattle.texts.specs.Ascii.{ascii}
use Rattle.alphabet.specs.Letters.{nucleotide}
use Rattle.record.specs.declared.NaEdit.TheVariants.{Ins}
use Rattle.grammar.specs.NucleotideEdits as Tree
use Rattle.lang_na_edits.specs.Parse.{inserted}
use Rattle.read_scan.specs.Accounts.{answered}
use Rattle.read_na_forms.proofs.Found.{found_word}
use Rattle.read_na_forms.proofs.NaFormCases.{inserted_le, ins_none, ins_some}
use Rattle.read_na_forms.proofs.ins.Goals as goal

pub returns-then-m-eq0 : goal.returns-then-m-eq0
unfolding answered
returns-then-m-eq0 c = rw (ins_none nucleotide c.args.s.now (sym c.inserted-m.ensures ∙ c.if-m-eq0.true))

pub span-requires : goal.span-requires
span-requires c =
    let m-le : c.inserted-m.result ≤ length c.args.s.now = omega (arith, c.inserted-m.ensures, inserted_le nucleotide c.args.s.now) in
    omega (arith, m-le)

pub overflow_add-m : goal.overflow_add-m
overflow_add-m c =
    let m-le : c.inserted-m.result ≤ length c.args.s.now = omega (arith, c.inserted-m.ensures, inserted_le nucleotide c.args.s.now) in
    omega (arith, m-le)

pub returns : goal.returns
returns c =
    let s = c.args.s.now in
    rw (ins_some nucleotide s (λ z. c.if-m-eq0.false (c.inserted-m.ensures ∙ z)))
    (rw c.plain.ensures (found_word _ _ (inserted nucleotide s) _ c.inserted-m.ensures c.span.ensures Ins (Tree.NaEditTree.ins (inserted nucleotide s)) (ascii "ins") refl refl refl refl refl))
