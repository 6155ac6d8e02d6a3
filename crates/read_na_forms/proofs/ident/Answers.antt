-- The letters at the front, and `=` behind them.
use Prim.Native.Nat.{◌≤◌}
use mathlib.Core.Path.{◌≡◌, sym, ap, ◌∙◌}
use native.Mathlib.Omega.{arith}
use lib.ListN.{length}
use Rattle.texts.specs.Ascii.{ascii}
use Rattle.texts.specs.Runs.{front, behind}
use Rattle.texts.proofs.Runs.{front_length}
use Rattle.texts.specs.Words.{starts}
use Rattle.alphabet.specs.Letters.{nucleotide}
use Rattle.alphabet.specs.Classes.{member}
use Rattle.read_scan.specs.Accounts.{answered}
use Rattle.read_na_forms.proofs.Found.{found_equal}
use Rattle.read_na_forms.proofs.NaFormCases.{part_behind, counted_le, ident_some, ident_none}
use Rattle.read_na_forms.proofs.ident.Goals as goal

pub slice_bounds-begins-count : goal.slice_bounds-begins-count
unfolding member
slice_bounds-begins-count c =
    let m-le : c.run_of-m.result ≤ length c.args.s.now = counted_le nucleotide _ _ c.run_of-m.ensures in
    m-le

pub slice_bounds-begins-start : goal.slice_bounds-begins-start
unfolding member
slice_bounds-begins-start c =
    let m-le : c.run_of-m.result ≤ length c.args.s.now = counted_le nucleotide _ _ c.run_of-m.ensures in
    m-le

pub span-seq-requires : goal.span-seq-requires
unfolding member
span-seq-requires c =
    let m-le : c.run_of-m.result ≤ length c.args.s.now = counted_le nucleotide _ _ c.run_of-m.ensures in
    omega (arith, m-le)

pub overflow_add-m : goal.overflow_add-m
unfolding member
overflow_add-m c =
    let m-le : c.run_of-m.result ≤ length c.args.s.now = counted_le nucleotide _ _ c.run_of-m.ensures in
    omega (arith, m-le)

pub returns : goal.returns
unfolding member
returns c =
    let equal_is : c.begins.result ≡ starts (ascii "=") (behind nucleotide c.args.s.now) = c.begins.ensures ∙ ap (starts (ascii "=")) (part_behind nucleotide c.args.s.now c.run_of-m.result c.run_of-m.ensures) in
    let s = c.args.s.now in
    rw (ident_some nucleotide s (sym equal_is ∙ c.if-not-begins.false))
    (rw c.plain.ensures (found_equal _ _ (front nucleotide s) _ (c.run_of-m.ensures ∙ sym (front_length nucleotide s)) c.span-seq.ensures))

pub returns-then-not-begins : goal.returns-then-not-begins
unfolding answered member
returns-then-not-begins c =
    let equal_is : c.begins.result ≡ starts (ascii "=") (behind nucleotide c.args.s.now) = c.begins.ensures ∙ ap (starts (ascii "=")) (part_behind nucleotide c.args.s.now c.run_of-m.result c.run_of-m.ensures) in
    rw (ident_none nucleotide _ (sym equal_is ∙ c.if-not-begins.true))
