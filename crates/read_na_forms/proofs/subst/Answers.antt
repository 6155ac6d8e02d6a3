-- The second byte, then the first and the third.
use Prim.Native.Char.{code}
use mathlib.Core.Path.{◌≡◌, sym, ◌∙◌}
use mathlib.Core.Bool.{true, false}
use lib.ListN.{get_or}
use borrow.Author.Rules.{rules}
use borrow.Author.Tests.{ne_eqb}
use Rattle.alphabet.specs.Letters.{nucleotide}
use Rattle.alphabet.specs.Classes.{member}
use Rattle.read_scan.specs.Accounts.{answered}
use Rattle.read_na_forms.proofs.Found.{found_swap}
use Rattle.read_na_forms.proofs.NaFormCases.{subst_short, subst_is}
use Rattle.read_na_forms.proofs.subst.Goals as goal
use Rattle.read_na_forms.proofs.subst.Goals.{then-not-is_in-via-then-not-is_in, then-not-is_in-via-else-not-is_in+then-not-is_in-2}

pub returns-in_default : goal.returns-in_default
unfolding answered
returns-in_default c = rw (subst_short nucleotide c.args.s.now c.in_default.len_below)

pub returns-in_default-2 : goal.returns-in_default-2
unfolding answered
returns-in_default-2 c =
    let s = c.args.s.now in
    let other : get_or s 1 0 ≡ code ">" → ⊥ = search rules in
    rw (subst_is nucleotide s c.in_default.len_at_least, ne_eqb (get_or s 1 0) (code ">") other)

pub returns-then-not-is_in : goal.returns-then-not-is_in
unfolding answered member
returns-then-not-is_in c =
    let s = c.args.s.now in
    let mark : get_or s 1 0 ≡ code ">" = search rules in
    elim c.then-not-is_in.branch [
      | then-not-is_in-via-then-not-is_in w ↦
          (let f : nucleotide (get_or s 0 0) ≡ false = sym c.is_in.ensures ∙ w.if-not-is_in.true in
          rw (subst_is nucleotide s c.in-62.len_at_least, mark, f))
      | then-not-is_in-via-else-not-is_in+then-not-is_in-2 w ↦
          (let is-first : nucleotide (get_or s 0 0) ≡ true = sym c.is_in.ensures ∙ w.if-not-is_in.false in
          let f : nucleotide (get_or s 2 0) ≡ false = sym w.is_in-else-not-is_in.ensures ∙ w.if-not-is_in-2.true in
          rw (subst_is nucleotide s c.in-62.len_at_least, mark, is-first, f))
    ]

pub returns : goal.returns
unfolding member
returns c =
    let s = c.args.s.now in
    let mark : get_or s 1 0 ≡ code ">" = search rules in
    let is-first : nucleotide (get_or s 0 0) ≡ true = sym c.is_in.ensures ∙ c.if-not-is_in.false in
    let f : nucleotide (get_or s 2 0) ≡ true = sym c.is_in-else-not-is_in.ensures ∙ c.if-not-is_in-2.false in
    rw (subst_is nucleotide s c.in-62.len_at_least, mark, is-first, f)
    (found_swap _ _ (get_or s 0 0) (get_or s 2 0) _ _ c.span.ensures c.span-2.ensures c.settled_if.ensures)
