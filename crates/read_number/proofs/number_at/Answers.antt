-- The bytes passed are digits, and it is told what they are worth.
use mathlib.Core.Path.{◌≡◌, sym, ◌∙◌}
use mathlib.Core.Bool.{true, false}
use native.Mathlib.Omega.{arith}
use lib.ListN.{length, get_or}
use Rattle.texts.proofs.Runs.{run_more, run_stop, run_end}
use Rattle.alphabet.specs.Letters.{digit}
use Rattle.alphabet.proofs.Apart.{digit_bounds}
use Rattle.alphabet.specs.Classes.{member}
use Rattle.read_number.proofs.DigitLoops.{none_worth, worth_capped, worth_more, value_all}
use Rattle.read_number.proofs.number_at.Goals as goal

pub loop-i-init : goal.loop-i-init
loop-i-init c = (omega arith, none_worth)

pub returns-then-not-is_in : goal.returns-then-not-is_in
unfolding member
returns-then-not-is_in c =
    let s = c.args.s.now in
    let l = c.loop-i in
    let e : digit (get_or s l.i 0) ≡ false = sym c.is_in.ensures ∙ c.if-not-is_in.true in
    c.number_of.ensures ∙ value_all c.args.sign s l.i _ _ (l.invariant.0 ∙ run_stop digit s l.i c.loop-i-test.true e) (c.capped.ensures ∙ worth_capped l.large l.invariant.1) c.begins_with_zero-zero.ensures

pub overflow_sub-b : goal.overflow_sub-b
unfolding member
overflow_sub-b c =
    let is_digit : digit (get_or c.args.s.now c.loop-i.i 0) ≡ true = sym c.is_in.ensures ∙ c.if-not-is_in.false in
    (digit_bounds _ is_digit).0

pub loop-i-preserved : goal.loop-i-preserved
unfolding member
loop-i-preserved c =
    let is_digit : digit (get_or c.args.s.now c.loop-i.i 0) ≡ true = sym c.is_in.ensures ∙ c.if-not-is_in.false in
    let s = c.args.s.now in
    let l = c.loop-i in
    (l.invariant.0 ∙ run_more digit s l.i c.loop-i-test.true is_digit, rw c.from.ensures (worth_more s l.i l.v l.large c.loop-i-test.true (omega (arith, digit_bounds _ is_digit)) l.invariant.1))

pub returns : goal.returns
returns c =
    let a = c.args in
    let l = c.loop-i in
    let end : l.i ≡ length a.s.now = omega (arith, l.auto.i-end, c.loop-i-test.false) in
    c.number_of-2.ensures ∙ rw (← end) (value_all a.sign a.s.now l.i _ _ (l.invariant.0 ∙ run_end digit a.s.now l.i c.loop-i-test.false) (c.capped-2.ensures ∙ worth_capped l.large l.invariant.1) c.begins_with_zero-zero.ensures)
