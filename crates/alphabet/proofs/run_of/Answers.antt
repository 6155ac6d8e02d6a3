use Rattle.std.proofs.Common.{rules}
use mathlib.Core.Path.{◌≡◌, sym, ◌∙◌}
use mathlib.Core.Bool.{true, false}
use lib.ListN.{length, get_or}
use Rattle.texts.proofs.Runs.{run_more, run_stop, run_end}
use Rattle.alphabet.specs.Classes.{member}
use Rattle.alphabet.proofs.run_of.Goals as goal

pub returns-then-not-is_in : goal.returns-then-not-is_in
returns-then-not-is_in c =
    let a = c.args in
    let e : member a.class (get_or a.s.now c.loop-i.i 0) ≡ false = sym c.is_in.ensures ∙ c.if-not-is_in.true in
    sym (c.loop-i.invariant ∙ run_stop (member a.class) _ _ (search rules) e)

pub loop-i-preserved : goal.loop-i-preserved
loop-i-preserved c =
    let a = c.args in
    let e : member a.class (get_or a.s.now c.loop-i.i 0) ≡ true = sym c.is_in.ensures ∙ c.if-not-is_in.false in
    c.loop-i.invariant ∙ run_more (member a.class) _ _ (search rules) e

pub returns : goal.returns
returns c =
    let end : c.loop-i.i ≡ length c.args.s.now = search rules in
    sym end ∙ sym (c.loop-i.invariant ∙ run_end (member c.args.class) _ _ c.loop-i-test.false)
