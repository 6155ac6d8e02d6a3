use mathlib.Core.Path.{refl}
use borrow.Author.Rules.{rules}
use borrow.Author.Tests.{ne_eqb}
use Rattle.read_scan.specs.Faults.{verdict}
use Rattle.read_scan.specs.Findings.{rank_in}
use Rattle.read_scan.proofs.Faults.verdict.Goals as goal

pub returns-in-0 : goal.returns-in-0
unfolding verdict
returns-in-0 c = rw c.in-0.is

pub returns-in-2 : goal.returns-in-2
unfolding verdict
returns-in-2 c = rw c.in-2.is

pub returns-in-3 : goal.returns-in-3
unfolding verdict
returns-in-3 c = rw c.in-3.is

pub returns-in_default : goal.returns-in_default
unfolding verdict
returns-in_default c =
    let r = rank_in c.args.self.code in
    rw (ne_eqb r 0 (search rules), ne_eqb r 2 (search rules), ne_eqb r 3 (search rules)) refl
