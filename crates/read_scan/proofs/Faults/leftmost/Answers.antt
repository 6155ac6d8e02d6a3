use borrow.Author.Tests.{lt-ltb, le-ltb}
use Rattle.read_scan.specs.Findings.{rank_in, merged}
use Rattle.read_scan.proofs.Faults.leftmost.Goals as goal

pub returns-then-self-later : goal.returns-then-self-later
unfolding merged
returns-then-self-later c =
    let x = c.args in
    rw (lt-ltb (rank_in x.self.code) (rank_in x.later.code) c.if-self-later.true)

pub returns-else-self-later : goal.returns-else-self-later
unfolding merged
returns-else-self-later c =
    let x = c.args in
    rw (le-ltb (rank_in x.self.code) (rank_in x.later.code) c.if-self-later.false)
