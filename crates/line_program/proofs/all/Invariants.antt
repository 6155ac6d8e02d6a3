use Rattle.line_program.proofs.RunSoFar.{Standing}
use Rattle.line_program.proofs.all.Given as goal

-- a run so far, from the line buffer as it was lent
abbrev pub invariant-loop : goal.invariant-loop
invariant-loop g l = Standing l.fn.buffer l.counter l.next l.input l.buffer l.out
