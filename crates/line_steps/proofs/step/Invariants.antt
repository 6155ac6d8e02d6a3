use Prim.Native.Nat.{◌-◌}
use lib.ListN.{length}
use Rattle.lines.proofs.Steps.{Standing}
use Rattle.line_promise.specs.Computed.{line_answer}
use Rattle.line_promise.specs.Output.{most_bytes}
use Rattle.line_steps.proofs.step.Given as goal

abbrev pub invariant-loop-so_far : goal.invariant-loop-so_far
invariant-loop-so_far l = Standing line_answer most_bytes l.piece l.initial.buffer l.initial.so_far.line l.initial.out l.so_far l.buffer l.out

abbrev pub decreases-loop-so_far : goal.decreases-loop-so_far
decreases-loop-so_far l = length l.piece - l.so_far.used
