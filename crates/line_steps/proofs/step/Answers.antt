use native.Mathlib.Omega.{arith}
use lib.ListN.{drop}
use Rattle.texts.proofs.Slices.{tail_part}
use Rattle.lines.proofs.Steps.{standing_start, used_more, standing_more, stepped_all, stepped_full}
use Rattle.line_promise.specs.Computed.{line_answer}
use Rattle.line_promise.specs.Output.{most_bytes}
use Rattle.line_steps.proofs.EndedAnswer.{said_short}
use Rattle.line_steps.proofs.step.Goals as goal

pub loop-so_far-init : goal.loop-so_far-init
loop-so_far-init c = standing_start line_answer most_bytes c.args.piece.now c.args.buffer.now c.args.line c.args.out.now c.requires

pub overflow_add-so_far : goal.overflow_add-so_far
overflow_add-so_far c =
    let l = c.loop-so_far in
    let a = c.args in
    let some = used_more line_answer most_bytes a.piece.now a.buffer.now a.line a.out.now l.so_far l.buffer l.out l.invariant c.loop-so_far-test.true (tail_part l.so_far.used a.piece.now) c.turn-t.ensures.0 in
    omega (arith, some.1)

pub loop-so_far-smaller : goal.loop-so_far-smaller
loop-so_far-smaller c =
    let l = c.loop-so_far in
    let a = c.args in
    let some = used_more line_answer most_bytes a.piece.now a.buffer.now a.line a.out.now l.so_far l.buffer l.out l.invariant c.loop-so_far-test.true (tail_part l.so_far.used a.piece.now) c.turn-t.ensures.0 in
    omega (arith, some.0, some.1)

pub loop-so_far-preserved : goal.loop-so_far-preserved
loop-so_far-preserved c =
    let l = c.loop-so_far in
    let a = c.args in
    standing_more line_answer most_bytes a.piece.now a.buffer.now a.line a.out.now l.so_far l.buffer l.out l.invariant c.loop-so_far-test.true (tail_part l.so_far.used a.piece.now) c.turn-t.ensures.0
    (omega (arith, c.if-out-so_far-ge-MOST.true, l.invariant.at_in))
    (said_short l.buffer l.so_far.line (drop l.so_far.used a.piece.now))
    c.turn-t.ensures.2
    c.turn-t.ensures.1

pub returns-else-out-so_far-ge-MOST : goal.returns-else-out-so_far-ge-MOST
returns-else-out-so_far-ge-MOST c =
    let l = c.loop-so_far in
    let a = c.args in
    stepped_full line_answer most_bytes a.piece.now a.buffer.now a.line a.out.now l.so_far l.buffer l.out l.invariant (omega (arith, l.invariant.at_in))

pub returns-after-loop-so_far : goal.returns-after-loop-so_far
returns-after-loop-so_far c =
    let l = c.loop-so_far in
    let a = c.args in
    stepped_all line_answer most_bytes a.piece.now a.buffer.now a.line a.out.now l.so_far l.buffer l.out l.invariant c.loop-so_far-test.false
