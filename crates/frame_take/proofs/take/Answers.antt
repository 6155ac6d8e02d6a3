use Prim.Native.Nat.{◌+◌}
use mathlib.Core.Path.{◌≡◌, sym, ap, ◌∙◌}
use native.Mathlib.Omega.{arith}
use lib.ListN.{length, drop}
use Rattle.frames.specs.Taking.{Standing, behind, takes}
use Rattle.frame_take.proofs.ByteTests.{takes_stop, takes_more, takes_end, told_of}
use Rattle.frame_take.proofs.take.Goals as goal

pub returns-then-closes : goal.returns-then-closes
returns-then-closes c =
    let a = c.args in
    let l = c.loop-i in
    told_of (takes (record { state = a.state; buffer = a.buffer.now }) a.piece.now)
    (l.invariant ∙ takes_stop (record { state = l.state; buffer = l.buffer }) a.piece.now l.i c.loop-i-test.true (sym c.closes.ensures ∙ c.if-closes.true))

pub loop-i-preserved : goal.loop-i-preserved
loop-i-preserved c =
    let a = c.args in
    let l = c.loop-i in
    l.invariant
    ∙ takes_more (record { state = l.state; buffer = l.buffer }) a.piece.now l.i c.loop-i-test.true (sym c.closes.ensures ∙ c.if-closes.false)
    ∙ ap (λ (g : Standing). behind (l.i + 1) (takes g (drop (l.i + 1) a.piece.now))) (sym c.after_byte-state.ensures)

pub returns : goal.returns
returns c =
    let a = c.args in
    let l = c.loop-i in
    let all : l.i ≡ length a.piece.now = omega arith in
    told_of (takes (record { state = a.state; buffer = a.buffer.now }) a.piece.now)
    (rw all at l.invariant ∙ takes_end (record { state = l.state; buffer = l.buffer }) a.piece.now (length a.piece.now) (omega arith))
