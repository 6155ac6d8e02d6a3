-- The tests, one after the other.
use mathlib.Core.Path.{sym, ◌∙◌}
use native.Mathlib.Omega.{arith}
use borrow.Author.Tests.{not-true, not-false}
use Rattle.frames.specs.Taking.{Standing}
use Rattle.frames.proofs.Digits.{digit_small}
use Rattle.frames.proofs.Bytes.{after_end, after_other, after_bad, after_full, after_first, after_second}
use Rattle.frame_take.proofs.ByteTests.{with_state_lem}
use Rattle.frame_take.proofs.after_byte.Goals as goal
use Rattle.frame_take.proofs.after_byte.Goals.{in_default-via-in-Some+then-not-state+else-state-lt-MOST_DIGITS, in_default-via-in-Some+else-not-state, in_default-via-in_default}

pub returns-then-b-eq-LINE_END : goal.returns-then-b-eq-LINE_END
returns-then-b-eq-LINE_END c =
    let a = c.args in
    let g : Standing = record { state = a.state; buffer = a.buffer.now } in
    with_state_lem g (after_end g a.b c.if-b-eq-LINE_END.true) c.line_closed.ensures

pub overflow_add-state : goal.overflow_add-state
overflow_add-state c = omega (arith, digit_small c.args.b c.in-Some.value c.in-Some.ensures)

pub returns-then-state-eq0 : goal.returns-then-state-eq0
returns-then-state-eq0 c =
    let a = c.args in
    let g : Standing = record { state = a.state; buffer = a.buffer.now } in
    with_state_lem g (after_first g a.b c.if-b-eq-LINE_END.false c.in-Some.ensures (not-true c.args.state.bad c.if-not-state.true) c.if-state-lt-MOST_DIGITS.true c.if-state-eq0.true) c.halved.ensures

pub returns-else-state-eq0 : goal.returns-else-state-eq0
returns-else-state-eq0 c =
    let a = c.args in
    let g : Standing = record { state = a.state; buffer = a.buffer.now } in
    c.add_byte.ensures ∙ sym (after_second g a.b c.if-b-eq-LINE_END.false c.in-Some.ensures (not-true c.args.state.bad c.if-not-state.true) c.if-state-lt-MOST_DIGITS.true c.if-state-eq0.false)

pub returns-in_default : goal.returns-in_default
returns-in_default c =
    let a = c.args in
    let g : Standing = record { state = a.state; buffer = a.buffer.now } in
    elim c.in_default.branch [
      | in_default-via-in-Some+then-not-state+else-state-lt-MOST_DIGITS w ↦ with_state_lem g (after_full g a.b c.if-b-eq-LINE_END.false w.in-Some.ensures (not-true c.args.state.bad w.if-not-state.true) w.if-state-lt-MOST_DIGITS.false) c.spoiled.ensures
      | in_default-via-in-Some+else-not-state w ↦ with_state_lem g (after_bad g a.b c.if-b-eq-LINE_END.false w.in-Some.ensures (not-false c.args.state.bad w.if-not-state.false)) c.spoiled.ensures
      | in_default-via-in_default w ↦ with_state_lem g (after_other g a.b c.if-b-eq-LINE_END.false w.in_default.ensures) c.spoiled.ensures
    ]
