-- A bad line comes first, then a text that the buffer does not hold.
use mathlib.Core.Path.{sym}
use lib.Seq.{length-take-le}
use Rattle.frame_reader.proofs.CallAnswers.{answers_bad, answers_long, answers_outside, answers_read}
use Rattle.frame_reader.proofs.answer_of.Goals as goal

pub returns-then-state : goal.returns-then-state
returns-then-state c = answers_bad _ c.if-state.true

pub returns-then-state-2 : goal.returns-then-state-2
returns-then-state-2 c = answers_long _ c.if-state.false c.if-state-2.true

pub returns-then-buffer-len : goal.returns-then-buffer-len
returns-then-buffer-len c = answers_outside _ c.if-state.false c.if-buffer-len.true

pub slice_bounds-read-end : goal.slice_bounds-read-end
slice_bounds-read-end c = sym (length-take-le _ _ c.if-buffer-len.false)

pub returns : goal.returns
returns c = answers_read _ c.if-state.false c.if-state-2.false c.if-buffer-len.false _ c.read.ensures
