use mathlib.Core.Path.{sym}
use lib.Seq.{length-take-le}
use Rattle.line_steps.proofs.put_line.Goals as goal

pub slice_bounds-answer-end : goal.slice_bounds-answer-end
slice_bounds-answer-end c = sym (length-take-le c.args.line.len c.args.buffer.now c.requires.0)
