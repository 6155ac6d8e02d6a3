-- What a call's answer carries: at an empty line what reading the text answers, and 8 for a text with a bad line.
use Rattle.std.specs.Prelude as Prelude
use Rattle.std.specs.Prelude.{None, Some}
use Rattle.std.proofs.Math.Option.{Option, none, some}
use Rattle.record.specs.Named.{ReadAnswer}
use Rattle.promise.specs.Outcome.{read_outcome}
use Rattle.frames.specs.Taking.{Standing, gathered}
use Rattle.frame_promise.specs.FrameAnswers.{Answer, Says}

abbrev pub frame_outcome : Prelude.Option ReadAnswer → Option Answer
frame_outcome None = none
frame_outcome (Some r) = some (read_outcome r)

-- at an empty line
abbrev pub AnswersText : Standing → ReadAnswer → Type 0
AnswersText g r = Says (gathered g) (read_outcome r)
