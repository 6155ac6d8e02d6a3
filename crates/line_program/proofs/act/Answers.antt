use mathlib.Core.Path.{refl}
use Rattle.line_runs.specs.After.{Acted}
use Rattle.std.proofs.lemmas.Slice.{between_is}
use Rattle.line_program.proofs.act.Goals as goal

pub returns-in-Step : goal.returns-in-Step
unfolding Acted
returns-in-Step g c =
    let rest = c.in-Step.rest in
    rw c.in-Step.is (c.step-s.result, rw (between_is c.args.input.now rest.used rest.piece) at c.step-s.ensures, c.after_step.ensures, refl)
