use mathlib.Core.Path.{refl, sym, ◌∙◌}
use Rattle.texts.specs.Brackets.{opening}
use Rattle.read_scan.proofs.opening.Goals as goal

pub returns-then-begins : goal.returns-then-begins
unfolding opening
returns-then-begins c = rw (sym c.begins.ensures ∙ c.if-begins.true) refl

pub returns-else-begins : goal.returns-else-begins
unfolding opening
returns-else-begins c = rw (sym c.begins.ensures ∙ c.if-begins.false) refl
