use mathlib.Core.Path.{sym, refl, ◌∙◌}
use Rattle.read_position.specs.Forms.{is_barred}
use Rattle.read_position.proofs.is_barred.Goals as goal

pub returns-then-not-is_starred : goal.returns-then-not-is_starred
unfolding is_barred
returns-then-not-is_starred c = rw (sym c.is_starred.ensures ∙ c.if-not-is_starred.true) c.begins.ensures

pub returns-else-not-is_starred : goal.returns-else-not-is_starred
unfolding is_barred
returns-else-not-is_starred c = rw (c.if-not-is_starred.false, sym c.is_starred.ensures ∙ c.if-not-is_starred.false) refl
