-- The first of two that finds something.
use Rattle.std.specs.Prelude.{◌≡◌}
use Rattle.std.proofs.Math.Option.{Option, none, some}
use Rattle.lang.specs.Choice.{or_next}

-- by which of the two it came
pub next_cases : {A B : Type 0} (o u : Option A) {t : A} → or_next o u ≡ some t → (o ≡ some t → B) → (u ≡ some t → B) → B
next_cases none u e f g = g e
next_cases (some a) u e f g = f e
