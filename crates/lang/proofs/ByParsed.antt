-- An answer, by what was parsed.
use Rattle.std.specs.Prelude.{◌≡◌, refl}
use Rattle.std.proofs.Math.Option.{Option, none, some}

pub by_answer : {A X B : Type 0} (answer : Option A → X) (o : Option A) {x : X} → x ≡ answer o → (o ≡ none → x ≡ answer none → B) → ((t : A) → o ≡ some t → x ≡ answer (some t) → B) → B
by_answer answer none e f g = f refl e
by_answer answer (some t) e f g = g t refl e
