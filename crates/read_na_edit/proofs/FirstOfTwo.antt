-- The first of two that finds something.
use Rattle.std.specs.Prelude as Prelude
use Rattle.std.specs.Prelude.{None, Some}
use Rattle.std.specs.Option.{MatchOption}
use Prim.Native.Nat.{ℕ}
use mathlib.Core.Path.{◌≡◌, refl, ◌∙◌}
use mathlib.Core.Option.{Option, none, some}
use Rattle.record.specs.declared.NaEdit as D
use Rattle.grammar.specs.NucleotideEdits.{NaEditTree}
use Rattle.lang.specs.Choice.{or_next}
use Rattle.read_scan.specs.declared.Found.{Found}
use Rattle.read_scan.specs.Accounts.{answered}
use Rattle.read_na_forms.specs.NaEditAnswers.{na_edit_answer}

-- r is what the first finds, and q what the second finds where the first finds nothing
pub first_of : (k : ℕ) (o u : Option NaEditTree) (r q : Prelude.Option (Found D.NaEdit)) {P : Type 0} → r ≡ na_edit_answer k o → MatchOption r P (λ x. q ≡ Some x) → (P → q ≡ na_edit_answer k u) → q ≡ na_edit_answer k (or_next o u)
unfolding answered
first_of k none u r q e m h = h (rw e at m)
first_of k (some t) u r q e m h = rw e at m

in_turn : (o u w : Option NaEditTree) → or_next (or_next o u) w ≡ or_next o (or_next u w)
in_turn none u w = refl
in_turn (some t) u w = refl

pub six_in_turn : (a b c d e f : Option NaEditTree) → or_next (or_next (or_next (or_next (or_next a b) c) d) e) f ≡ or_next a (or_next b (or_next c (or_next d (or_next e f))))
six_in_turn a b c d e f = in_turn _ e f ∙ in_turn _ d _ ∙ in_turn _ c _ ∙ in_turn a b _
