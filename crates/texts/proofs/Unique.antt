-- A contract that is an equation leaves no second answer.
use Rattle.std.specs.Prelude.{◌≡◌}
use Rattle.std.proofs.Common.{sym, ◌∙◌}

pub no_second_answer : {A : Type 0} {r q x : A} → r ≡ x → q ≡ x → r ≡ q
no_second_answer p e = p ∙ sym e
