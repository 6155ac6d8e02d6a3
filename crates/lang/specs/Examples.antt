-- What the combinators make of a small language, of one letter A or C.
use Rattle.std.specs.Prelude.{ℕ, List, [], ◌∷◌, Bool, true, false, cond, ◌||◌, eqb}
use Prim.Native.Char.{code}
use Rattle.std.proofs.Math.Option.{Option, none, some}
use Rattle.grammar.specs.Shapes.{Mu.certain, Mu.uncertain}
use Rattle.lang.specs.MuCanon.{settled_mu}

-- ---- the language
abbrev pub is_letter : ℕ → Bool
is_letter b = eqb b (code "A") || eqb b (code "C")

abbrev pub one_byte : ℕ → List ℕ
one_byte b = b ∷ []

abbrev pub parse_letter : List ℕ → Option ℕ
parse_letter [] = none
parse_letter (b ∷ s) = cond (is_letter b) (some b) none

abbrev pub settled : List (Bool × Bool)
settled =
    (settled_mu is_letter (certain (code "A")), true) ∷
    (settled_mu is_letter (uncertain (code "A")), true) ∷
    (settled_mu is_letter (certain (code "G")), false) ∷
    (settled_mu is_letter (uncertain (code "G")), false) ∷
    []
