-- What the library's comparisons of slices say, in the words of `texts`.
use Rattle.std.specs.Prelude.{ℕ, ◌≡◌, refl, List, [], ◌∷◌, Bool, ◌&&◌, eqb, length, take}
use Rattle.std.proofs.Common.{ap, sym, ◌∙◌}
use Rattle.std.specs.Cmp.Lexicographic.{pointwise}
use Rattle.texts.specs.Words.{starts, same}
use Rattle.texts.proofs.Words.{starts_take}

pub pointwise_same : (a b : List ℕ) → pointwise eqb a b ≡ same a b
unfolding same
pointwise_same [] [] = refl
pointwise_same [] (y ∷ b) = refl
pointwise_same (x ∷ a) [] = refl
pointwise_same (x ∷ a) (y ∷ b) = ap (λ (t : Bool). eqb x y && t) (pointwise_same a b)

pub pointwise_starts : (word s : List ℕ) → pointwise eqb word (take (length word) s) ≡ starts word s
pointwise_starts word s = pointwise_same word (take (length word) s) ∙ sym (starts_take word s)
