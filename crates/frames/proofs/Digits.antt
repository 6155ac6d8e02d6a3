-- A digit's value is less than 16.
use Rattle.std.specs.Prelude.{ℕ, ◌+◌, ◌-◌, ◌≤◌, ◌<◌, ◌≡◌, refl, Bool, true, false, cond, leb}
use Rattle.std.proofs.Math.Option.{Option, none, some}
use Rattle.std.proofs.Common.{arith, leb-true}
use Rattle.alphabet.specs.Cells.{within}
use Rattle.texts.proofs.Tests.{and-true, none_some}
use Rattle.frames.specs.Frames.{digit_value}

-- a digit of one kind, or one of the kinds behind it
kind : (a z b value v : ℕ) (others : Option ℕ) → (a ≤ b → b ≤ z → value < 16) → (others ≡ some v → v < 16) → cond (within a z b) (some value) others ≡ some v → v < 16
unfolding within
kind a z b value v others small rest e = go (within a z b) refl e
  where
    go : (t : Bool) → within a z b ≡ t → cond t (some value) others ≡ some v → v < 16
    go true q f =
        let k = and-true (leb a b) (leb b z) q in
        let y : value ≡ v = cc in
        omega (arith, small (leb-true a b k.0) (leb-true b z k.1))
    go false q f = rest f

pub digit_small : (b v : ℕ) → digit_value b ≡ some v → v < 16
unfolding digit_value
digit_small b v e =
    kind 48 57 b (b - 48) v _ (λ h k. omega arith)
    (kind 65 70 b (b - 65 + 10) v _ (λ h k. omega arith) (kind 97 102 b (b - 97 + 10) v none (λ h k. omega arith) (λ z. absurd (none_some z))))
    e
