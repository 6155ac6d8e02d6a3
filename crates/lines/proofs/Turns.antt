-- What a loop over a piece needs: one turn of it, and what is left.
use Prim.Native.Nat.{ℕ, zero, suc, ◌≤◌, ◌<◌}
use Rattle.std.specs.Prelude.{◌≡◌, Bool, true, false, length, drop}
use Rattle.std.proofs.Math.Path.{refl, ap}
use Rattle.std.proofs.Common.{◌∙◌, length-drop}
use Rattle.std.proofs.Math.Bool.{cond}
use mathlib.Core.List.{List, [], ◌∷◌}
use native.Mathlib.Omega.{arith}
use Rattle.lines.specs.Lines.{Held}
use Rattle.lines.specs.Taking.{no_line, held_in, ended, used, longer, taken, stored}
use Rattle.lines.specs.Feeding.{Going, turn, turns, through, fed}
use Rattle.lines.proofs.HeldLines.{used_some}

-- a byte is used, so that less is left
pub less_left : (b : ℕ) (s : List ℕ) → length (drop (used (b ∷ s)) (b ∷ s)) ≤ length s
less_left b s = rw length-drop (omega (arith, used_some (b ∷ s) (omega arith)))

module _ {A : Type 0} (handle : A → Held → A) where
  -- a turn by which no line is complete, and one by which a line is
  module _ (g : Going A) (piece : List ℕ) where
    pub turn_open : ended piece ≡ false → turn handle g piece ≡ record { buffer = stored g.buffer g.line piece; line = longer (length g.buffer) g.line piece; made = g.made }
    unfolding turn taken
    turn_open e = rw e

    pub turn_ended : ended piece ≡ true
        → turn handle g piece ≡ record { buffer = stored g.buffer g.line piece; line = no_line; made = handle g.made (held_in (stored g.buffer g.line piece) (longer (length g.buffer) g.line piece)) }
    unfolding turn taken
    turn_ended e = rw e

  module _ (ready : A → Bool) where
    turns_enough : (m n : ℕ) (g : Going A) (piece : List ℕ) → length piece ≤ m → length piece ≤ n → turns handle ready m g piece ≡ turns handle ready n g piece
    unfolding turns
    turns_enough zero zero g piece h k = refl
    turns_enough zero (suc n) g [] h k = refl
    turns_enough zero (suc n) g (b ∷ s) h k = absurd (omega arith)
    turns_enough (suc m) zero g [] h k = refl
    turns_enough (suc m) zero g (b ∷ s) h k = absurd (omega arith)
    turns_enough (suc m) (suc n) g [] h k = refl
    turns_enough (suc m) (suc n) g (b ∷ s) h k =
        ap (λ (r : Going A × List ℕ). cond (ready g.made) r (g, b ∷ s))
        (turns_enough m n (turn handle g (b ∷ s)) (drop (used (b ∷ s)) (b ∷ s)) (omega (arith, less_left b s)) (omega (arith, less_left b s)))

    -- the loop ends where nothing is left, or where the program is not ready
    pub through_none : (g : Going A) → through handle ready g [] ≡ (g, [])
    unfolding turns
    through_none g = refl

    pub through_wait : (g : Going A) (piece : List ℕ) → ready g.made ≡ false → through handle ready g piece ≡ (g, piece)
    unfolding turns
    through_wait g [] e = refl
    through_wait g (b ∷ s) e = rw e

    pub through_turn : (g : Going A) (piece : List ℕ) → 1 ≤ length piece → ready g.made ≡ true
        → through handle ready g piece ≡ through handle ready (turn handle g piece) (drop (used piece) piece)
    unfolding turns
    through_turn g [] h e = absurd (omega arith)
    through_turn g (b ∷ s) h e =
        rw e (turns_enough (length s) (length (drop (used (b ∷ s)) (b ∷ s))) (turn handle g (b ∷ s)) (drop (used (b ∷ s)) (b ∷ s)) (less_left b s) (omega arith))

    turns_left : (most : ℕ) (g : Going A) (piece : List ℕ) → length (turns handle ready most g piece).1 ≤ length piece
    unfolding turns
    turns_left zero g piece = omega arith
    turns_left (suc most) g [] = omega arith
    turns_left (suc most) g (b ∷ s) = go (ready g.made) (turns_left most (turn handle g (b ∷ s)) (drop (used (b ∷ s)) (b ∷ s)))
      where
        after : Going A × List ℕ
        after = turns handle ready most (turn handle g (b ∷ s)) (drop (used (b ∷ s)) (b ∷ s))

        go : (t : Bool) → length after.1 ≤ length (drop (used (b ∷ s)) (b ∷ s)) → length (cond t after (g, b ∷ s)).1 ≤ length (b ∷ s)
        go true h = omega (arith, less_left b s)
        go false h = omega arith

    -- a program that is ready uses a byte
    pub through_less : (g : Going A) (piece : List ℕ) → 1 ≤ length piece → ready g.made ≡ true → length (through handle ready g piece).1 < length piece
    through_less g [] h e = absurd (omega arith)
    through_less g (b ∷ s) h e =
        let rest : List ℕ = drop (used (b ∷ s)) (b ∷ s) in
        let l : length (turns handle ready (length rest) (turn handle g (b ∷ s)) rest).1 ≤ length rest = turns_left (length rest) (turn handle g (b ∷ s)) rest in
        rw (through_turn g (b ∷ s) h e) (omega (arith, less_left b s))

  fed_turn : (g : Going A) (b : ℕ) (s : List ℕ) → fed handle g (b ∷ s) ≡ fed handle (turn handle g (b ∷ s)) (drop (used (b ∷ s)) (b ∷ s))
  fed_turn g b s = ap (λ (r : Going A × List ℕ). r.0) (through_turn (λ made. true) g (b ∷ s) (omega arith) refl)

  -- what is left is taken as it would have been
  turns_rest : (ready : A → Bool) (most : ℕ) (g : Going A) (piece : List ℕ) → fed handle g piece ≡ fed handle (turns handle ready most g piece).0 (turns handle ready most g piece).1
  unfolding turns
  turns_rest ready zero g piece = refl
  turns_rest ready (suc most) g [] = refl
  turns_rest ready (suc most) g (b ∷ s) = go (ready g.made) (turns_rest ready most (turn handle g (b ∷ s)) (drop (used (b ∷ s)) (b ∷ s)))
    where
      after : Going A × List ℕ
      after = turns handle ready most (turn handle g (b ∷ s)) (drop (used (b ∷ s)) (b ∷ s))

      go : (t : Bool) → fed handle (turn handle g (b ∷ s)) (drop (used (b ∷ s)) (b ∷ s)) ≡ fed handle after.0 after.1
          → fed handle g (b ∷ s) ≡ fed handle (cond t after (g, b ∷ s)).0 (cond t after (g, b ∷ s)).1
      go true q = fed_turn g b s ∙ q
      go false q = refl

  pub through_rest : (ready : A → Bool) (g : Going A) (piece : List ℕ) → fed handle g piece ≡ fed handle (through handle ready g piece).0 (through handle ready g piece).1
  through_rest ready g piece = turns_rest ready (length piece) g piece
