-- What the tests of the program say of a byte, and the loop over a piece.
use Prim.Native.Nat.{ℕ, suc, ◌+◌, ◌-◌, ◌≤◌, ◌<◌}
use mathlib.Core.Path.{◌≡◌, refl}
use mathlib.Core.Bool.{Bool, true, false}
use mathlib.Core.List.{List, []}
use mathlib.Core.Option.{none, some}
use native.Mathlib.Omega.{arith}
use native.Mathlib.Numerals.{add-one}
use lib.ListN.{length, get_or, drop, drop_of_length-le}
use lib.Seq.{drop-cons}
use borrow.Author.Tests.{le-leb, lt-leb}
use Rattle.alphabet.specs.Cells.{within}
use Rattle.frames.specs.declared.FrameState.{FrameState}
use Rattle.frames.specs.Frames.{digit_value}
use Rattle.frames.specs.Taking.{Standing, closes, with_state, after_byte, Took, behind, takes, told}
use Rattle.frames.proofs.Calls.{same_used}

-- ---- a byte and the bounds of the digits
module _ (b : ℕ) where
  pub below_digits : b < 48 → digit_value b ≡ none
  unfolding digit_value within
  below_digits h = rw (lt-leb 48 b h, lt-leb 65 b (omega arith), lt-leb 97 b (omega arith))

  pub decimal_digit : 48 ≤ b → b ≤ 57 → digit_value b ≡ some (b - 48)
  unfolding digit_value within
  decimal_digit h k = rw (le-leb 48 b h, le-leb b 57 k)

  pub below_upper : 57 < b → b < 65 → digit_value b ≡ none
  unfolding digit_value within
  below_upper h k = rw (le-leb 48 b (omega arith), lt-leb b 57 h, lt-leb 65 b k, lt-leb 97 b (omega arith))

  pub upper_digit : 65 ≤ b → b ≤ 70 → digit_value b ≡ some (b - 65 + 10)
  unfolding digit_value within
  upper_digit h k = rw (le-leb 48 b (omega arith), lt-leb b 57 (omega arith), le-leb 65 b h, le-leb b 70 k)

  pub below_lower : 70 < b → b < 97 → digit_value b ≡ none
  unfolding digit_value within
  below_lower h k = rw (le-leb 48 b (omega arith), lt-leb b 57 (omega arith), le-leb 65 b (omega arith), lt-leb b 70 h, lt-leb 97 b k)

  pub lower_digit : 97 ≤ b → b ≤ 102 → digit_value b ≡ some (b - 97 + 10)
  unfolding digit_value within
  lower_digit h k = rw (le-leb 48 b (omega arith), lt-leb b 57 (omega arith), le-leb 65 b (omega arith), lt-leb b 70 (omega arith), le-leb 97 b h, le-leb b 102 k)

  pub above_digits : 102 < b → digit_value b ≡ none
  unfolding digit_value within
  above_digits h = rw (le-leb 48 b (omega arith), lt-leb b 57 (omega arith), le-leb 65 b (omega arith), lt-leb b 70 (omega arith), le-leb 97 b (omega arith), lt-leb b 102 h)

-- a state that a part of the program gives, and what it is to be
pub with_state_lem : (g : Standing) {after : Standing} {r s : FrameState} → after ≡ with_state g s → r ≡ s → with_state g r ≡ after
with_state_lem g e q = rw (e, q)

-- ---- the loop: what is taken of the whole piece is what was used and what is taken of the rest
module _ (g : Standing) (piece : List ℕ) (i : ℕ) where
  pub takes_stop : i < length piece → closes g.state (get_or piece i 0) ≡ true → behind i (takes g (drop i piece)) ≡ record { used = i + 1; ended = true; at = g }
  unfolding takes
  takes_stop h e = rw (drop-cons piece i 0 h, e)

  pub takes_more : i < length piece → closes g.state (get_or piece i 0) ≡ false → behind i (takes g (drop i piece)) ≡ behind (i + 1) (takes (after_byte g (get_or piece i 0)) (drop (i + 1) piece))
  unfolding takes
  takes_more h e = rw (add-one, drop-cons piece i 0 h, e) (same_used (takes (after_byte g (get_or piece i 0)) (drop (suc i) piece)) (omega arith))

  pub takes_end : length piece ≤ i → behind i (takes g (drop i piece)) ≡ record { used = i; ended = false; at = g }
  unfolding takes
  takes_end h = rw (drop_of_length-le piece h) (same_used (takes g []) (omega arith))

-- what is told of it
pub told_of : (t : Took) {g : Standing} {n : ℕ} {b : Bool} → t ≡ record { used = n; ended = b; at = g } → (record { used = n; ended = b; state = g.state } ≡ told t) × (g.buffer ≡ t.at.buffer)
told_of t e = rw e (refl, refl)
