-- How long a refusal is.
use Prim.Native.Nat.{ℕ, ◌+◌}
use mathlib.Core.Path.{◌≡◌}
use native.Mathlib.Omega.{arith}
use lib.ListN.{length, length-append}
use Rattle.numerals.specs.Digits.{dec}
use Rattle.line_promise.specs.LineAnswers.{refusal}

pub refusal_length : (n place : ℕ) → length (refusal n place) ≡ 2 + (length (dec n) + (1 + length (dec place)))
unfolding refusal
refusal_length n place = simp length-append (omega arith)
