-- What a program needs of a call of `take`.
use Prim.Native.Nat.{ℕ, ◌≤◌}
use mathlib.Core.Path.{◌≡◌}
use mathlib.Core.List.{List}
use native.Mathlib.Omega.{arith}
use lib.ListN.{length}
use Rattle.lines.specs.declared.Line.{Line}
use Rattle.lines.specs.declared.Taken.{Taken}
use Rattle.lines.specs.Taking.{taken}
use Rattle.lines.proofs.HeldLines.{used_le, used_some, stored_length, longer_within}

module _ (buffer : List ℕ) (line : Line) (piece : List ℕ) {t : Taken} (e : t ≡ taken (length buffer) line piece) where
  -- some of the piece is used
  pub taken_used : (t.used ≤ length piece) × (1 ≤ length piece → 1 ≤ t.used)
  unfolding taken
  taken_used = rw e (used_le piece, used_some piece)

  -- the buffer holds the line
  pub taken_within : line.len ≤ length buffer → t.line.len ≤ length buffer
  unfolding taken
  taken_within h = rw e (omega (arith, longer_within buffer line piece h, stored_length buffer line piece h))
