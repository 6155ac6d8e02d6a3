-- A step of a program that writes into lent room: calls of `take`, each answer behind the one before, while there is room for one more.
use Rattle.std.specs.Prelude.{ℕ, ◌+◌, Bool, leb}
use mathlib.Core.List.{List}
use Rattle.std.proofs.Math.ListN.{length}
use Rattle.lines.specs.declared.Line.{Line}
use Rattle.lines.specs.declared.Progress.{Progress}
use Rattle.lines.specs.Lines.{Held}
use Rattle.lines.specs.Taking.{used}
use Rattle.lines.specs.Feeding.{line_after, fed, writes, clear, said}

-- ---- one call of `take`
module _ (answer : Held → List ℕ) (buffer : List ℕ) (line : Line) (piece : List ℕ) where
  -- where the program stands behind it
  unfoldable pub went_to : ℕ → Progress
  went_to at = record { used = used piece; line = line_after buffer line piece; at = at + length (said answer buffer line piece) }

-- ---- a step: there is room for an answer of `most` bytes, LF included
abbrev pub room_for : ℕ → ℕ → List ℕ → Bool
room_for most room made = leb (length made + most) room

-- ---- a whole piece, step by step: the buffer and the line so far behind it
abbrev pub state_after : (Held → List ℕ) → List ℕ → Line → List ℕ → List ℕ × Line
state_after answer buffer line piece = ((fed (writes answer) (clear buffer line) piece).buffer, (fed (writes answer) (clear buffer line) piece).line)
