-- Lines of an input that is put together, and what a buffer holds of a line that grows.
use Rattle.std.specs.Prelude.{ℕ, ◌≤◌, ◌≡◌, List}
use Rattle.std.proofs.Math.ListN.{length}
use Rattle.lines.specs.declared.Line.{Line}
use Rattle.lines.specs.Lines.{held}
use Rattle.lines.specs.Taking.{held_in}

-- ---- the line so far is l, and a piece brings more of it
pub record Holds (buffer : List ℕ) (line : Line) (l : List ℕ) : Type 0 where
  pub within : line.len ≤ length buffer
  pub held_is : held_in buffer line ≡ held (length buffer) l
