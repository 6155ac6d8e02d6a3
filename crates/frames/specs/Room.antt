-- A byte leaves the buffer as long as it is, and a text that lies within it goes on to.
use Rattle.std.specs.Prelude.{ℕ, ◌≤◌, ◌≡◌, length}
use Rattle.frames.specs.Taking.{Standing}

-- ---- the bytes of a text, and those of a call
pub record InRoom (room : ℕ) (g : Standing) : Type 0 where
  pub room_is : length g.buffer ≡ room
  pub within : g.state.len ≤ room
