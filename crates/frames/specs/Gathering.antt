-- What is gathered of a line: its bytes where it is a frame, and nothing where it is bad.
use Rattle.std.specs.Prelude.{ℕ, ◌≡◌, take}
use Rattle.std.proofs.Math.Bool.{false, cond}
use mathlib.Core.List.{List}
use Rattle.std.proofs.Math.Option.{Option, map}
use Rattle.lines.specs.Lines.{Held, Held.whole, Held.too_long, held}
use Rattle.frames.specs.Room.{InRoom}
use Rattle.frames.specs.Taking.{Standing, line_closed, with_state, gathered}

-- a line that is ended
abbrev pub ended : Standing → Standing
ended g = with_state g (line_closed g.state)

-- ---- a good text t, of which the buffer holds what it can
pub record Good (room : ℕ) (t : List ℕ) (g : Standing) : Type 0 where
  pub fits : InRoom room g
  pub good : g.state.bad ≡ false
  pub holds : cond g.state.long too_long (whole (take g.state.len g.buffer)) ≡ held room t

-- what is gathered of a text, and of one with a bad line
abbrev pub gathered_in : ℕ → Option (List ℕ) → Option Held
gathered_in room o = map (held room) o

-- before a line: of a text o, or of one that has a bad line
pub record Open (room : ℕ) (o : Option (List ℕ)) (g : Standing) : Type 0 where
  pub fits : InRoom room g
  pub no_digit : g.state.digits ≡ 0
  pub gathers : gathered g ≡ gathered_in room o
