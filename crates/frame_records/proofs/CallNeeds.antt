-- What the program needs of a call.
use Prim.Native.Nat.{ℕ, ◌≤◌}
use mathlib.Core.List.{List}
use mathlib.Core.Option.{Option}
use lib.ListN.{length}
use Rattle.frames.specs.Taking.{Standing}
use Rattle.frames.proofs.Calls.{used_within, used_some}
use Rattle.frame_promise.specs.FrameAnswers.{Answer, Feeds}

-- some of the piece is used
pub fed_used : (g : Standing) (piece : List ℕ) {used len : ℕ} {answer : Option Answer} {after : Standing} → Feeds g piece used len answer after → (used ≤ length piece) × (1 ≤ length piece → 1 ≤ used)
fed_used g piece f = rw f.used_is (used_within g piece, used_some g piece)
