-- What is taken of the whole piece is the bytes passed and what is taken of the rest.
use mathlib.Core.Path.{◌≡◌}
use lib.ListN.{drop}
use Rattle.frames.specs.Taking.{behind, takes}
use Rattle.frame_take.proofs.take.Given as goal

abbrev pub invariant-loop-i : goal.invariant-loop-i
invariant-loop-i l = takes (record { state = l.initial.state; buffer = l.initial.buffer }) l.piece ≡ behind l.i (takes (record { state = l.state; buffer = l.buffer }) (drop l.i l.piece))
