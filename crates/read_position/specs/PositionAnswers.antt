-- What the routines give for what was found: the position with its spans, its length, and its faults.
use Rattle.std.specs.Prelude as Prelude
use Rattle.std.specs.Prelude.{ℕ, true}
use Rattle.std.proofs.Math.Option.{Option}
use Rattle.record.specs.declared.Kind.{Kind}
use Rattle.grammar.specs.Positions.{PositionTree, print_position}
use Rattle.grammar.specs.Numbers.{position_numbers}
use Rattle.any_location.specs.declared.Position.{Position}
use Rattle.any_location.specs.OfTree.{position_of}
use Rattle.read_scan.specs.declared.Found.{Found}
use Rattle.read_scan.specs.Accounts.{Account, answered}

abbrev pub positions : (k : Kind) → Account (PositionTree k) Position
positions k = record { read_at = position_of k; print = print_position k; numbers_at = position_numbers k; settled = λ t. true }

abbrev pub position_answer : (k : Kind) → ℕ → Option (PositionTree k) → Prelude.Option (Found Position)
position_answer k = answered (positions k)
