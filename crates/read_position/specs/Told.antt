-- What an answer says: which tree was parsed, and that the answer is the tree's.
use Rattle.std.specs.Prelude.{ℕ, ◌≡◌, List, None, Some}
use Rattle.std.proofs.Math.Option.{none}
use Rattle.record.specs.declared.Kind.{Kind}
use Rattle.any_location.specs.declared.Position.{Position}
use Rattle.lang_locations.specs.Parse.{parse_position}
use Rattle.read_scan.specs.declared.Found.{Found}
use Rattle.read_scan.specs.Accounts.{Told, told, unread}
use Rattle.read_position.specs.PositionAnswers.{positions, position_answer}

abbrev pub PositionTold : Kind → ℕ → List ℕ → Found Position → Type 0
PositionTold k at s = Told (positions k) at (parse_position k) s

module _ (k : Kind) (at : ℕ) (s : List ℕ) where
  pub position_told : (x : Found Position) → Some x ≡ position_answer k at (parse_position k s) → PositionTold k at s x
  position_told x = told (positions k) at (parse_position k) s

  pub position_unread : None ≡ position_answer k at (parse_position k s) → parse_position k s ≡ none
  position_unread = unread (positions k) at (parse_position k) s
