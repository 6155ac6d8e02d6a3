-- What an answer says: which tree was parsed, and that the answer is the tree's.
use Rattle.std.specs.Prelude.{ℕ, ◌≡◌, List, None, Some}
use Rattle.std.proofs.Math.Option.{none}
use Rattle.record.specs.declared.ProtLocEdit.{ProtLocEdit}
use Rattle.lang_bodies.specs.ProteinBodies.{parse_ordinary}
use Rattle.read_scan.specs.declared.Found.{Found}
use Rattle.read_scan.specs.Accounts.{Told, told, unread}
use Rattle.read_protein_change.specs.ProteinChangeAnswers.{protein_bodies, ordinary_answer}

abbrev pub OrdinaryTold : ℕ → List ℕ → Found ProtLocEdit → Type 0
OrdinaryTold at s = Told protein_bodies at parse_ordinary s

module _ (at : ℕ) (s : List ℕ) where
  pub ordinary_told : (x : Found ProtLocEdit) → Some x ≡ ordinary_answer at (parse_ordinary s) → OrdinaryTold at s x
  ordinary_told x = told protein_bodies at parse_ordinary s

  pub ordinary_unread : None ≡ ordinary_answer at (parse_ordinary s) → parse_ordinary s ≡ none
  ordinary_unread = unread protein_bodies at parse_ordinary s
