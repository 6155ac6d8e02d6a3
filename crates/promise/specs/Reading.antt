-- What reading a text answers: checks 1, 2, 3. Over the nucleotide letters of each kind.
use Rattle.std.specs.Prelude.{ℕ, ◌≤◌, ◌<◌, ◌≡◌, List, Bool, length}
use Rattle.std.proofs.Math.Option.{Option, none, some}
use Rattle.record.specs.declared.Kind.{Kind}
use Rattle.record.specs.declared.HgvsVariant.{HgvsVariant}
use Rattle.grammar.specs.Texts.{Text, print, Wf}
use Rattle.grammar.specs.Records.{record_at}
use Rattle.grammar.specs.Numbers.{misfit, numbers_at, FaultlessText}
use Rattle.promise.specs.Outcome.{Outcome, Outcome.given, Outcome.refused, limit}

-- what a text that is not too long is answered with: one without tree, and one with its tree
abbrev misfit_outcome : Text → Option ℕ → Outcome HgvsVariant
misfit_outcome x none = given (record_at 0 x)
misfit_outcome x (some place) = refused 3 place

abbrev pub tree_outcome : Option Text → Outcome HgvsVariant
tree_outcome none = refused 2 0
tree_outcome (some x) = misfit_outcome x (misfit (numbers_at 0 x))

module _ (letters : Kind → ℕ → Bool) where
  -- x is a tree of the text t
  pub record TreeOf (t : List ℕ) (x : Text) : Type 0 where
    pub wf : Wf letters x
    pub text : print x ≡ t

  pub data Reads (t : List ℕ) : Outcome HgvsVariant → Type 0 where
    too_long : limit < length t → Reads t (refused 1 0)
    not_in_grammar : length t ≤ limit → ((x : Text) → TreeOf t x → ⊥) → Reads t (refused 2 0)
    does_not_fit : length t ≤ limit → (x : Text) → TreeOf t x → (place : ℕ) → misfit (numbers_at 0 x) ≡ some place → Reads t (refused 3 place)
    accepted : length t ≤ limit → (x : Text) → TreeOf t x → FaultlessText x → Reads t (given (record_at 0 x))
