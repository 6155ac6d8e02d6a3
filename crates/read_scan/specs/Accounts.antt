-- What a routine answers for the tree that it found, or where there is none; and what such an answer says.
use Rattle.std.specs.Prelude as Prelude
use Rattle.std.specs.Prelude.{ℕ, ◌≡◌, List, Bool, true, length, None, Some}
use Rattle.std.proofs.Common.{sym, ap}
use Rattle.std.proofs.lemmas.Option.{none-some, same_Some}
use Rattle.std.proofs.Math.Option.{Option, none, some}
use Rattle.grammar.specs.Numbers.{Numeral, misfit, not_plain}
use Rattle.lang.proofs.ByParsed.{by_answer}
use Rattle.read_scan.specs.declared.Faults.{Faults}
use Rattle.read_scan.specs.declared.Found.{Found}
use Rattle.read_scan.specs.declared.Verdict.TheVariants.{NotPlain, DoesNotFit}
use Rattle.read_scan.specs.Faults.{none as no_faults, faults, verdict, is_plain_verdict, verdict_unfit, verdict_not_plain, verdict_plain}

abbrev pub found : {Value : Type 0} → Value → ℕ → Faults → Prelude.Option (Found Value)
found v n f = Some (record { value = v; len = n; faults = f })

-- with nothing wrong
abbrev pub plain : {Value : Type 0} → Value → ℕ → Found Value
plain v n = record { value = v; len = n; faults = no_faults }

-- what there is to say of a tree: what it is read as where it stands at a place, its text, its numbers there, and whether it is settled
pub record Account (Tree Value : Type 0) : Type 0 where
  pub read_at : ℕ → Tree → Value
  pub print : Tree → List ℕ
  pub numbers_at : ℕ → Tree → List Numeral
  pub settled : Tree → Bool

-- nothing, or what was found, how long its text is, and its faults
unfoldable pub answered : {Tree Value : Type 0} → Account Tree Value → ℕ → Option Tree → Prelude.Option (Found Value)
answered A k none = None
answered A k (some t) = found (A.read_at k t) (length (A.print t)) (faults (A.numbers_at k t) (A.settled t))

-- the two cases are told apart, and what was found can be seen from them
pub record Cases {Value Answer : Type 0} (nothing : Answer) (found : Value → ℕ → Faults → Answer) : Type 0 where
  pub apart : {v : Value} {n : ℕ} {f : Faults} → found v n f ≡ nothing → ⊥
  pub same : {v w : Value} {n m : ℕ} {f g : Faults} → found v n f ≡ found w m g → (v ≡ w) × (n ≡ m) × (f ≡ g)

pub found_cases : {Value : Type 0} → Cases {Value = Value} None found
found_cases {Value = Value} =
    record {
      apart = λ e. none-some _ (sym e);
      same = λ e. let i = same_Some _ _ e in (ap (λ (y : Found Value). y.value) i, ap (λ (y : Found Value). y.len) i, ap (λ (y : Found Value). y.faults) i);
    }

pub record Told {Tree Value : Type 0} (A : Account Tree Value) (k : ℕ) (parse : List ℕ → Option Tree) (s : List ℕ) (x : Found Value) : Type 0 where
  pub tree : Tree
  pub parsed : parse s ≡ some tree
  pub means : x.value ≡ A.read_at k tree
  pub long : x.len ≡ length (A.print tree)
  pub wrong : x.faults ≡ faults (A.numbers_at k tree) (A.settled tree)

module _ {Tree Value : Type 0} (A : Account Tree Value) (k : ℕ) (parse : List ℕ → Option Tree) (s : List ℕ) where
  pub told : {x : Found Value} → Some x ≡ answered A k (parse s) → Told A k parse s x
  unfolding answered
  told {x} e =
      by_answer (answered A k) (parse s) e (λ q z. absurd (found_cases.apart z))
      (λ t q z. let i = found_cases.same z in record { tree = t; parsed = q; means = i.0; long = i.1; wrong = i.2 })

  pub unread : None ≡ answered A k (parse s) → parse s ≡ none
  unfolding answered
  unread e = by_answer (answered A k) (parse s) e (λ q z. q) (λ t q z. absurd (found_cases.apart (sym z)))

-- ---- the places that are handed on: of the leftmost number that does not fit; where all fit, of the leftmost that is not plain
module _ {Tree Value : Type 0} {A : Account Tree Value} {k : ℕ} {parse : List ℕ → Option Tree} {s : List ℕ} {x : Found Value} (t : Told A k parse s x) where
  abbrev numbers : List Numeral
  numbers = A.numbers_at k t.tree

  pub told_unfit : {place : ℕ} → verdict x.faults ≡ DoesNotFit place → misfit numbers ≡ some place
  told_unfit e = verdict_unfit numbers (A.settled t.tree) (rw t.wrong at e)

  pub told_not_plain : {place : ℕ} → verdict x.faults ≡ NotPlain place → (misfit numbers ≡ none) × (not_plain numbers ≡ some place)
  told_not_plain e = verdict_not_plain numbers (A.settled t.tree) (rw t.wrong at e)

  pub told_plain : is_plain_verdict (verdict x.faults) ≡ true → (misfit numbers ≡ none) × (not_plain numbers ≡ none)
  told_plain h = verdict_plain numbers (A.settled t.tree) (rw t.wrong at h)
