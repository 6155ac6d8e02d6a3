-- From the answer for what stands behind an opening bracket, or at the front where there is none, to the answer for it in brackets or not.
use Rattle.std.specs.Prelude as Prelude
use Rattle.std.specs.Prelude.{ℕ, ◌+◌, ◌≤◌, ◌≡◌, List, Bool, length, drop, None, Some}
use Rattle.std.proofs.Common.{ap, ◌∙◌, add-zero}
use Rattle.std.proofs.Math.Option.{none, some}
use Rattle.texts.specs.Slices.{tail}
use Rattle.texts.proofs.Slices.{tail_part}
use Rattle.texts.specs.Brackets.{opening}
use Rattle.grammar.specs.Shapes.{Mu, Mu.certain, Mu.uncertain, print_mu}
use Rattle.grammar.specs.Numbers.{Numeral, mu_numbers}
use Rattle.lang.specs.Lang.{Lang}
use Rattle.lang.specs.MuLang.{parse_mu}
use Rattle.lang.specs.MuCanon.{settled_mu}
use Rattle.lang.proofs.MuReading as Reading
use Rattle.read_scan.specs.declared.Faults.{Faults}
use Rattle.read_scan.specs.declared.Found.{Found}
use Rattle.read_scan.specs.declared.Ending.TheVariants.{Bare, Closed, Missing}
use Rattle.read_scan.specs.Faults.{faults}
use Rattle.read_scan.specs.Accounts.{Account, found, answered, Told, told, unread}
use Rattle.read_scan.specs.Closing.{closing, bare_closing, closed_closing, missing_closing}

-- what the answers within are of, and how a value is made certain or uncertain
pub record Bracketed (L : Lang) : Type 1 where
  pub Value : Type 0
  pub MuValue : Type 0
  pub read_at : ℕ → L.Tree → Value
  pub numbers_at : ℕ → L.Tree → List Numeral
  pub settled : L.Tree → Bool
  pub mu_read_at : ℕ → Mu L.Tree → MuValue
  pub sure : Value → MuValue
  pub unsure : Value → MuValue
  pub read_sure : (k : ℕ) (t : L.Tree) → sure (read_at k t) ≡ mu_read_at k (certain t)
  pub read_unsure : (k : ℕ) (t : L.Tree) → unsure (read_at (k + 1) t) ≡ mu_read_at k (uncertain t)

module _ {L : Lang} (B : Bracketed L) where
  abbrev pub account : Account L.Tree B.Value
  account = record { read_at = B.read_at; print = L.print; numbers_at = B.numbers_at; settled = B.settled }

  abbrev pub mu_account : Account (Mu L.Tree) B.MuValue
  mu_account = record { read_at = B.mu_read_at; print = print_mu L.print; numbers_at = mu_numbers B.numbers_at; settled = settled_mu B.settled }

  -- a is how long the opening bracket is
  module _ (k : ℕ) (s : List ℕ) (a : ℕ) (ea : a ≡ opening s) where
    abbrev Answered : Prelude.Option (Found B.MuValue) → Type 0
    Answered r = r ≡ answered mu_account k (parse_mu L s)

    is_lost : parse_mu L s ≡ none → Answered None
    unfolding answered
    is_lost e = rw e

    is_made : (t : Mu L.Tree) (v : B.MuValue) (n : ℕ) (f : Faults) → parse_mu L s ≡ some t → v ≡ B.mu_read_at k t → n ≡ length (print_mu L.print t)
        → f ≡ faults (mu_numbers B.numbers_at k t) (settled_mu B.settled t) → Answered (found v n f)
    unfolding answered
    is_made t v n f e ev en ef = rw (e, ev, en, ef)

    pub mu_none : None ≡ answered account (k + a) (L.parse (tail a s)) → Answered None
    mu_none e = is_lost (Reading.mu_none L s a ea (unread account (k + a) L.parse (drop a s) (rw (tail_part a s) at e)))

    module _ (x : Found B.Value) (e : Some x ≡ answered account (k + a) (L.parse (tail a s))) where
      inner : Told account (k + a) L.parse (drop a s) x
      inner = told account (k + a) L.parse (drop a s) (rw (tail_part a s) at e)

      faults_at : (i : ℕ) → k + a ≡ i → x.faults ≡ faults (B.numbers_at i inner.tree) (B.settled inner.tree)
      faults_at i p = inner.wrong ∙ ap (λ (j : ℕ). faults (B.numbers_at j inner.tree) (B.settled inner.tree)) p

      value_at : (i : ℕ) → k + a ≡ i → x.value ≡ B.read_at i inner.tree
      value_at i p = inner.means ∙ ap (λ (j : ℕ). B.read_at j inner.tree) p

      pub mu_le : a + x.len ≤ length s
      mu_le = Reading.mu_le L s a ea inner.tree x.len inner.parsed inner.long

      pub mu_bare : Bare ≡ closing s a x.len → Answered (found (B.sure x.value) x.len x.faults)
      mu_bare c =
          let z = bare_closing s a x.len c in
          let place : k + a ≡ k = rw z (add-zero k) in
          is_made (certain inner.tree) (B.sure x.value) x.len x.faults (Reading.mu_bare L s a ea inner.tree x.len inner.parsed inner.long z)
          (ap B.sure (value_at k place) ∙ B.read_sure k inner.tree)
          inner.long
          (faults_at k place)

      pub mu_closed : (m : ℕ) → Closed m ≡ closing s a x.len → Answered (found (B.unsure x.value) m x.faults)
      mu_closed m c =
          let z = closed_closing s a x.len m c in
          let place = Reading.mu_place L s a ea inner.tree x.len inner.parsed inner.long z.0 k in
          is_made (uncertain inner.tree) (B.unsure x.value) m x.faults (Reading.mu_shut L s a ea inner.tree x.len inner.parsed inner.long z.0 z.1)
          (ap B.unsure (value_at (k + 1) place) ∙ B.read_unsure k inner.tree)
          (z.2 ∙ Reading.mu_length L s a ea inner.tree x.len inner.parsed inner.long z.0)
          (faults_at (k + 1) place)

      pub mu_missing : Missing ≡ closing s a x.len → Answered None
      mu_missing c =
          let z = missing_closing s a x.len c in
          is_lost (Reading.mu_left L s a ea inner.tree x.len inner.parsed inner.long z.0 z.1)
