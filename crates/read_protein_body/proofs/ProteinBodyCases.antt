-- What a body of p answers: one of the texts without location, else location and edit.
use Prim.Native.Nat.{ℕ}
use mathlib.Core.Path.{◌≡◌, refl, sym, ◌∙◌}
use mathlib.Core.List.{List, [], ◌∷◌}
use mathlib.Core.Option.{none, some}
use mathlib.Core.Bool.{Bool, true, false, not, cond}
use native.Mathlib.Omega.{arith}
use lib.ListN.{length}
use borrow.Author.Tests.{eq-eqb, ne_eqb}
use Rattle.texts.specs.Ascii.{ascii}
use Rattle.texts.specs.Words.{starts, same}
use Rattle.texts.proofs.Words.{same_true}
use Rattle.record.specs.declared.Kind.TheVariants.{Prot}
use Rattle.record.specs.declared.ProtLocEdit.{ProtLocEdit}
use Rattle.grammar.specs.Bodies.{ProteinBody, print_protein_body}
use Rattle.grammar.specs.Records.{protein_body_at}
use Rattle.grammar.specs.Numbers.{protein_body_numbers}
use Rattle.lang.proofs.ByParsed.{by_answer}
use Rattle.lang_bodies.specs.ProteinBodies.{exact_bodies, first_exact, parse_ordinary, parse_protein_body}
use Rattle.lang_bodies.specs.Settled.{settled_protein_body}
use Rattle.read_scan.specs.declared.Faults.{Faults}
use Rattle.read_scan.specs.Faults.{faults, settled_if, none as noFaults, settled_none}
use Rattle.any_body.specs.declared.AnyBody.TheVariants.{Protein}
use Rattle.read_na_body.specs.NaBodyAnswers.{body_answer}
use Rattle.std.specs.Prelude.{None, Some}
use Rattle.read_scan.specs.declared.Found.{Found}
use Rattle.read_protein_change.specs.ProteinChangeAnswers.{ordinary_answer}
use Rattle.read_protein_change.specs.Told.{OrdinaryTold, ordinary_unread}
use Rattle.read_protein_body.specs.ExactAnswers.{exact_answer}

-- ---- the texts without location
pub record ExactTold (s : List ℕ) (b : ProtLocEdit) : Type 0 where
  pub tree : ProteinBody
  pub parsed : first_exact exact_bodies s ≡ some tree
  pub means : b ≡ protein_body_at 0 tree

pub exact_told : (s : List ℕ) (b : ProtLocEdit) → Some b ≡ exact_answer (first_exact exact_bodies s) → ExactTold s b
exact_told s b h =
    by_answer exact_answer (first_exact exact_bodies s) h (λ q z. absurd (let y : ◌≡◌ {A = ℕ} 0 1 = cc in omega arith))
    (λ t q z. record { tree = t; parsed = q; means = cc })

pub exact_none : (s : List ℕ) → None ≡ exact_answer (first_exact exact_bodies s) → first_exact exact_bodies s ≡ none
exact_none s h = by_answer exact_answer (first_exact exact_bodies s) h (λ q z. q) (λ t q z. absurd (let y : ◌≡◌ {A = ℕ} 0 1 = cc in omega arith))

-- a body without location has no place and no number, and is settled where its text is in no brackets
record Exact (b : ProteinBody) : Type 0 where
  place : (k : ℕ) → protein_body_at k b ≡ protein_body_at 0 b
  numbers : (k : ℕ) → protein_body_numbers k b ≡ []
  settled : settled_protein_body b ≡ not (starts (ascii "(") (print_protein_body b))

abbrev AllExact : List ProteinBody → Type 0
AllExact [] = Unit
AllExact (b ∷ bs) = Exact b × AllExact bs

which_exact : (bs : List ProteinBody) (s : List ℕ) (t : ProteinBody) → AllExact bs → first_exact bs s ≡ some t → Exact t × (print_protein_body t ≡ s)
unfolding first_exact
which_exact [] s t w h = absurd (let z : ◌≡◌ {A = ℕ} 0 1 = cc in omega arith)
which_exact (b ∷ bs) s t w h = go (same (print_protein_body b) s) refl h (which_exact bs s t w.1)
  where
    go : (x : Bool) → same (print_protein_body b) s ≡ x → cond x (some b) (first_exact bs s) ≡ some t → (first_exact bs s ≡ some t → Exact t × (print_protein_body t ≡ s)) → Exact t × (print_protein_body t ≡ s)
    go true q k rest = let j : b ≡ t = cc in rw (← j) (w.0, same_true (print_protein_body b) s q)
    go false q k rest = rest k

all_exact : AllExact exact_bodies
unfolding starts
all_exact =
    let exact : (b : ProteinBody) → ((k : ℕ) → protein_body_at k b ≡ protein_body_at 0 b) → ((k : ℕ) → protein_body_numbers k b ≡ []) → settled_protein_body b ≡ not (starts (ascii "(") (print_protein_body b)) → Exact b = λ b p n q. record { place = p; numbers = n; settled = q } in
    (exact _ (λ k. refl) (λ k. refl) refl, (exact _ (λ k. refl) (λ k. refl) refl, (exact _ (λ k. refl) (λ k. refl) refl, (exact _ (λ k. refl) (λ k. refl) refl, (exact _ (λ k. refl) (λ k. refl) refl, (exact _ (λ k. refl) (λ k. refl) refl, (exact _ (λ k. refl) (λ k. refl) refl, tt)))))))

module _ (at : ℕ) (s : List ℕ) where
  pub exact_found : (b : ProtLocEdit) (w : Faults) (opened : Bool) → ExactTold s b → opened ≡ starts (ascii "(") s → w ≡ settled_if (not opened) noFaults → Some (Protein b, w) ≡ body_answer Prot at (parse_protein_body s)
  unfolding body_answer parse_protein_body
  exact_found b w opened x eo ew =
      let t = x.tree in
      let p = which_exact exact_bodies s t all_exact x.parsed in
      let a : b ≡ protein_body_at at t = x.means ∙ sym (p.0.place at) in
      let e : settled_protein_body t ≡ not opened = p.0.settled ∙ rw (eo, ← p.1) in
      let c : w ≡ faults (protein_body_numbers at t) (settled_protein_body t) = ew ∙ rw (p.0.numbers at, e) (settled_none (not opened)) in
      rw (x.parsed, a, c)

  module _ (none_exact : first_exact exact_bodies s ≡ none) where
    pub body_none : None ≡ ordinary_answer at (parse_ordinary s) → None ≡ body_answer Prot at (parse_protein_body s)
    unfolding body_answer parse_protein_body
    body_none h = rw (none_exact, ordinary_unread at s h)

    module _ {c : Found ProtLocEdit} (x : OrdinaryTold at s c) where
      pub body_open : (c.len ≡ length s → ⊥) → None ≡ body_answer Prot at (parse_protein_body s)
      unfolding body_answer parse_protein_body
      body_open h = rw (none_exact, x.parsed, ne_eqb (length (print_protein_body x.tree)) (length s) (λ e. h (x.long ∙ e)))

      pub body_found : c.len ≡ length s → Some (Protein c.value, c.faults) ≡ body_answer Prot at (parse_protein_body s)
      unfolding body_answer parse_protein_body
      body_found h = rw (none_exact, x.parsed, eq-eqb (length (print_protein_body x.tree)) (length s) (sym x.long ∙ h), x.means, x.wrong)
