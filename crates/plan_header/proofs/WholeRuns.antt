-- A text is one as a whole exactly where what was counted at its front is as long as it.
use Prim.Native.Nat.{ℕ}
use mathlib.Core.Path.{◌≡◌, refl, sym}
use mathlib.Core.List.{List, [], ◌∷◌}
use mathlib.Core.Option.{Option, none, some}
use mathlib.Core.Bool.{Bool, true, false, cond}
use native.Mathlib.Omega.{arith}
use lib.Dec.{eqb}
use lib.ListN.{length}
use borrow.Author.Tests.{ne_eqb, le-leb}
use Rattle.texts.specs.Runs.{run}
use Rattle.texts.proofs.Runs.{run_every}
use Rattle.alphabet.specs.Letters.{alphanumeric}
use Rattle.alphabet.specs.Classes.{member}
use Rattle.alphabet.specs.declared.Class.TheVariants.{Alphanumeric}
use Rattle.grammar.specs.Header.{Accession, print_accession}
use Rattle.lang.specs.Whole.{ended, whole}
use Rattle.lang_headers.specs.Parse.{parse_accession}
use Rattle.lang_headers.proofs.Sound.{accession_lang}
use Rattle.header_lengths.specs.Lengths.{accession_length}
use Rattle.plan_header.specs.HeaderText.{is_some, is_name}

module _ (s : List ℕ) where
  -- a text that was counted, or not, and is not empty
  counted : (o : Option Accession) → (length s ≡ 0 → ⊥) → eqb (accession_length o) (length s) ≡ is_some (ended accession_lang s o)
  counted none h = ne_eqb 0 (length s) (λ e. h (sym e))
  counted (some t) h = go (eqb (length (print_accession t)) (length s))
    where
      go : (b : Bool) → b ≡ is_some (cond b (some t) none)
      go true = refl
      go false = refl

  pub accession_whole : (length s ≡ 0 → ⊥) → {n : ℕ} → n ≡ accession_length (parse_accession s) → eqb n (length s) ≡ is_some (whole accession_lang s)
  unfolding whole
  accession_whole h e = rw e (counted (parse_accession s) h)

  pub name_whole : (length s ≡ 0 → ⊥) → {n : ℕ} → n ≡ run (member Alphanumeric) s → eqb n (length s) ≡ is_name s
  unfolding member
  name_whole h e = rw (e, le-leb 1 (length s) (omega (arith, h))) (run_every alphanumeric s)

-- an empty text is neither
pub accession_empty : (s : List ℕ) → length s ≡ 0 → false ≡ is_some (whole accession_lang s)
unfolding whole parse_accession
accession_empty [] h = refl
accession_empty (b ∷ s) h = absurd (omega arith)

pub name_empty : (s : List ℕ) → length s ≡ 0 → false ≡ is_name s
name_empty [] h = refl
name_empty (b ∷ s) h = absurd (omega arith)
