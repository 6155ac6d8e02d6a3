-- Laws of bodies: what reading location and edit one after the other answers.
use Prim.Native.Nat.{ℕ, ◌+◌, ◌-◌, ◌≤◌}
use mathlib.Core.Path.{◌≡◌, sym, ap, ◌∙◌}
use mathlib.Core.List.{List}
use mathlib.Core.Option.{none, some}
use native.Mathlib.Omega.{arith}
use lib.ListN.{length, take, drop, length-append, length-drop}
use borrow.Author.Tests.{eq-eqb, ne_eqb}
use Rattle.texts.proofs.Slices.{tail_part, tail_at}
use Rattle.alphabet.specs.Letters.{nucleotide}
use Rattle.record.specs.declared.Kind.{Kind}
use Rattle.record.specs.declared.MuNaEdit.{MuNaEdit}
use Rattle.grammar.specs.Shapes.{Both.both, print_mu}
use Rattle.grammar.specs.NucleotideEdits.{print_na_edit}
use Rattle.grammar.specs.Bodies.{print_location, print_na_body}
use Rattle.grammar.specs.Numbers.{mu_numbers, ends_numbers, na_edit_numbers, na_body_numbers}
use Rattle.lang.proofs.Lang.{within}
use Rattle.lang.specs.Whole.{whole}
use Rattle.lang.specs.BothLang.{parse_both}
use Rattle.lang.specs.MuCanon.{settled_mu}
use Rattle.lang_locations.proofs.Languages.{location_lang}
use Rattle.lang_locations.specs.Settled.{settled_location}
use Rattle.lang_na_edits.proofs.Alphabet.{nucleotides}
use Rattle.lang_na_edits.proofs.Bracketing.{mu_na_edit_lang}
use Rattle.lang_na_edits.specs.Settled.{settled_na_edit}
use Rattle.lang_bodies.proofs.NaBodies.{na_body_lang}
use Rattle.lang_bodies.specs.Settled.{settled_na_body}
use Rattle.read_scan.specs.declared.Faults.{Faults}
use Rattle.read_scan.specs.Faults.{faults, first, faults_append}
use Rattle.any_location.specs.declared.Location as Raw
use Rattle.any_body.specs.declared.AnyBody.TheVariants.{Nucleotide}
use Rattle.read_location.specs.Told.{LocationTold, location_within}
use Rattle.read_na_edit.specs.Told.{MuTold}
use Rattle.std.specs.Prelude as Prelude
use Rattle.std.specs.Prelude.{None, Some}
use Rattle.read_scan.specs.declared.Found.{Found}
use Rattle.any_body.specs.declared.AnyBody.{AnyBody}
use Rattle.read_na_body.specs.NaBodyAnswers.{na_body_of, na_answer}

module _ (k : Kind) (at : ℕ) (s : List ℕ) where
  abbrev pub answer : Prelude.Option (AnyBody × Faults)
  answer = na_answer k at (whole (na_body_lang nucleotide nucleotides k) s)

  pub no_location : (location_lang k).parse s ≡ none → None ≡ answer
  unfolding na_answer whole parse_both
  no_location e = rw e

  module _ {l : Found Raw.Location} (x : LocationTold k at s l) where
    -- what is behind the location
    rest : take (length s - l.len) (drop l.len s) ≡ drop (length (print_location k x.tree)) s
    rest = tail_at s x.long

    pub no_edit : (mu_na_edit_lang nucleotide nucleotides).parse (take (length s - l.len) (drop l.len s)) ≡ none → None ≡ answer
    unfolding na_answer whole parse_both
    no_edit e = rw (x.parsed, rw rest at e)

    module _ {d : Found MuNaEdit} (y : MuTold (at + l.len) (take (length s - l.len) (drop l.len s)) d) where
      pub edit_le : l.len + d.len ≤ length s
      edit_le =
          let h = within (mu_na_edit_lang nucleotide nucleotides) (take (length s - l.len) (drop l.len s)) y.tree y.parsed in
          omega (arith, y.long, ap length (tail_part l.len s), length-drop l.len s, location_within k x)

      both_long : length (print_na_body k (both x.tree y.tree)) ≡ l.len + d.len
      both_long = length-append (print_location k x.tree) (print_mu print_na_edit y.tree) ∙ rw (x.long, y.long)

      found : parse_both (location_lang k) (mu_na_edit_lang nucleotide nucleotides) s ≡ some (both x.tree y.tree)
      unfolding parse_both
      found = rw (x.parsed, rw rest at y.parsed)

      pub not_ended : (l.len + d.len ≡ length s → ⊥) → None ≡ answer
      unfolding na_answer whole
      not_ended h = rw (found, both_long, ne_eqb (l.len + d.len) (length s) h)

      pub body_found : l.len + d.len ≡ length s → (w : Faults) → w ≡ first l.faults d.faults → Some (Nucleotide k l.value d.value, w) ≡ answer
      unfolding na_answer whole
      body_found h w q =
          let u : Nucleotide k l.value d.value ≡ na_body_of k at (both x.tree y.tree) = rw (x.means, y.means, x.long) in
          let v : w ≡ faults (na_body_numbers k at (both x.tree y.tree)) (settled_na_body k (both x.tree y.tree)) = q ∙ rw (x.wrong, y.wrong, x.long) (sym (faults_append (mu_numbers (ends_numbers k) at x.tree) (mu_numbers na_edit_numbers (at + length (print_location k x.tree)) y.tree) (settled_location k x.tree) (settled_mu settled_na_edit y.tree))) in
          rw (found, both_long, eq-eqb (l.len + d.len) (length s) h, u, v)
