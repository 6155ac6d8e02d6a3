-- The trees of a text are those that the parser finds.
use Rattle.std.specs.Prelude.{ℕ, ◌≡◌, List, Bool}
use Rattle.std.proofs.Common.{sym, ◌∙◌}
use Rattle.std.proofs.Math.Option.{none, some}
use Rattle.texts.proofs.Tests.{none_some}
use Rattle.record.specs.declared.Kind.{Kind}
use Rattle.grammar.specs.Texts.{Text}
use Rattle.promise.specs.Reading.{TreeOf}
use Rattle.lang_na_edits.specs.Alphabet.{Alphabet}
use Rattle.lang_bodies.proofs.WholeText.{parse_text, sound_text, complete_text}

module _ (letters : Kind → ℕ → Bool) (al : (k : Kind) → Alphabet (letters k)) (t : List ℕ) where
  pub tree_parsed : (x : Text) → TreeOf letters t x → parse_text letters al t ≡ some x
  tree_parsed x w = rw w.text at (complete_text letters al x w.wf)

  pub parsed_tree : (x : Text) → parse_text letters al t ≡ some x → TreeOf letters t x
  parsed_tree x e = let s = sound_text letters al t x e in record { wf = s.0; text = s.1 }

  pub no_tree : parse_text letters al t ≡ none → (x : Text) → TreeOf letters t x → ⊥
  no_tree e x w = none_some (sym e ∙ tree_parsed x w)
