-- What reading a text answers, from the tree that the parser finds.
use Rattle.std.specs.Prelude.{ℕ, List, Bool, cond, leb}
use Rattle.std.proofs.Math.ListN.{length}
use Rattle.record.specs.declared.Kind.{Kind}
use Rattle.record.specs.declared.HgvsVariant.{HgvsVariant}
use Rattle.lang_na_edits.specs.Alphabet.{Alphabet}
use Rattle.promise.specs.Outcome.{Outcome, Outcome.refused, limit}
use Rattle.promise.specs.Reading.{tree_outcome}
use Rattle.lang_bodies.proofs.WholeText.{parse_text}

module _ (letters : Kind → ℕ → Bool) (al : (k : Kind) → Alphabet (letters k)) (t : List ℕ) where
  unfoldable pub text_outcome : Outcome HgvsVariant
  text_outcome = cond (leb (length t) limit) (tree_outcome (parse_text letters al t)) (refused 1 0)
