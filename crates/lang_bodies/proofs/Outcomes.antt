-- What reading a text answers, from the tree that the parser finds; and nothing else.
use Rattle.std.specs.Prelude.{ℕ, ◌≤◌, ◌<◌, ◌≡◌, List, Bool, true, false, cond, leb}
use Rattle.std.proofs.Math.Path.{refl}
use Rattle.std.proofs.Math.Option.{Option, none, some}
use Rattle.std.proofs.Math.ListN.{length}
use Rattle.std.proofs.Common.{leb-true, leb-false, le-leb}
use Rattle.std.proofs.lemmas.Bool.{lt-leb}
use Rattle.record.specs.declared.Kind.{Kind}
use Rattle.record.specs.declared.HgvsVariant.{HgvsVariant}
use Rattle.grammar.specs.Texts.{Text}
use Rattle.grammar.specs.Records.{record_at}
use Rattle.grammar.specs.Numbers.{misfit, numbers_at, FaultlessText}
use Rattle.grammar.proofs.NumberLaws.{faultless_fits, fits_faultless}
use Rattle.lang_na_edits.specs.Alphabet.{Alphabet}
use Rattle.promise.specs.Outcome.{Outcome, Outcome.given, Outcome.refused, limit}
use Rattle.promise.specs.Reading.{tree_outcome, Reads, Reads.too_long, Reads.not_in_grammar, Reads.does_not_fit, Reads.accepted}
use Rattle.promise.proofs.Unique.{reads_unique}
use Rattle.lang_bodies.proofs.TextOutcome.{text_outcome}
use Rattle.lang_bodies.proofs.WholeText.{parse_text, unambiguous}
use Rattle.lang_bodies.proofs.Trees.{parsed_tree, no_tree}

-- ---- of a tree
pub unfit_outcome : (x : Text) {place : ℕ} → misfit (numbers_at 0 x) ≡ some place → tree_outcome (some x) ≡ refused 3 place
unfit_outcome x e = rw e

pub faultless_outcome : (x : Text) → FaultlessText x → tree_outcome (some x) ≡ given (record_at 0 x)
faultless_outcome x f = rw (faultless_fits (numbers_at 0 x) f)

module _ (letters : Kind → ℕ → Bool) (al : (k : Kind) → Alphabet (letters k)) (t : List ℕ) where
  pub long_outcome : limit < length t → (text_outcome letters al t) ≡ refused 1 0
  unfolding text_outcome
  long_outcome h = rw (lt-leb (length t) limit h)

  pub parsed_outcome : length t ≤ limit → {o : Option Text} → parse_text letters al t ≡ o → (text_outcome letters al t) ≡ tree_outcome o
  unfolding text_outcome
  parsed_outcome h e = rw (le-leb (length t) limit h, e)

  -- reading answers it
  pub outcome_read : Reads letters t (text_outcome letters al t)
  unfolding text_outcome
  outcome_read = go (leb (length t) limit) refl
    where
      fitting : length t ≤ limit → (x : Text) → parse_text letters al t ≡ some x → (m : Option ℕ) → misfit (numbers_at 0 x) ≡ m → Reads letters t (tree_outcome (some x))
      fitting h x e none m = rw m (accepted h x (parsed_tree letters al t x e) (fits_faultless (numbers_at 0 x) m))
      fitting h x e (some place) m = rw m (does_not_fit h x (parsed_tree letters al t x e) place m)

      tree : length t ≤ limit → (o : Option Text) → parse_text letters al t ≡ o → Reads letters t (tree_outcome o)
      tree h none e = not_in_grammar h (no_tree letters al t e)
      tree h (some x) e = fitting h x e (misfit (numbers_at 0 x)) refl

      go : (b : Bool) → leb (length t) limit ≡ b → Reads letters t (cond b (tree_outcome (parse_text letters al t)) (refused 1 0))
      go true e = tree (leb-true (length t) limit e) (parse_text letters al t) refl
      go false e = too_long (leb-false (length t) limit e)

  -- and no other
  pub read_outcome_lem : {o : Outcome HgvsVariant} → Reads letters t o → (text_outcome letters al t) ≡ o
  read_outcome_lem {o} r = reads_unique letters (unambiguous letters al) t (text_outcome letters al t) o outcome_read r

  pub outcome_reads : {o : Outcome HgvsVariant} → (text_outcome letters al t) ≡ o → Reads letters t o
  outcome_reads e = rw e at outcome_read
