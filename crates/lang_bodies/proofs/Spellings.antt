-- Two spellings of one number give equal records: how its numbers are spelled changes neither whether a text is accepted nor, spans compared by content, its
-- record.
use Rattle.std.specs.Prelude.{ℕ, ◌≤◌, ◌≡◌, List, Bool, length}
use Rattle.std.proofs.Common.{sym, ap, ◌∙◌}
use Rattle.record.specs.declared.Kind.{Kind}
use Rattle.record.specs.declared.HgvsVariant.{HgvsVariant}
use Rattle.grammar.specs.Texts.{Text}
use Rattle.grammar.specs.Meaning.{meaning}
use Rattle.grammar.specs.Records.{record_at}
use Rattle.grammar.specs.Numbers.{numbers_at, FaultlessText}
use Rattle.grammar.specs.NumberLaws.{is_faultless}
use Rattle.grammar.proofs.NumberLaws.{faultless_elsewhere}
use Rattle.grammar.specs.Contents.{content}
use Rattle.grammar.proofs.ContentLaw.{content_is}
use Rattle.grammar.specs.Respelled.{respelled}
use Rattle.grammar.proofs.RespelledLaws.{meaning_same, faultless_same}
use Rattle.promise.specs.Outcome.{Outcome.given, limit}
use Rattle.promise.specs.Reading.{TreeOf, Reads, Reads.accepted}
use Rattle.lang_na_edits.specs.Alphabet.{Alphabet}
use Rattle.lang_bodies.proofs.WholeText.{unambiguous}

-- trees that differ in nothing but the spelling of their numbers
module _ (x y : Text) (alike : respelled x ≡ respelled y) where
  meaning_alike : meaning x ≡ meaning y
  meaning_alike = sym (meaning_same x) ∙ ap meaning alike ∙ meaning_same y

  faultless_alike : FaultlessText x → FaultlessText y
  faultless_alike =
      let same : is_faultless (numbers_at 0 x) ≡ is_faultless (numbers_at 0 y) = sym (faultless_same 0 0 x) ∙ ap (λ (z : Text). is_faultless (numbers_at 0 z)) alike ∙ faultless_same 0 0 y in
      faultless_elsewhere (numbers_at 0 x) (numbers_at 0 y) same

module _ (letters : Kind → ℕ → Bool) where
  -- texts that do
  pub record SpelledOtherwise (s t : List ℕ) : Type 0 where
    pub tree : Text
    pub other : Text
    pub of_first : TreeOf letters s tree
    pub of_second : TreeOf letters t other
    pub alike : respelled tree ≡ respelled other

  -- t is accepted, and its record is equal to v of s
  pub record ReadAlike (s t : List ℕ) (v : HgvsVariant) : Type 0 where
    pub variant : HgvsVariant
    pub reads : Reads letters t (given variant)
    pub equal : content t variant ≡ content s v

  content_of : (t : List ℕ) (x : Text) → TreeOf letters t x → content t (record_at 0 x) ≡ meaning x
  content_of t x w = rw w.text at (content_is x)

  pub spelled_otherwise : (al : (k : Kind) → Alphabet (letters k)) {s t : List ℕ} → SpelledOtherwise s t → length t ≤ limit → (v : HgvsVariant) → Reads letters s (given v) → ReadAlike s t v
  spelled_otherwise al {s} {t} o short v (accepted h x tree fits) =
      let q : x ≡ o.tree = unambiguous letters al x o.tree tree.wf o.of_first.wf (tree.text ∙ sym o.of_first.text) in
      let a : respelled x ≡ respelled o.other = ap respelled q ∙ o.alike in
      record {
        variant = record_at 0 o.other;
        reads = accepted short o.other o.of_second (faultless_alike x o.other a fits);
        equal = content_of t o.other o.of_second ∙ sym (meaning_alike x o.other a) ∙ sym (content_of s x tree);
      }
