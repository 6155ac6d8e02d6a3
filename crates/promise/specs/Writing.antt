-- What writing a record answers: checks 1 (source), 4, 5, 1 (result), 6; and what the output then holds.
use Rattle.std.specs.Prelude.{ℕ, ◌≤◌, ◌<◌, ◌≡◌, List, ◌++◌, Bool, true, false, length, drop}
use Rattle.record.specs.declared.Kind.{Kind}
use Rattle.record.specs.declared.HgvsVariant.{HgvsVariant}
use Rattle.grammar.specs.Texts.{print, Wf}
use Rattle.grammar.specs.Values.{Value}
use Rattle.grammar.specs.Meaning.{meaning}
use Rattle.grammar.specs.Numbers.{FaultlessText}
use Rattle.grammar.specs.Contents.{content, spans_inside}
use Rattle.grammar.specs.Reads.{ReadsAs, BestText}
use Rattle.promise.specs.Outcome.{Outcome, Outcome.given, Outcome.refused, limit}

module _ (letters : Kind → ℕ → Bool) where
  -- the text t, of any length, reads as the value v
  abbrev pub ReadsAsValue : List ℕ → Value → Type 0
  ReadsAsValue = ReadsAs print (Wf letters) FaultlessText meaning

  abbrev pub ShortestText : List ℕ → Value → Type 0
  ShortestText = BestText print (Wf letters) FaultlessText meaning

  -- the checks on source and record: they pass, or give a number
  pub record Sound (source : List ℕ) (v : HgvsVariant) : Type 0 where
    pub short : length source ≤ limit
    pub inside : spans_inside (length source) v ≡ true
    pub text : List ℕ
    pub reads : ReadsAsValue text (content source v)

  pub data Unsound (source : List ℕ) (v : HgvsVariant) : ℕ → Type 0 where
    too_long : limit < length source → Unsound source v 1
    bad_span : length source ≤ limit → spans_inside (length source) v ≡ false → Unsound source v 4
    no_text : length source ≤ limit → spans_inside (length source) v ≡ true → ((t : List ℕ) → ReadsAsValue t (content source v) → ⊥) → Unsound source v 5

  -- T says which text is to be written for a value
  module _ (T : Value → List ℕ → Type 0) where
    pub data Writes (source : List ℕ) (v : HgvsVariant) (output : List ℕ) : Outcome ℕ → List ℕ → Type 0 where
      unsound : (number : ℕ) → Unsound source v number → Writes source v output (refused number 0) output
      too_long : Sound source v → (t : List ℕ) → T (content source v) t → limit < length t → Writes source v output (refused 1 0) output
      no_room : Sound source v → (t : List ℕ) → T (content source v) t → length t ≤ limit → length output < length t → Writes source v output (refused 6 0) output
      written : Sound source v → (t : List ℕ) → T (content source v) t → length t ≤ limit → length t ≤ length output → Writes source v output (given (length t)) (t ++ drop (length t) output)

  -- shortest writing
  abbrev pub ToWrite : Value → List ℕ → Type 0
  ToWrite v t = ShortestText t v
