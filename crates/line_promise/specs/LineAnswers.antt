-- Document 01, "Line program": each line gives its shortest text, or `! `, number, a blank, place; then LF.
use Rattle.std.specs.Prelude.{ℕ, List, [], ◌∷◌, ◌++◌}
use Rattle.texts.specs.Ascii.{ascii}
use Rattle.numerals.specs.Digits.{dec}
use Rattle.record.specs.declared.HgvsVariant.{HgvsVariant}
use Rattle.grammar.specs.Texts.{all_letters}
use Rattle.grammar.specs.Contents.{content}
use Rattle.promise.specs.Outcome.{Outcome.given, Outcome.refused}
use Rattle.promise.specs.Reading.{Reads}
use Rattle.promise.specs.Writing.{ShortestText}
use Rattle.lines.specs.Lines.{line_end}

unfoldable pub refusal : ℕ → ℕ → List ℕ
refusal number place = ascii "! " ++ (dec number ++ (ascii " " ++ dec place))

-- what is answered to a line l, of any length
pub data LineAnswer (l : List ℕ) : List ℕ → Type 0 where
  text : (v : HgvsVariant) → Reads all_letters l (given v) → (t : List ℕ) → ShortestText all_letters t (content l v) → LineAnswer l t
  number : (n place : ℕ) → Reads all_letters l (refused n place) → LineAnswer l (refusal n place)

-- every line in turn, its answer and LF
pub data AllAnswered : List (List ℕ) → List ℕ → Type 0 where
  nothing : AllAnswered [] []
  next : {l a : List ℕ} {ls : List (List ℕ)} {o : List ℕ} → LineAnswer l a → AllAnswered ls o → AllAnswered (l ∷ ls) (a ++ (line_end ∷ []) ++ o)
