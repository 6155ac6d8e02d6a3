-- What an operation on a text answers in numbers: what reading the text refuses; else what writing or measuring its record answers.
use Rattle.std.specs.Prelude.{ℕ, List}
use Rattle.record.specs.declared.HgvsVariant.{HgvsVariant}
use Rattle.grammar.specs.Texts.{all_letters}
use Rattle.grammar.specs.Values.{Value}
use Rattle.promise.specs.Outcome.{Outcome, Outcome.given, Outcome.refused}
use Rattle.promise.specs.Reading.{Reads}
use Rattle.promise.specs.Writing.{Writes}
use Rattle.promise.specs.Width.{Measures}
use Rattle.numbered.specs.declared.Answer.{Answer}
use Rattle.numbered.specs.Numbered.{bare_answer, numbered, read_numbers}

pub data Checks (t : List ℕ) : Answer → Type 0 where
  checked : (o : Outcome HgvsVariant) → Reads all_letters t o → Checks t (read_numbers o)

-- T says which text is to be written for a value
pub data Rewrites (T : Value → List ℕ → Type 0) (t output : List ℕ) : Answer → List ℕ → Type 0 where
  unread : (n place : ℕ) → Reads all_letters t (refused n place) → Rewrites T t output (bare_answer n place) output
  written : (v : HgvsVariant) → Reads all_letters t (given v) → (a : Outcome ℕ) (o : List ℕ) → Writes all_letters T t v output a o → Rewrites T t output (numbered a) o

pub data Gauges (t : List ℕ) : Answer → Type 0 where
  unread : (n place : ℕ) → Reads all_letters t (refused n place) → Gauges t (bare_answer n place)
  measured : (v : HgvsVariant) → Reads all_letters t (given v) → (a : Outcome ℕ) → Measures all_letters t v a → Gauges t (numbered a)
