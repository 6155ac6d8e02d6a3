-- The answer to a line, computed: of what is held of it, what reading answers, and the canonical text of a record that is read.
use Rattle.std.specs.Prelude.{ℕ, List}
use Rattle.std.proofs.Math.Option.{Option, none, some}
use Rattle.record.specs.declared.HgvsVariant.{HgvsVariant}
use Rattle.grammar.specs.Texts.{Text, print, all_letters}
use Rattle.grammar.specs.Contents.{content}
use Rattle.promise.specs.Outcome.{Outcome, Outcome.given, Outcome.refused}
use Rattle.lang_bodies.proofs.TextOutcome.{text_outcome}
use Rattle.lang_canon.specs.TextCanon.{canon_text}
use Rattle.lang_na_edits.proofs.Alphabet.{alphabets}
use Rattle.lines.specs.Lines.{Held, Held.whole, Held.too_long}
use Rattle.line_promise.specs.LineAnswers.{refusal}

-- a text that was read has a shortest text, so that 5 is never answered
abbrev pub of_canon : Option Text → List ℕ
of_canon none = refusal 5 0
of_canon (some y) = print y

abbrev pub of_outcome : List ℕ → Outcome HgvsVariant → List ℕ
of_outcome l (given v) = of_canon (canon_text all_letters alphabets (content l v))
of_outcome l (refused n place) = refusal n place

unfoldable pub line_answer : Held → List ℕ
line_answer too_long = refusal 1 0
line_answer (whole l) = of_outcome l (text_outcome all_letters alphabets l)
