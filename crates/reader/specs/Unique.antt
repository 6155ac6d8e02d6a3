-- Reading a text has one answer.
use Rattle.std.specs.Prelude.{ℕ, ◌≡◌, List}
use Rattle.record.specs.Named.{ReadAnswer}
use Rattle.grammar.specs.Texts.{Text, print, Wf, all_letters}
use Rattle.lang_bodies.proofs.WholeText.{unambiguous}
use Rattle.promise.specs.Outcome.{read_outcome}
use Rattle.promise.specs.Reading.{Reads}
use Rattle.promise.proofs.Unique.{one_read_answer}
use Rattle.lang_na_edits.proofs.Alphabet.{alphabets}

-- the grammar is unambiguous
pub one_tree : (x y : Text) → Wf all_letters x → Wf all_letters y → print x ≡ print y → x ≡ y
one_tree = unambiguous all_letters alphabets

-- no second answer fits
pub one_answer : (t : List ℕ) (a b : ReadAnswer) → Reads all_letters t (read_outcome a) → Reads all_letters t (read_outcome b) → a ≡ b
one_answer = one_read_answer all_letters one_tree
