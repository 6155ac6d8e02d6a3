-- The text of an edit: its pieces one behind the other, spans as parts of a source.
use Rattle.std.specs.Prelude.{ℕ, List, ◌++◌}
use Rattle.grammar.specs.Spans.{part}
use Rattle.emit_piece.specs.Texts.{byte_text, amount_text}
use Rattle.emit_word.specs.Words.{word_text}
use Rattle.emit_edit.specs.declared.EditPieces.{EditPieces}

module _ (s : List ℕ) where
  unfoldable pub edit_text : EditPieces → List ℕ
  edit_text r =
      part s r.first ++ (word_text r.word ++ (part s r.second ++ (byte_text r.sign ++ (amount_text r.amount ++ (word_text r.joint ++ part s r.last)))))
