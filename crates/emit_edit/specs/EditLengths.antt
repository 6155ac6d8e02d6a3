-- The text of an edit as it is written, and how long it is.
use Rattle.std.specs.Prelude.{ℕ, ◌+◌, ◌≡◌, length}
use mathlib.Core.List.{List, ◌++◌, append_assoc}
use Rattle.std.proofs.Math.ListN.{length-append}
use Rattle.grammar.specs.Spans.{part}
use Rattle.emit_piece.specs.Texts.{byte_text, amount_text, signed_text}
use Rattle.emit_word.specs.Words.{word_text}
use Rattle.emit_edit.specs.Texts.{edit_text}
use Rattle.emit_edit.specs.declared.EditPieces.{EditPieces}

module _ (s : List ℕ) where
  -- the amount with its sign
  pub edit_pairs : (r : EditPieces)
      → part s r.first ++ (word_text r.word ++ (part s r.second ++ (signed_text r.sign r.amount ++ (word_text r.joint ++ part s r.last)))) ≡ edit_text s r
  unfolding edit_text
  edit_pairs r = rw append_assoc

  pub pieces_length : (r : EditPieces)
      → length (edit_text s r) ≡ length (part s r.first) + (length (word_text r.word) + (length (part s r.second) + (length (byte_text r.sign) + (length (amount_text r.amount) + (length (word_text r.joint) + length (part s r.last))))))
  unfolding edit_text
  pieces_length r = simp length-append
