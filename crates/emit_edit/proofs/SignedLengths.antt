-- How long an edit is, the amount taken with its sign.
use Rattle.std.specs.Prelude.{ℕ, List, ◌+◌, ◌≡◌, length}
use Rattle.std.proofs.Common.{arith, length-append}
use Rattle.grammar.specs.Spans.{part}
use Rattle.emit_piece.specs.Texts.{byte_text, amount_text, signed_text}
use Rattle.emit_word.specs.Words.{word_text}
use Rattle.emit_edit.specs.Texts.{edit_text}
use Rattle.emit_edit.specs.EditLengths.{pieces_length}
use Rattle.emit_edit.specs.declared.EditPieces.{EditPieces}

pub signed_pieces_length : (s : List ℕ) (r : EditPieces)
    → length (edit_text s r) ≡ length (part s r.first) + (length (word_text r.word) + (length (part s r.second) + (length (signed_text r.sign r.amount) + (length (word_text r.joint) + length (part s r.last)))))
signed_pieces_length s r = omega (arith, pieces_length s r, length-append (byte_text r.sign) (amount_text r.amount))
