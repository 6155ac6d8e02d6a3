-- How long a position is, each number taken with the byte before it.
use Rattle.std.specs.Prelude.{ℕ, List, ◌+◌, ◌≡◌, length}
use Rattle.std.proofs.Common.{arith, length-append}
use Rattle.grammar.specs.Spans.{part}
use Rattle.emit_piece.specs.Texts.{byte_text, amount_text, signed_text}
use Rattle.emit_location.specs.Texts.{position_text}
use Rattle.emit_location.specs.LocationLengths.{end_length}
use Rattle.emit_location.specs.declared.PositionPieces.{PositionPieces}

pub signed_end_length : (s : List ℕ) (e : PositionPieces)
    → length (position_text s e) ≡ length (part s e.residue) + (length (signed_text e.mark e.number) + length (signed_text e.sign e.offset))
signed_end_length s e =
    omega (arith, end_length s e, length-append (byte_text e.mark) (amount_text e.number), length-append (byte_text e.sign) (amount_text e.offset))
