-- The text of a position and of a location: their parts one behind the other, spans as parts of a source.
use Rattle.std.specs.Prelude.{ℕ, List, ◌++◌, None}
use Rattle.grammar.specs.Spans.{part}
use Rattle.emit_piece.specs.Texts.{byte_text, amount_text, no_span}
use Rattle.emit_location.specs.declared.PositionPieces.{PositionPieces}
use Rattle.emit_location.specs.declared.LocationPieces.{LocationPieces}

module _ (s : List ℕ) where
  unfoldable pub position_text : PositionPieces → List ℕ
  position_text e = part s e.residue ++ (byte_text e.mark ++ (amount_text e.number ++ (byte_text e.sign ++ amount_text e.offset)))

  unfoldable pub location_text : LocationPieces → List ℕ
  location_text p = byte_text p.opening ++ (position_text p.start ++ (byte_text p.joint ++ (position_text p.end ++ byte_text p.closing)))

-- nothing to write
abbrev pub no_end : PositionPieces
no_end = record { residue = no_span; mark = None; number = None; sign = None; offset = None }
