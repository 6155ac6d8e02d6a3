-- The text of a position as it is written, how long it and that of a location are, and where there is nothing to write.
use Rattle.std.specs.Prelude.{ℕ, ◌+◌, ◌≡◌, length}
use mathlib.Core.List.{List, [], ◌++◌, append_assoc}
use Rattle.std.proofs.Math.ListN.{length-append}
use Rattle.grammar.specs.Spans.{part}
use Rattle.emit_piece.specs.Texts.{byte_text, amount_text, signed_text}
use Rattle.emit_piece.specs.PartLengths.{no_part}
use Rattle.emit_location.specs.Texts.{position_text, location_text, no_end}
use Rattle.emit_location.specs.declared.PositionPieces.{PositionPieces}
use Rattle.emit_location.specs.declared.LocationPieces.{LocationPieces}

module _ (s : List ℕ) where
  -- each number with the byte before it
  pub position_pairs : (e : PositionPieces) → part s e.residue ++ (signed_text e.mark e.number ++ signed_text e.sign e.offset) ≡ position_text s e
  unfolding position_text
  position_pairs e = rw append_assoc

  pub end_length : (e : PositionPieces)
      → length (position_text s e) ≡ length (part s e.residue) + (length (byte_text e.mark) + (length (amount_text e.number) + (length (byte_text e.sign) + length (amount_text e.offset))))
  unfolding position_text
  end_length e = simp length-append

  pub place_length : (p : LocationPieces)
      → length (location_text s p) ≡ length (byte_text p.opening) + (length (position_text s p.start) + (length (byte_text p.joint) + (length (position_text s p.end) + length (byte_text p.closing))))
  unfolding location_text
  place_length p = simp length-append

  pub no_end_lem : position_text s no_end ≡ []
  unfolding position_text
  no_end_lem = rw no_part
