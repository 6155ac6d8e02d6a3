-- The Met-1 `?` record: when a location and an edit are it, and the location that is written for it.
use Rattle.std.specs.Prelude.{ℕ, List, Bool, cond, not, ◌&&◌, pos, None, Some}
use Prim.Native.Char.{code}
use Rattle.texts.specs.Ascii.{ascii}
use Rattle.texts.specs.Words.{same}
use Rattle.record.specs.declared.Span.{Span}
use Rattle.record.specs.declared.ProteinEdit.{ProteinEdit}
use Rattle.grammar.specs.Spans.{part}
use Rattle.grammar.specs.Contents.{protein_edit_content}
use Rattle.lang_locations.specs.Equal.{eqℤ}
use Rattle.lang_canon.specs.ProteinBodyCanon.{is_unknown}
use Rattle.any_location.specs.declared.Position.{Position}
use Rattle.any_location.specs.declared.Location.{Location}
use Rattle.emit_location.specs.Texts.{no_end}
use Rattle.emit_location.specs.declared.PositionPieces.{PositionPieces}
use Rattle.emit_location.specs.declared.LocationPieces.{LocationPieces}

-- a location of one position
abbrev pub lone_location : PositionPieces → LocationPieces
lone_location e = record { opening = None; start = e; joint = None; end = no_end; closing = None }

abbrev pub met01_location : Span → LocationPieces
met01_location aa = lone_location (record { residue = aa; mark = Some (code "0"); number = Some 1; sign = None; offset = None })

-- both certain, or both uncertain
abbrev pub is_alike : Bool → Bool → Bool
is_alike isLocated is_certain = cond isLocated is_certain (not is_certain)

module _ (s : List ℕ) where
  abbrev pub is_met_one : Position → Bool
  is_met_one p = same (part s p.aa) (ascii "Met") && eqℤ p.number (pos 1)

  abbrev pub is_unknown_edit : ProteinEdit → Bool
  is_unknown_edit e = is_unknown (protein_edit_content s e)

  unfoldable pub is_barred : Location → Bool → ProteinEdit → Bool
  is_barred l is_certain e = is_alike l.certain is_certain && (is_met_one l.start && (is_met_one l.end && is_unknown_edit e))
