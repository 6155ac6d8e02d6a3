-- What is planned for a position and for a location, by name: the texts of plans are in an option of their own.
use Rattle.std.specs.Prelude.{Option}
use Rattle.emit_location.specs.declared.PositionPieces.{PositionPieces}
use Rattle.emit_location.specs.declared.LocationPieces.{LocationPieces}

-- the pieces, where the position has a text
abbrev pub PositionPlan : Type 0
PositionPlan = Option PositionPieces

abbrev pub LocationPlan : Type 0
LocationPlan = Option LocationPieces
