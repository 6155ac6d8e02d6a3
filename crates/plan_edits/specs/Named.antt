-- What is planned for an edit, by name: the texts of plans are in an option of their own.
use Rattle.std.specs.Prelude.{Option}
use Rattle.emit_edit.specs.declared.EditPieces.{EditPieces}

-- the pieces, where the edit has a text
abbrev pub EditPlan : Type 0
EditPlan = Option EditPieces
