-- What is planned for a body, by name: the texts of plans are in an option of their own.
use Rattle.std.specs.Prelude.{Option}
use Rattle.emit_draft.specs.declared.BodyPieces.{BodyPieces}

-- the pieces, where the body has a text
abbrev pub BodyPlan : Type 0
BodyPlan = Option BodyPieces
