-- What is planned for a header and a body, by name.
use Rattle.std.specs.Prelude.{Result}
use Rattle.record.specs.declared.Refusal.{Refusal}
use Rattle.emit_draft.specs.declared.Draft.{Draft}

-- the text that is to be written, or why there is none
abbrev pub TextPlan : Type 0
TextPlan = Result Draft Refusal
