-- What is given for a body without location.
use Rattle.std.specs.Prelude as Prelude
use Rattle.std.specs.Prelude.{None, Some}
use Rattle.std.proofs.Math.Option.{Option, none, some}
use Rattle.record.specs.declared.ProtLocEdit.{ProtLocEdit}
use Rattle.grammar.specs.Bodies.{ProteinBody}
use Rattle.grammar.specs.Records.{protein_body_at}

abbrev pub exact_answer : Option ProteinBody → Prelude.Option ProtLocEdit
exact_answer none = None
exact_answer (some b) = Some (protein_body_at 0 b)
