-- What is found for the tree of a text: its record's header, its record's body as one of any kind, and its faults.
use Rattle.std.proofs.Math.Option.{Option, none, some}
use Rattle.std.specs.Prelude as Prelude
use Rattle.std.specs.Prelude.{Bool, true, false, None, Some}
use Rattle.record.specs.declared.Kind.{Kind}
use Rattle.record.specs.declared.Kind.TheVariants.{Cds, Genome, Mt, Tx, Prot, Rna}
use Rattle.record.specs.declared.Header.{Header}
use Rattle.grammar.specs.Texts.{Text}
use Rattle.grammar.specs.Records.{record_at}
use Rattle.grammar.specs.Numbers.{numbers_at}
use Rattle.any_body.specs.declared.AnyBody.{AnyBody}
use Rattle.any_body.specs.AnyBodies.{any_body}
use Rattle.read_scan.specs.declared.Faults.{Faults}
use Rattle.read_scan.specs.Faults.{faults}
use Rattle.lang_bodies.specs.Settled.{settled_text}

abbrev pub is_protein : Kind → Bool
is_protein Cds = false
is_protein Genome = false
is_protein Mt = false
is_protein Tx = false
is_protein Prot = true
is_protein Rna = false

unfoldable pub text_answer : Option Text → Prelude.Option (Header × (AnyBody × Faults))
text_answer none = None
text_answer (some x) = Some ((record_at 0 x).header, (any_body (record_at 0 x).body, faults (numbers_at 0 x) (settled_text x)))
