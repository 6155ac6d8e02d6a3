-- What the routines give for what was found: the record with its spans, its length, and its faults.
use Rattle.std.specs.Prelude as Prelude
use Rattle.std.specs.Prelude.{None, ℕ, ◌+◌, List, cond, length, drop}
use Rattle.std.proofs.Math.Option.{Option, none, some}
use Rattle.texts.specs.Ascii.{ascii}
use Rattle.texts.specs.Words.{starts}
use Rattle.record.specs.declared.Kind.TheVariants.{Prot}
use Rattle.record.specs.declared.MuProteinEdit.TheVariants.{Uncertain}
use Rattle.record.specs.declared.ProtLocEdit.{ProtLocEdit}
use Rattle.record.specs.declared.ProtLocEdit.TheVariants.{Ordinary}
use Rattle.grammar.specs.Shapes.{Mu, print_mu}
use Rattle.grammar.specs.ProteinEdits.{ProteinEditTree, print_protein_edit}
use Rattle.grammar.specs.Bodies.{ProteinBody, print_protein_body}
use Rattle.grammar.specs.Records.{protein_edit_at, mu_protein_edit_at, protein_body_at}
use Rattle.grammar.specs.Numbers.{mu_numbers, protein_edit_numbers, protein_body_numbers}
use Rattle.read_scan.specs.declared.Found.{Found}
use Rattle.lang.specs.MuCanon.{settled_mu}
use Rattle.read_scan.specs.Faults.{faults, first}
use Rattle.read_scan.specs.Accounts.{Account, found, answered}
use Rattle.lang_protein_edits.specs.Settled.{settled_protein_edit}
use Rattle.lang_bodies.specs.Settled.{settled_protein_body}
use Rattle.any_location.specs.declared.Location.{Location}
use Rattle.any_location.specs.OfTree.{uncertain_of}
use Rattle.any_location.specs.ToRecord.{location_for}

abbrev pub protein_bodies : Account ProteinBody ProtLocEdit
protein_bodies = record { read_at = protein_body_at; print = print_protein_body; numbers_at = protein_body_numbers; settled = settled_protein_body }

abbrev pub ordinary_answer : ℕ → Option ProteinBody → Prelude.Option (Found ProtLocEdit)
ordinary_answer = answered protein_bodies

-- behind a location
abbrev pub after_answer : Found Location → ℕ → Option (Mu ProteinEditTree) → Prelude.Option (Found ProtLocEdit)
after_answer l at none = None
after_answer l at (some e) = found (Ordinary (location_for Prot l.value) (mu_protein_edit_at at e)) (l.len + length (print_mu print_protein_edit e)) (first l.faults (faults (mu_numbers protein_edit_numbers at e) (settled_mu settled_protein_edit e)))

-- the same inside one pair of brackets, s from the edit on
abbrev pub inside_answer : Found Location → ℕ → List ℕ → Option ProteinEditTree → Prelude.Option (Found ProtLocEdit)
inside_answer l at s none = None
inside_answer l at s (some e) =
    cond (starts (ascii ")") (drop (length (print_protein_edit e)) s))
    (found (Ordinary (location_for Prot (uncertain_of l.value)) (Uncertain (protein_edit_at at e))) (1 + l.len + length (print_protein_edit e) + 1) (first l.faults (faults (protein_edit_numbers at e) (settled_protein_edit e))))
    None
