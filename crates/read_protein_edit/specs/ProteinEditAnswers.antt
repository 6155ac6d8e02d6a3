-- What the routines give for what was found: the record with its spans, how long the text is, and what is wrong with its numbers.
use Rattle.std.specs.Prelude as Prelude
use Rattle.std.specs.Prelude.{ℕ}
use Rattle.std.proofs.Math.Option.{Option}
use Rattle.record.specs.declared.ProteinEdit as Declared
use Rattle.record.specs.declared.MuProteinEdit.{MuProteinEdit}
use Rattle.grammar.specs.Shapes.{Mu, print_mu}
use Rattle.grammar.specs.ProteinEdits.{ProteinEditTree, print_protein_edit}
use Rattle.grammar.specs.Records.{protein_edit_at, mu_protein_edit_at}
use Rattle.grammar.specs.Numbers.{protein_edit_numbers, mu_numbers}
use Rattle.lang.specs.MuCanon.{settled_mu}
use Rattle.lang_protein_edits.specs.Settled.{settled_protein_edit}
use Rattle.read_scan.specs.declared.Found.{Found}
use Rattle.read_scan.specs.Accounts.{Account, answered}

abbrev pub protein_edits : Account ProteinEditTree Declared.ProteinEdit
protein_edits = record { read_at = protein_edit_at; print = print_protein_edit; numbers_at = protein_edit_numbers; settled = settled_protein_edit }

abbrev pub protein_edit_answer : ℕ → Option ProteinEditTree → Prelude.Option (Found Declared.ProteinEdit)
protein_edit_answer = answered protein_edits

abbrev pub mu_protein_edits : Account (Mu ProteinEditTree) MuProteinEdit
mu_protein_edits = record { read_at = mu_protein_edit_at; print = print_mu print_protein_edit; numbers_at = mu_numbers protein_edit_numbers; settled = settled_mu settled_protein_edit }

abbrev pub mu_protein_edit_answer : ℕ → Option (Mu ProteinEditTree) → Prelude.Option (Found MuProteinEdit)
mu_protein_edit_answer = answered mu_protein_edits
