-- What is given for an edit in brackets or not that starts at a place: its record, the length of its text, and its faults.
use Rattle.std.specs.Prelude as Prelude
use Rattle.std.specs.Prelude.{ℕ}
use Rattle.std.proofs.Math.Option.{Option}
use Rattle.record.specs.declared.MuNaEdit.{MuNaEdit}
use Rattle.grammar.specs.Shapes.{Mu, print_mu}
use Rattle.grammar.specs.NucleotideEdits.{NaEditTree, print_na_edit}
use Rattle.grammar.specs.Records.{mu_na_edit_at}
use Rattle.grammar.specs.Numbers.{na_edit_numbers, mu_numbers}
use Rattle.lang.specs.MuCanon.{settled_mu}
use Rattle.lang_na_edits.specs.Settled.{settled_na_edit}
use Rattle.read_scan.specs.declared.Found.{Found}
use Rattle.read_scan.specs.Accounts.{Account, answered}

abbrev pub mu_na_edits : Account (Mu NaEditTree) MuNaEdit
mu_na_edits = record { read_at = mu_na_edit_at; print = print_mu print_na_edit; numbers_at = mu_numbers na_edit_numbers; settled = settled_mu settled_na_edit }

abbrev pub mu_na_edit_answer : ℕ → Option (Mu NaEditTree) → Prelude.Option (Found MuNaEdit)
mu_na_edit_answer = answered mu_na_edits
