-- What the routines give for an edit that starts at a place: its record, the length of its text, and its faults.
use Rattle.std.specs.Prelude as Prelude
use Rattle.std.specs.Prelude.{ℕ}
use Rattle.std.proofs.Math.Option.{Option}
use Rattle.record.specs.declared.NaEdit as Declared
use Rattle.grammar.specs.NucleotideEdits.{NaEditTree, print_na_edit}
use Rattle.grammar.specs.Records.{na_edit_at}
use Rattle.grammar.specs.Numbers.{na_edit_numbers}
use Rattle.lang_na_edits.specs.Settled.{settled_na_edit}
use Rattle.read_scan.specs.declared.Found.{Found}
use Rattle.read_scan.specs.Accounts.{Account, answered}

abbrev pub na_edits : Account NaEditTree Declared.NaEdit
na_edits = record { read_at = na_edit_at; print = print_na_edit; numbers_at = na_edit_numbers; settled = settled_na_edit }

abbrev pub na_edit_answer : ℕ → Option NaEditTree → Prelude.Option (Found Declared.NaEdit)
na_edit_answer = answered na_edits
