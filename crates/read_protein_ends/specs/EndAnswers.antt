-- What the routines give for what stands behind `fs` and `ext`: parts of the record with their spans, how long the text is, and its faults.
use Rattle.std.specs.Prelude as Prelude
use Rattle.std.specs.Prelude.{ℕ, ◌+◌, true, cond, [], eqb, length, None, Some}
use Rattle.std.proofs.Math.Option.{Option, none, some}
use Rattle.record.specs.Named.{Part}
use Rattle.record.specs.declared.UncertainLengthChange.TheVariants.{None as NoLength}
use Rattle.grammar.specs.ProteinEdits.{Terminal, Length, Stop, Stop.stop, ExtEnd, print_terminal, print_length, print_stop, print_fs_end, print_ext_end}
use Rattle.grammar.specs.Meaning.{length_of}
use Rattle.grammar.specs.Records.{span, span_of, fs_at, ext_at}
use Rattle.grammar.specs.Numbers.{length_numbers, stop_numbers, fs_numbers, ext_numbers}
use Rattle.lang_protein_edits.specs.Settled.{settled_ext_end}
use Rattle.record.specs.declared.UncertainLengthChange.{UncertainLengthChange}
use Rattle.record.specs.declared.ProteinEdit as D
use Rattle.read_scan.specs.declared.Found.{Found}
use Rattle.read_scan.specs.Faults.{faults}
use Rattle.read_protein_ends.specs.declared.Stop as Declared

unfoldable pub terminal_len : Option Terminal → ℕ
terminal_len none = 0
terminal_len (some t) = length (print_terminal t)

unfoldable pub length_read : ℕ → Length → Found UncertainLengthChange
length_read k n = record { value = length_of n; len = length (print_length n); faults = faults (length_numbers k n) true }

unfoldable pub stop_read : ℕ → Option Stop → Found Declared.Stop
stop_read k none = record { value = record { terminal = None; change = NoLength }; len = 0; faults = faults [] true }
stop_read k (some (stop t n)) =
    record { value = record { terminal = Some (span_of k (print_terminal t)); change = length_of n }; len = length (print_stop (stop t n)); faults = faults (stop_numbers k (stop t n)) true }

-- an edit at k: a residue of n bytes, then a word, then its end
unfoldable pub residue_part : ℕ → ℕ → Part
residue_part k n = cond (eqb n 0) None (Some (span k n))

unfoldable pub fs_read : ℕ → ℕ → Option Stop → Found D.ProteinEdit
fs_read k n e = record { value = fs_at (residue_part k n) (k + n) e; len = n + 2 + length (print_fs_end e); faults = faults (fs_numbers (k + n + 2) e) true }

unfoldable pub ext_read : ℕ → ℕ → ExtEnd → Found D.ProteinEdit
ext_read k n e = record { value = ext_at (residue_part k n) (k + n) e; len = n + 3 + length (print_ext_end e); faults = faults (ext_numbers (k + n + 3) e) (settled_ext_end e) }

unfoldable pub earlier_read : ℕ → ℕ → Option ExtEnd → Prelude.Option (Found D.ProteinEdit)
earlier_read k n none = None
earlier_read k n (some e) = Some (ext_read k n e)
