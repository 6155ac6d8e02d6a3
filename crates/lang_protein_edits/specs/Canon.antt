-- The tree whose text is to be written for the value of a protein edit, where there is one.
use Rattle.std.specs.Prelude.{ℕ, List, Bool, true, cond}
use Rattle.std.proofs.Math.Option.{Option, none, some}
use Rattle.texts.specs.Ascii.{ascii}
use Rattle.texts.specs.Words.{same}
use Rattle.numerals.specs.Written.{unsigned_digits, negated_digits}
use Rattle.residue.specs.Residues.{is_residue, is_residues}
use Rattle.record.specs.declared.UncertainLengthChange.{UncertainLengthChange}
use Rattle.record.specs.declared.UncertainLengthChange.TheVariants.{None, Unknown, Known}
use Rattle.grammar.specs.ProteinEdits.{Terminal, Terminal.ter, Terminal.x, Terminal.star, Length, Length.counted, Length.unknown, Length.unsaid, Stop, Stop.stop, ExtEnd, ExtEnd.nothing, ExtEnd.later, ExtEnd.earlier, ProteinEditTree, ProteinEditTree.subst, ProteinEditTree.subst_unknown, ProteinEditTree.equal, ProteinEditTree.del, ProteinEditTree.dup, ProteinEditTree.ins, ProteinEditTree.del_ins, ProteinEditTree.fs, ProteinEditTree.ext}
use Rattle.grammar.specs.Values.{ProteinEditV, ProteinEditV.fs_v, ProteinEditV.ext_v, ProteinEditV.subst_v, ProteinEditV.del_ins_v, ProteinEditV.ins_pv, ProteinEditV.del_v, ProteinEditV.dup_pv, ProteinEditV.ident_v}
use Rattle.lang.specs.Choice.{or_next}
use Rattle.lang.specs.Canon.{map_o, both_o}

unfoldable pub canon_terminal : List ℕ → Option Terminal
canon_terminal w = cond (same w (ascii "Ter")) (some ter) (cond (same w (ascii "X")) (some x) (cond (same w (ascii "*")) (some star) none))

abbrev pub canon_length : UncertainLengthChange → Option Length
canon_length None = some unsaid
canon_length Unknown = some unknown
canon_length (Known z) = map_o counted (unsigned_digits z)

abbrev pub canon_stop : List ℕ → UncertainLengthChange → Option Stop
canon_stop w n = both_o stop (canon_terminal w) (canon_length n)

-- a length only with a terminal
abbrev pub canon_fs_end : Option (List ℕ) → UncertainLengthChange → Option (Option Stop)
canon_fs_end none None = some none
canon_fs_end none Unknown = none
canon_fs_end none (Known z) = none
canon_fs_end (some w) n = map_o some (canon_stop w n)

-- a residue, or none
abbrev pub is_optional : Option (List ℕ) → Bool
is_optional none = true
is_optional (some r) = is_residue r

abbrev pub canon_earlier : Option (List ℕ) → UncertainLengthChange → Option ExtEnd
canon_earlier q None = none
canon_earlier q Unknown = none
canon_earlier q (Known z) = cond (is_optional q) (map_o (earlier q) (negated_digits z)) none

-- `extTer0`, and `-` where no terminal does: another residue or none, or a change below 0
abbrev pub canon_ext_end : Option (List ℕ) → UncertainLengthChange → Option ExtEnd
canon_ext_end none None = some nothing
canon_ext_end none Unknown = none
canon_ext_end none (Known z) = canon_earlier none (Known z)
canon_ext_end (some w) n = or_next (map_o later (canon_stop w n)) (canon_earlier (some w) n)

abbrev pub canon_protein_edit : ProteinEditV → Option ProteinEditTree
canon_protein_edit (fs_v r w n) = cond (is_optional r) (map_o (fs r) (canon_fs_end w n)) none
canon_protein_edit (ext_v r w n) = cond (is_optional r) (map_o (ext r) (canon_ext_end w n)) none
canon_protein_edit (subst_v r) = cond (is_residue r) (some (subst r)) (cond (same r (ascii "?")) (some subst_unknown) none)
canon_protein_edit (del_ins_v rs) = cond (is_residues rs) (some (del_ins rs)) none
canon_protein_edit (ins_pv rs) = cond (is_residues rs) (some (ins rs)) none
canon_protein_edit del_v = some del
canon_protein_edit dup_pv = some dup
canon_protein_edit ident_v = some equal
