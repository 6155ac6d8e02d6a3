-- Document 01, "Protein bodies (p)": the edits.
use Rattle.std.specs.Prelude.{ℕ, ◌≡◌, List, [], ◌++◌, true}
use Rattle.std.proofs.Math.Option.{Option, none, some}
use Rattle.texts.specs.Ascii.{ascii}
use Rattle.residue.specs.Residues.{is_residue, is_residues}
use Rattle.grammar.specs.Optional.{print_optional, WfOptional}
use Rattle.grammar.specs.Positions.{Digits}

-- a terminal: `Ter`, `X` or `*`
pub data Terminal : Type 0 where
  ter x star : Terminal

-- after a terminal: digits, `?` or nothing
pub data Length : Type 0 where
  counted : List ℕ → Length
  unknown : Length
  unsaid : Length

pub data Stop : Type 0 where
  stop : Terminal → Length → Stop

-- behind `ext`: nothing, or a terminal, or an optional residue with `-` and unsigned digits
pub data ExtEnd : Type 0 where
  nothing : ExtEnd
  later : Stop → ExtEnd
  earlier : Option (List ℕ) → List ℕ → ExtEnd

pub data ProteinEditTree : Type 0 where
  subst : List ℕ → ProteinEditTree
  subst_unknown equal del dup : ProteinEditTree
  ins del_ins : List ℕ → ProteinEditTree
  fs : Option (List ℕ) → Option Stop → ProteinEditTree
  ext : Option (List ℕ) → ExtEnd → ProteinEditTree

abbrev pub print_terminal : Terminal → List ℕ
print_terminal ter = ascii "Ter"
print_terminal x = ascii "X"
print_terminal star = ascii "*"

abbrev pub print_length : Length → List ℕ
print_length (counted ds) = ds
print_length unknown = ascii "?"
print_length unsaid = []

abbrev pub print_stop : Stop → List ℕ
print_stop (stop t n) = print_terminal t ++ print_length n

abbrev pub print_fs_end : Option Stop → List ℕ
print_fs_end none = []
print_fs_end (some e) = print_stop e

abbrev pub print_ext_end : ExtEnd → List ℕ
print_ext_end nothing = []
print_ext_end (later e) = print_stop e
print_ext_end (earlier r ds) = print_optional [] r ++ (ascii "-" ++ ds)

abbrev pub print_protein_edit : ProteinEditTree → List ℕ
print_protein_edit (subst r) = r
print_protein_edit subst_unknown = ascii "?"
print_protein_edit equal = ascii "="
print_protein_edit del = ascii "del"
print_protein_edit dup = ascii "dup"
print_protein_edit (ins rs) = ascii "ins" ++ rs
print_protein_edit (del_ins rs) = ascii "delins" ++ rs
print_protein_edit (fs r e) = print_optional [] r ++ (ascii "fs" ++ print_fs_end e)
print_protein_edit (ext r e) = print_optional [] r ++ (ascii "ext" ++ print_ext_end e)

abbrev pub Residue : List ℕ → Type 0
Residue r = is_residue r ≡ true

abbrev pub WfLength : Length → Type 0
WfLength (counted ds) = Digits ds
WfLength unknown = Unit
WfLength unsaid = Unit

abbrev pub WfStop : Stop → Type 0
WfStop (stop t n) = WfLength n

abbrev pub WfFsEnd : Option Stop → Type 0
WfFsEnd none = Unit
WfFsEnd (some e) = WfStop e

abbrev pub WfExtEnd : ExtEnd → Type 0
WfExtEnd nothing = Unit
WfExtEnd (later e) = WfStop e
WfExtEnd (earlier r ds) = WfOptional Residue r × Digits ds

-- `ins` and `delins`: one or more residues, all of three letters or all of one
abbrev pub WfProteinEdit : ProteinEditTree → Type 0
WfProteinEdit (subst r) = Residue r
WfProteinEdit subst_unknown = Unit
WfProteinEdit equal = Unit
WfProteinEdit del = Unit
WfProteinEdit dup = Unit
WfProteinEdit (ins rs) = is_residues rs ≡ true
WfProteinEdit (del_ins rs) = is_residues rs ≡ true
WfProteinEdit (fs r e) = WfOptional Residue r × WfFsEnd e
WfProteinEdit (ext r e) = WfOptional Residue r × WfExtEnd e
