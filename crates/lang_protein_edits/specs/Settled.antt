-- Edits that are written as they stand: with a plainly spelled number that fits, each is the one that canon gives for its value.
use Rattle.std.specs.Prelude.{Bool, true, false}
use Rattle.grammar.specs.ProteinEdits.{ExtEnd, ExtEnd.nothing, ExtEnd.later, ExtEnd.earlier, ProteinEditTree, ProteinEditTree.subst, ProteinEditTree.subst_unknown, ProteinEditTree.equal, ProteinEditTree.del, ProteinEditTree.dup, ProteinEditTree.ins, ProteinEditTree.del_ins, ProteinEditTree.fs, ProteinEditTree.ext}

-- not `-` and digits, which may stand for a terminal and 0
abbrev pub settled_ext_end : ExtEnd → Bool
settled_ext_end nothing = true
settled_ext_end (later e) = true
settled_ext_end (earlier r ds) = false

-- not `?`, which may be the Met-1 record's
abbrev pub settled_protein_edit : ProteinEditTree → Bool
settled_protein_edit (subst r) = true
settled_protein_edit subst_unknown = false
settled_protein_edit equal = true
settled_protein_edit del = true
settled_protein_edit dup = true
settled_protein_edit (ins rs) = true
settled_protein_edit (del_ins rs) = true
settled_protein_edit (fs r e) = true
settled_protein_edit (ext r e) = settled_ext_end e
