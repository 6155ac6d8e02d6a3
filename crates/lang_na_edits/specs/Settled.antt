-- Edits that are written as they stand: with a plainly spelled number that fits, each is the one that canon gives for its value.
use Rattle.std.specs.Prelude.{Bool, true, not, eqb, length}
use Rattle.grammar.specs.NucleotideEdits.{NaEditTree, NaEditTree.equal, NaEditTree.swap, NaEditTree.del_ins, NaEditTree.del_num_ins, NaEditTree.del_num, NaEditTree.del, NaEditTree.ins, NaEditTree.dup, NaEditTree.inv_num, NaEditTree.inv}

-- `del` a `ins` b with as many letters on both sides: some of them have a shorter text, and one test tells it
abbrev pub settled_na_edit : NaEditTree → Bool
settled_na_edit (equal seq) = true
settled_na_edit (swap a b) = not (eqb a b)
settled_na_edit (del_ins seq seq1) = not (eqb (length seq) (length seq1))
settled_na_edit (del_num_ins ds seq1) = true
settled_na_edit (del_num ds) = true
settled_na_edit (del seq) = true
settled_na_edit (ins seq1) = true
settled_na_edit (dup seq) = true
settled_na_edit (inv_num ds) = true
settled_na_edit (inv seq) = true
