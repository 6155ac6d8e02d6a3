-- The tree whose text is to be written for the value of an edit, where there is one.
use Rattle.std.specs.Prelude.{ℕ, List, Bool, cond, ◌&&◌, leb, length, get_or}
use Rattle.std.proofs.Math.Option.{Option, none, some}
use Rattle.texts.specs.Runs.{every}
use Rattle.texts.specs.Words.{same, one_each}
use Rattle.numerals.specs.Written.{unsigned_digits}
use Rattle.grammar.specs.NucleotideEdits.{NaEditTree, NaEditTree.equal, NaEditTree.swap, NaEditTree.del_ins, NaEditTree.del_num_ins, NaEditTree.del_num, NaEditTree.del, NaEditTree.ins, NaEditTree.dup, NaEditTree.inv_num, NaEditTree.inv}
use Rattle.grammar.specs.Values as Values
use Rattle.grammar.specs.Values.{NaEditV, NaEditV.ref_alt, NaEditV.num_alt, NaEditV.del_ref, NaEditV.ins_v, NaEditV.dup_v, NaEditV.inv_ref}
use Rattle.lang.specs.Canon.{map_o}

-- `a=`, else `A>T`, else `del` a `ins` b with letters b
abbrev pub canon_ref_alt : List ℕ → List ℕ → Option NaEditTree
canon_ref_alt a b =
    cond (same a b) (some (equal a))
    (cond (one_each a b) (some (swap (get_or a 0 0) (get_or b 0 0)))
    (cond (leb 1 (length b)) (some (del_ins a b)) none))

module _ (na : ℕ → Bool) where
  abbrev pub canon_na_edit : NaEditV → Option NaEditTree
  canon_na_edit (ref_alt a b) = cond (every na a && every na b) (canon_ref_alt a b) none
  canon_na_edit (num_alt n b) = cond (every na b && leb 1 (length b)) (map_o (λ ds. del_num_ins ds b) (unsigned_digits n)) none
  canon_na_edit (del_ref a) = cond (every na a) (some (del a)) none
  canon_na_edit (Values.NaEditV.del_num n) = map_o del_num (unsigned_digits n)
  canon_na_edit (ins_v b) = cond (every na b && leb 1 (length b)) (some (ins b)) none
  canon_na_edit (dup_v a) = cond (every na a) (some (dup a)) none
  canon_na_edit (inv_ref a) = cond (every na a) (some (inv a)) none
  canon_na_edit (Values.NaEditV.inv_num n) = map_o inv_num (unsigned_digits n)
