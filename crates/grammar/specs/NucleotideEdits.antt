-- Document 01, "Nucleotide edits (c, g, m, n, r)", over an alphabet of letters.
use Rattle.std.specs.Prelude.{ℕ, ◌≡◌, List, [], ◌∷◌, ◌++◌, Bool, true}
use Rattle.texts.specs.Ascii.{ascii}
use Rattle.texts.specs.Runs.{every, Some}
use Rattle.grammar.specs.Positions.{Digits}

-- a row of the table, in its order
pub data NaEditTree : Type 0 where
  equal : List ℕ → NaEditTree
  swap : ℕ → ℕ → NaEditTree
  del_ins : List ℕ → List ℕ → NaEditTree
  del_num_ins : List ℕ → List ℕ → NaEditTree
  del_num del : List ℕ → NaEditTree
  ins dup : List ℕ → NaEditTree
  inv_num inv : List ℕ → NaEditTree

abbrev pub print_na_edit : NaEditTree → List ℕ
print_na_edit (equal seq) = seq ++ ascii "="
print_na_edit (swap a b) = a ∷ (ascii ">" ++ (b ∷ []))
print_na_edit (del_ins seq seq1) = ascii "del" ++ (seq ++ (ascii "ins" ++ seq1))
print_na_edit (del_num_ins ds seq1) = ascii "del" ++ (ds ++ (ascii "ins" ++ seq1))
print_na_edit (del_num ds) = ascii "del" ++ ds
print_na_edit (del seq) = ascii "del" ++ seq
print_na_edit (ins seq1) = ascii "ins" ++ seq1
print_na_edit (dup seq) = ascii "dup" ++ seq
print_na_edit (inv_num ds) = ascii "inv" ++ ds
print_na_edit (inv seq) = ascii "inv" ++ seq

module _ (na : ℕ → Bool) where
  -- zero or more letters, one or more letters
  abbrev pub Seq : List ℕ → Type 0
  Seq s = every na s ≡ true

  abbrev pub Seq1 : List ℕ → Type 0
  Seq1 s = Some na s

  abbrev pub WfNaEdit : NaEditTree → Type 0
  WfNaEdit (equal seq) = Seq seq
  WfNaEdit (swap a b) = (na a ≡ true) × (na b ≡ true)
  WfNaEdit (del_ins seq seq1) = Seq seq × Seq1 seq1
  WfNaEdit (del_num_ins ds seq1) = Digits ds × Seq1 seq1
  WfNaEdit (del_num ds) = Digits ds
  WfNaEdit (del seq) = Seq seq
  WfNaEdit (ins seq1) = Seq1 seq1
  WfNaEdit (dup seq) = Seq seq
  WfNaEdit (inv_num ds) = Digits ds
  WfNaEdit (inv seq) = Seq seq
