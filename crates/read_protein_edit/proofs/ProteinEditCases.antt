-- The edit at the front: the clauses of the list parser, by the tests that the program makes.
use Prim.Native.Nat.{ℕ, ◌+◌, ◌≤◌}
use mathlib.Core.Path.{◌≡◌, refl, sym, ap, ◌∙◌}
use mathlib.Core.List.{List, [], ◌++◌}
use mathlib.Core.Option.{Option, none, some}
use mathlib.Core.Bool.{Bool, true, false}
use native.Mathlib.Omega.{arith}
use lib.ListN.{length, take, drop, length-append, length-drop}
use lib.Seq.{length-take-le}
use Rattle.texts.specs.Ascii.{ascii}
use Rattle.texts.specs.Slices.{tail}
use Rattle.texts.proofs.Slices.{tail_part, tail_room}
use Rattle.texts.specs.Words.{starts}
use Rattle.texts.proofs.Words.{starts_length}
use Rattle.residue.specs.Reading.{residue_len, residues_len}
use Rattle.residue.proofs.ResiduesRead.{residue_le, residues_le}
use Rattle.record.specs.declared.Span.{Span}
use Rattle.record.specs.declared.ProteinEdit as D
use Rattle.record.specs.declared.ProteinEdit.TheVariants.{Subst, DelIns, Ins, Del, Dup, Ident}
use Rattle.grammar.specs.Optional.{print_optional}
use Rattle.grammar.specs.ProteinEdits.{print_fs_end, print_ext_end, Stop, ExtEnd, ProteinEditTree, ProteinEditTree.subst, ProteinEditTree.subst_unknown, ProteinEditTree.equal, ProteinEditTree.del, ProteinEditTree.dup, ProteinEditTree.fs, ProteinEditTree.ext, ProteinEditTree.ins, ProteinEditTree.del_ins, print_protein_edit}
use Rattle.grammar.specs.Records.{span, span_of, protein_edit_at}
use Rattle.grammar.specs.Numbers.{protein_edit_numbers}
use Rattle.std.specs.Prelude as Prelude
use Rattle.std.specs.Prelude.{None, Some}
use Rattle.read_scan.specs.declared.Found.{Found}
use Rattle.read_scan.specs.Accounts.{answered, found, plain}
use Rattle.read_scan.specs.Findings.{merged}
use Rattle.read_scan.specs.Faults.{none as noFault, not_settled, settled_if, settled_none}
use Rattle.read_scan.specs.declared.Faults.{Faults}
use Rattle.lang_protein_edits.specs.Parse.{bytes_of, stop_at, ext_end_at, residues_behind, inserted_at, worded_at, parse_with, parse}
use Rattle.lang_protein_edits.proofs.Complete.{bytes_some}
use Rattle.lang_protein_edits.specs.Settled.{settled_protein_edit}
use Rattle.read_protein_ends.specs.EndAnswers.{fs_read, ext_read}
use Rattle.read_protein_edit.specs.ProteinEditAnswers.{protein_edit_answer}
use Rattle.read_protein_ends.proofs.Ends.{bytes_part, bytes_length}

-- a tree without numbers
found_if : (k : ℕ) (t : ProteinEditTree) (r : D.ProteinEdit) (n : ℕ) (f : Faults) → r ≡ protein_edit_at k t → n ≡ length (print_protein_edit t) → protein_edit_numbers k t ≡ [] → f ≡ settled_if (settled_protein_edit t) noFault
    → found r n f ≡ protein_edit_answer k (some t)
unfolding answered
found_if k t r n f er el en ef = rw (er, el, en, ef, settled_none (settled_protein_edit t))

found_plain : (k : ℕ) (t : ProteinEditTree) (r : D.ProteinEdit) (n : ℕ) → r ≡ protein_edit_at k t → n ≡ length (print_protein_edit t) → protein_edit_numbers k t ≡ [] → settled_protein_edit t ≡ true → Some (plain r n) ≡ protein_edit_answer k (some t)
found_plain k t r n er el en es = found_if k t r n noFault er el en (rw es refl)

-- a part of a part
pub tail_tail : (n j : ℕ) (s : List ℕ) → tail j (tail n s) ≡ drop j (drop n s)
tail_tail n j s = rw (tail_part n s) (tail_part j (drop n s))

-- ---- residues behind a word
module _ (w s : List ℕ) where
  pub behind_is : starts w s ≡ true → (n : ℕ) → n ≡ residues_len (tail (length w) s) → n ≡ residues_behind w s
  unfolding residues_behind
  behind_is h n e = rw h (e ∙ ap residues_len (tail_part (length w) s))

  pub behind_none : starts w s ≡ false → 0 ≡ residues_behind w s
  unfolding residues_behind
  behind_none h = rw h

  module _ (m : ℕ) (em : m ≡ residues_behind w s) where
    pub behind_room : (m ≡ 0 → ⊥) → length w + m ≤ length s
    unfolding residues_behind
    behind_room n = go (starts w s) refl
      where
        go : (b : Bool) → starts w s ≡ b → length w + m ≤ length s
        go true e =
            let q : m ≡ residues_len (drop (length w) s) = em ∙ rw (e, residues_behind) in
            omega (arith, residues_le (drop (length w) s), length-drop (length w) s, starts_length w s e)
        go false e = absurd (n (em ∙ sym (behind_none e)))

    pub inserted_none : m ≡ 0 → inserted_at w s ≡ none
    unfolding inserted_at bytes_of
    inserted_none e = rw (← em, e)

    pub inserted_some : (m ≡ 0 → ⊥) → inserted_at w s ≡ some (take m (drop (length w) s))
    unfolding inserted_at
    inserted_some n = rw (← em) (bytes_some m (drop (length w) s) n)

    -- the answer for the tree of them
    inserted_found : (k : ℕ) (tree : List ℕ → ProteinEditTree) (made : Span → D.ProteinEdit) → ((rs : List ℕ) → print_protein_edit (tree rs) ≡ w ++ rs) → ((rs : List ℕ) → protein_edit_at k (tree rs) ≡ made (span_of (k + length w) rs))
        → ((rs : List ℕ) → protein_edit_numbers k (tree rs) ≡ []) → ((rs : List ℕ) → settled_protein_edit (tree rs) ≡ true) → (p : Span) → (m ≡ 0 → ⊥) → p ≡ span (k + length w) m
        → Some (plain (made p) (length w + m)) ≡ protein_edit_answer k (some (tree (take m (drop (length w) s))))
    inserted_found k tree made text at numbers settled p n ep =
        let rs : List ℕ = take m (drop (length w) s) in
        let l : length rs ≡ m = length-take-le m (drop (length w) s) (omega (arith, behind_room n, length-drop (length w) s)) in
        let i : made p ≡ protein_edit_at k (tree rs) = rw (at rs, l, ep) in
        let j : length w + m ≡ length (print_protein_edit (tree rs)) = rw (text rs, length-append, l) in
        found_plain k (tree rs) (made p) (length w + m) i j (numbers rs) (settled rs)

-- ---- words
module _ (k : ℕ) (s : List ℕ) (m : ℕ) (em : m ≡ residues_behind (ascii "delins") s) where
  pub found_delins : (p : Span) → (m ≡ 0 → ⊥) → p ≡ span (k + 6) m → Some (plain (DelIns p) (6 + m)) ≡ protein_edit_answer k (worded_at s)
  unfolding worded_at
  found_delins p n ep =
      rw (inserted_some (ascii "delins") s m em n) (inserted_found (ascii "delins") s m em k del_ins DelIns (λ rs. refl) (λ rs. refl) (λ rs. refl) (λ rs. refl) p n ep)

  module _ (z : m ≡ 0) where
    pub found_del : starts (ascii "del") s ≡ true → Some (plain Del 3) ≡ protein_edit_answer k (worded_at s)
    unfolding worded_at
    found_del h = rw (inserted_none (ascii "delins") s m em z, h) (found_plain k del Del 3 refl refl refl refl)

    module _ (h : starts (ascii "del") s ≡ false) (j : ℕ) (ej : j ≡ residues_behind (ascii "ins") s) where
      pub found_ins : (p : Span) → (j ≡ 0 → ⊥) → p ≡ span (k + 3) j → Some (plain (Ins p) (3 + j)) ≡ protein_edit_answer k (worded_at s)
      unfolding worded_at
      found_ins p n ep =
          rw (inserted_none (ascii "delins") s m em z, h, inserted_some (ascii "ins") s j ej n) (inserted_found (ascii "ins") s j ej k ins Ins (λ rs. refl) (λ rs. refl) (λ rs. refl) (λ rs. refl) p n ep)

      module _ (y : j ≡ 0) where
        pub found_dup : starts (ascii "dup") s ≡ true → Some (plain Dup 3) ≡ protein_edit_answer k (worded_at s)
        unfolding worded_at
        found_dup i = rw (inserted_none (ascii "delins") s m em z, h, inserted_none (ascii "ins") s j ej y, i) (found_plain k dup Dup 3 refl refl refl refl)

        pub found_nothing : starts (ascii "dup") s ≡ false → None ≡ protein_edit_answer k (worded_at s)
        unfolding worded_at answered
        found_nothing i = rw (inserted_none (ascii "delins") s m em z, h, inserted_none (ascii "ins") s j ej y, i)

-- ---- a residue of n bytes at the front
module _ (k : ℕ) (s : List ℕ) (n : ℕ) (en : n ≡ residue_len s) where
  pub front_le : n ≤ length s
  front_le = omega (arith, residue_le s)

  parse_is : parse s ≡ parse_with n s
  unfolding parse
  parse_is = rw en

  test : (w : List ℕ) (b : Bool) → starts w (tail n s) ≡ b → starts w (drop n s) ≡ b
  test w b h = rw (tail_part n s) at h

  -- the part behind a word has its place within the 4096 bytes too
  pub word_room : (w : List ℕ) → starts w (tail n s) ≡ true → k + length s ≤ 4096 → k + n + length w + length (tail (length w) (tail n s)) ≤ 4096
  word_room w h p = tail_room (k + n) (length w) (tail n s) (tail_room k n s p front_le) (starts_length w (tail n s) h)

  -- a word behind it, and the end behind the word
  word_long : (w x : List ℕ) → n + length w + length x ≡ length (print_optional [] (bytes_of n s) ++ (w ++ x))
  word_long w x = rw (length-append, bytes_length n s front_le, length-append) (omega arith)

  fs_answer : (e : Option Stop) → Some (fs_read k n e) ≡ protein_edit_answer k (some (fs (bytes_of n s) e))
  unfolding answered fs_read
  fs_answer e = rw (word_long (ascii "fs") (print_fs_end e), bytes_length n s front_le, bytes_part k n s front_le)

  ext_answer : (e : ExtEnd) → Some (ext_read k n e) ≡ protein_edit_answer k (some (ext (bytes_of n s) e))
  unfolding answered ext_read
  ext_answer e = rw (word_long (ascii "ext") (print_ext_end e), bytes_length n s front_le, bytes_part k n s front_le)

  pub found_fs : (r : Found D.ProteinEdit) → starts (ascii "fs") (tail n s) ≡ true → r ≡ fs_read k n (stop_at (tail 2 (tail n s))) → Some r ≡ protein_edit_answer k (parse s)
  unfolding parse_with
  found_fs r h e = rw (parse_is, test (ascii "fs") true h, ← tail_tail n 2 s) (ap Some e ∙ fs_answer (stop_at (tail 2 (tail n s))))

  pub found_ext : (r : Found D.ProteinEdit) → starts (ascii "fs") (tail n s) ≡ false → starts (ascii "ext") (tail n s) ≡ true → r ≡ ext_read k n (ext_end_at (tail 3 (tail n s))) → Some r ≡ protein_edit_answer k (parse s)
  unfolding parse_with
  found_ext r nf h e = rw (parse_is, test (ascii "fs") false nf, test (ascii "ext") true h, ← tail_tail n 3 s) (ap Some e ∙ ext_answer (ext_end_at (tail 3 (tail n s))))

  module _ (nf : starts (ascii "fs") (tail n s) ≡ false) (nx : starts (ascii "ext") (tail n s) ≡ false) where
    pub found_equal : starts (ascii "=") s ≡ true → Some (plain Ident 1) ≡ protein_edit_answer k (parse s)
    unfolding parse_with
    found_equal h = rw (parse_is, test (ascii "fs") false nf, test (ascii "ext") false nx, h) (found_plain k equal Ident 1 refl refl refl refl)

    module _ (ne : starts (ascii "=") s ≡ false) where
      pub found_unknown : (p : Span) → starts (ascii "?") s ≡ true → p ≡ span k 1 → found (Subst p) 1 not_settled ≡ protein_edit_answer k (parse s)
      unfolding parse_with merged
      found_unknown p h ep =
          rw (parse_is, test (ascii "fs") false nf, test (ascii "ext") false nx, ne, h) (found_if k subst_unknown (Subst p) 1 not_settled (ap Subst ep) refl refl refl)

      module _ (nu : starts (ascii "?") s ≡ false) where
        pub found_subst : (p : Span) → (n ≡ 0 → ⊥) → p ≡ span k n → Some (plain (Subst p) n) ≡ protein_edit_answer k (parse s)
        unfolding parse_with
        found_subst p h ep =
            let l : length (take n s) ≡ n = length-take-le n s front_le in
            rw (parse_is, test (ascii "fs") false nf, test (ascii "ext") false nx, ne, nu, bytes_some n s h)
            (found_plain k (subst (take n s)) (Subst p) n (rw (l, ep)) (sym l) refl refl)

        pub found_worded : (r : Prelude.Option (Found D.ProteinEdit)) → n ≡ 0 → r ≡ protein_edit_answer k (worded_at s) → r ≡ protein_edit_answer k (parse s)
        unfolding parse_with bytes_of
        found_worded r z e = rw (parse_is, test (ascii "fs") false nf, test (ascii "ext") false nx, ne, nu, z) e
