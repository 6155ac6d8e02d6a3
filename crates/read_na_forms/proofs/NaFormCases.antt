-- The alternatives of the list parser, by the tests that the program makes, and that what is counted stays within the text.
use Prim.Native.Nat.{ℕ, ◌+◌, ◌-◌, ◌≤◌, ◌<◌}
use Prim.Native.Char.{code}
use mathlib.Core.Path.{◌≡◌, refl, ap, ◌∙◌}
use mathlib.Core.List.{List, [], ◌∷◌}
use mathlib.Core.Option.{none, some}
use mathlib.Core.Bool.{Bool, true, false, cond, ◌&&◌}
use native.Mathlib.Omega.{arith}
use lib.Dec.{eqb}
use lib.ListN.{length, get_or, take, drop, length-drop}
use Rattle.texts.specs.Ascii.{ascii}
use Rattle.texts.proofs.Slices.{tail_part, tail_room}
use Rattle.texts.specs.Runs.{run, front, behind}
use Rattle.texts.proofs.Runs.{run_le, front_length}
use Rattle.texts.specs.Words.{starts}
use Rattle.texts.proofs.Words.{starts_length}
use Rattle.alphabet.specs.Letters.{digit}
use Rattle.grammar.specs.NucleotideEdits.{NaEditTree, NaEditTree.equal, NaEditTree.swap, NaEditTree.del_ins, NaEditTree.del_num_ins, NaEditTree.del_num, NaEditTree.del, NaEditTree.ins, NaEditTree.inv_num, NaEditTree.inv}
use Rattle.lang_na_edits.specs.Choice.{on_word}
use Rattle.lang_na_edits.proofs.Choice.{on_none, on_some_lem}
use Rattle.lang_na_edits.specs.Parse.{parse_ident, parse_subst, inserted, after_del_num, after_del, after_inv, parse_ins}
use Rattle.std.specs.Prelude as Prelude
use Rattle.std.specs.Prelude.{None}
use Rattle.record.specs.declared.NaEdit as D
use Rattle.read_scan.specs.declared.Found.{Found}
use Rattle.read_scan.specs.Accounts.{answered}
use Rattle.read_na_forms.specs.NaEditAnswers.{na_edit_answer}

-- ---- parts of the text
-- a part to the end, where the run ends at m
pub part_behind : (p : ℕ → Bool) (s : List ℕ) (m : ℕ) → m ≡ run p s → take (length s - m) (drop m s) ≡ behind p s
unfolding behind
part_behind p s m e = tail_part m s ∙ rw e

pub counted_le : (p : ℕ → Bool) (s : List ℕ) (m : ℕ) → m ≡ run p s → m ≤ length s
counted_le p s m e = omega (arith, run_le p s)

-- what is left behind a word of three letters
pub word_long : (w s : List ℕ) → length w ≡ 3 → starts w s ≡ true → 3 ≤ length s
word_long w s l e = omega (arith, starts_length w s e)

pub word_room : (w s : List ℕ) (k : ℕ) → length w ≡ 3 → starts w s ≡ true → k + length s ≤ 4096 → k + 3 + length (take (length s - 3) (drop 3 s)) ≤ 4096
word_room w s k l e h = tail_room k 3 s h (word_long w s l e)

module _ (na : ℕ → Bool) where
  -- ---- the letters behind `ins`
  pub inserted_some : (s : List ℕ) (n : ℕ) → starts (ascii "ins") s ≡ true → n ≡ run na (take (length s - 3) (drop 3 s)) → n ≡ length (inserted na s)
  unfolding inserted
  inserted_some s n h e = rw (h, front_length) (e ∙ ap (run na) (tail_part 3 s))

  pub inserted_none : (s : List ℕ) → starts (ascii "ins") s ≡ false → 0 ≡ length (inserted na s)
  unfolding inserted
  inserted_none s h = rw h

  pub inserted_le : (s : List ℕ) → length (inserted na s) ≤ length s
  unfolding inserted
  inserted_le s = go (starts (ascii "ins") s) refl
    where
      go : (t : Bool) → starts (ascii "ins") s ≡ t → length (inserted na s) ≤ length s
      go true e = rw (e, inserted, front_length) (omega (arith, run_le na (drop 3 s), length-drop 3 s))
      go false e = rw (e, inserted) (omega arith)

  -- behind a run: b of them, where the run ends at m
  module _ (p : ℕ → Bool) (s : List ℕ) where
    pub inserted_behind : (m b : ℕ) → m ≡ run p s → b ≡ length (inserted na (take (length s - m) (drop m s))) → b ≡ length (inserted na (behind p s))
    inserted_behind m b em eb = eb ∙ ap (λ (y : List ℕ). length (inserted na y)) (part_behind p s m em)

    pub inserted_within : (b : ℕ) → b ≡ length (inserted na (behind p s)) → b ≤ length s
    unfolding behind
    inserted_within b e = omega (arith, inserted_le (drop (run p s) s), length-drop (run p s) s)

  -- ---- behind `del`
  module _ (s : List ℕ) where
    pub del_ins_lem : (length (inserted na (behind na s)) ≡ 0 → ⊥) → after_del na s ≡ del_ins (front na s) (inserted na (behind na s))
    unfolding after_del
    del_ins_lem n = on_some_lem _ (del_ins (front na s)) (inserted na (behind na s)) (omega arith)

    module _ (z : length (inserted na (behind na s)) ≡ 0) where
      pub del_digits : (length (front digit s) ≡ 0 → ⊥) → after_del na s ≡ after_del_num na (front digit s) (behind digit s)
      unfolding after_del
      del_digits n =
          on_none _ (del_ins (front na s)) (inserted na (behind na s)) z
          ∙ on_some_lem _ (λ ds. after_del_num na ds (behind digit s)) (front digit s) (omega arith)

      pub del_letters : length (front digit s) ≡ 0 → after_del na s ≡ del (front na s)
      unfolding after_del
      del_letters d =
          on_none _ (del_ins (front na s)) (inserted na (behind na s)) z
          ∙ on_none _ (λ ds. after_del_num na ds (behind digit s)) (front digit s) d

  pub del_num_lem : (ds s : List ℕ) → length (inserted na s) ≡ 0 → after_del_num na ds s ≡ del_num ds
  unfolding after_del_num
  del_num_lem ds s z = on_none _ (del_num_ins ds) (inserted na s) z

  pub del_num_ins_lem : (ds s : List ℕ) → (length (inserted na s) ≡ 0 → ⊥) → after_del_num na ds s ≡ del_num_ins ds (inserted na s)
  unfolding after_del_num
  del_num_ins_lem ds s n = on_some_lem _ (del_num_ins ds) (inserted na s) (omega arith)

  -- ---- the other words
  module _ (s : List ℕ) where
    pub ins_none : length (inserted na s) ≡ 0 → parse_ins na s ≡ none
    unfolding parse_ins
    ins_none z = on_none none (λ seq1. some (ins seq1)) (inserted na s) z

    pub ins_some : (length (inserted na s) ≡ 0 → ⊥) → parse_ins na s ≡ some (ins (inserted na s))
    unfolding parse_ins
    ins_some n = on_some_lem none (λ seq1. some (ins seq1)) (inserted na s) (omega arith)

    pub inv_digits : (length (front digit s) ≡ 0 → ⊥) → after_inv na s ≡ inv_num (front digit s)
    unfolding after_inv
    inv_digits n = on_some_lem _ inv_num (front digit s) (omega arith)

    pub inv_letters : length (front digit s) ≡ 0 → after_inv na s ≡ inv (front na s)
    unfolding after_inv
    inv_letters d = on_none _ inv_num (front digit s) d

    -- ---- what stands for itself
    pub ident_some : starts (ascii "=") (behind na s) ≡ true → parse_ident na s ≡ some (equal (front na s))
    unfolding parse_ident
    ident_some e = rw e

    pub ident_none : starts (ascii "=") (behind na s) ≡ false → parse_ident na s ≡ none
    unfolding parse_ident
    ident_none e = rw e

    -- ---- a substitution
    pub subst_short : length s < 3 → parse_subst na s ≡ none
    unfolding parse_subst
    subst_short h = go s h
      where
        go : (s : List ℕ) → length s < 3 → parse_subst na s ≡ none
        go [] h = refl
        go (a ∷ []) h = refl
        go (a ∷ c ∷ []) h = refl
        go (a ∷ c ∷ b ∷ s) h = absurd (omega arith)

    pub subst_is : 3 ≤ length s → parse_subst na s ≡ cond (eqb (get_or s 1 0) (code ">") && (na (get_or s 0 0) && na (get_or s 2 0))) (some (swap (get_or s 0 0) (get_or s 2 0))) none
    unfolding parse_subst
    subst_is h = go s h
      where
        go : (s : List ℕ) → 3 ≤ length s → parse_subst na s ≡ cond (eqb (get_or s 1 0) (code ">") && (na (get_or s 0 0) && na (get_or s 2 0))) (some (swap (get_or s 0 0) (get_or s 2 0))) none
        go [] h = absurd (omega arith)
        go (a ∷ []) h = absurd (omega arith)
        go (a ∷ c ∷ []) h = absurd (omega arith)
        go (a ∷ c ∷ b ∷ s) h = refl

-- ---- what f makes of the text behind a word of three letters
module _ (k : ℕ) (w : List ℕ) (f : List ℕ → NaEditTree) (s : List ℕ) where
  pub word_found : length w ≡ 3 → starts w s ≡ true → (r : Prelude.Option (Found D.NaEdit)) → r ≡ na_edit_answer k (some (f (take (length s - 3) (drop 3 s)))) → r ≡ na_edit_answer k (on_word w f s)
  word_found l h r e = rw (h, l, ← tail_part 3 s) e

  pub word_nothing : starts w s ≡ false → None ≡ na_edit_answer k (on_word w f s)
  unfolding answered
  word_nothing h = rw h
