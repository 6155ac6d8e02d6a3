-- Laws of the functions: a row is found where three letters stand, the bytes of residues, and texts that are residues as a whole.
use Rattle.std.specs.Prelude.{is_some, Option, Some}
use Prim.Native.Nat.{ℕ, suc, ◌+◌, ◌-◌, ◌≤◌}
use mathlib.Core.Path.{◌≡◌, refl, sym, ap, ◌∙◌}
use mathlib.Core.Bool.{Bool, true, false, cond, ◌||◌}
use mathlib.Core.List.{List, [], ◌∷◌}
use native.Mathlib.Omega.{arith}
use lib.Dec.{eqb}
use lib.ListN.{length, take, drop, get_or, length-drop}
use lib.Seq.{drop-drop, take-length}
use borrow.Author.Tests.{eqb-true, eqb-false, ne_eqb}
use Rattle.texts.proofs.Tests.{and-true, never}
use Rattle.texts.specs.Runs.{run}
use Rattle.texts.specs.Words.{starts, same}
use Rattle.texts.proofs.Words.{starts_take}
use Rattle.texts.proofs.Slices.{tail_part}
use Rattle.alphabet.specs.Letters.{residue}
use Rattle.residue_rows.specs.Rows.{rows, first_from, row_of}
use Rattle.residue_rows.specs.EachRow.{each, long, rows_long}
use Rattle.residue.specs.Residues.{one_of, is_three, is_one}
use Rattle.residue.specs.Reading.{residue_len, threes_len, residues_len}
use Rattle.residue.proofs.ResiduesRead.{three_length, taken_le, some_threes, no_threes}

-- ---- a row is found exactly where three letters stand at the front
found_cond : (t : Bool) (i : ℕ) (o : Option ℕ) (u : Bool) → is_some o ≡ u → is_some (cond t (Some i) o) ≡ t || u
found_cond true i o u e = refl
found_cond false i o u e = e

found_from : (i : ℕ) (rs : List (List ℕ)) (s : List ℕ) → each long rs ≡ true → is_some (first_from i rs s) ≡ one_of rs (take 3 s)
unfolding first_from one_of
found_from i [] s h = refl
found_from i (r ∷ rs) s h =
    let p = and-true (long r) (each long rs) h in
    let e : starts r s ≡ same r (take 3 s) = starts_take r s ∙ rw (eqb-true (length r) 3 p.0) in
    rw e (found_cond (same r (take 3 s)) i (first_from (suc i) rs s) (one_of rs (take 3 s)) (found_from (suc i) rs s p.1))

found_three : (s : List ℕ) → is_some (row_of s) ≡ is_three (take 3 s)
unfolding row_of is_three
found_three s = found_from 0 rows s rows_long

pub row_three : (s : List ℕ) {o : Option ℕ} {t u : Bool} → o ≡ row_of s → t ≡ is_some o → t ≡ u → is_three (take 3 s) ≡ u
row_three s e f g = sym (found_three s) ∙ ap is_some (sym e) ∙ sym f ∙ g

-- the row looked for in `&s[i..]`
pub row_three_from : (s : List ℕ) (i : ℕ) {o : Option ℕ} {t u : Bool} → o ≡ row_of (take (length s - i) (drop i s)) → t ≡ is_some o → t ≡ u → is_three (take 3 (drop i s)) ≡ u
row_three_from s i e f g = row_three (drop i s) (rw tail_part at e) f g

pub three_from_le : (s : List ℕ) (i : ℕ) → i ≤ length s → is_three (take 3 (drop i s)) ≡ true → i + 3 ≤ length s
three_from_le s i h t = omega (arith, length-drop i s, taken_le 3 (drop i s) (three_length (take 3 (drop i s)) t))

-- ---- the bytes of a residue, and of residues
one_byte : (s : List ℕ) → (length s ≡ 0 → ⊥) → residue (get_or s 0 0) ≡ is_one (take 1 s)
unfolding is_one
one_byte [] h = absurd (h refl)
one_byte (b ∷ s) h = refl

no_byte : (s : List ℕ) → length s ≡ 0 → false ≡ is_one (take 1 s)
unfolding is_one
no_byte [] h = refl
no_byte (b ∷ s) h = absurd (omega arith)

pub len_three : (s : List ℕ) → is_three (take 3 s) ≡ true → 3 ≡ residue_len s
unfolding residue_len
len_three s e = rw e

module _ (s : List ℕ) (e : is_three (take 3 s) ≡ false) where
  not_three : cond (is_one (take 1 s)) 1 0 ≡ residue_len s
  unfolding residue_len
  not_three = rw e

  pub len_empty : length s ≡ 0 → 0 ≡ residue_len s
  len_empty h = rw (← no_byte s h) at not_three

  pub len_one : (length s ≡ 0 → ⊥) → (t : Bool) → residue (get_or s 0 0) ≡ t → cond t 1 0 ≡ residue_len s
  len_one h t q = rw (← q, one_byte s h) not_three

module _ (s : List ℕ) (n : ℕ) (e : n ≡ threes_len s) where
  pub len_threes : (n ≡ 0 → ⊥) → n ≡ residues_len s
  unfolding residues_len
  len_threes h = rw (← e, ne_eqb n 0 h)

  pub len_ones : n ≡ 0 → (r : ℕ) → r ≡ run residue s → r ≡ residues_len s
  unfolding residues_len
  len_ones z r q = rw (← e, z) q

module _ (s : List ℕ) (i : ℕ) (inv : threes_len s ≡ i + threes_len (drop i s)) where
  pub more_threes : is_three (take 3 (drop i s)) ≡ true → threes_len s ≡ i + 3 + threes_len (drop (i + 3) s)
  more_threes t = rw (← drop-drop 3 i s) (omega (arith, some_threes (drop i s) t))

  pub end_threes : is_three (take 3 (drop i s)) ≡ false → i ≡ threes_len s
  end_threes t = omega (arith, no_threes (drop i s) t)

-- ---- a text is one exactly where what is read of it is the whole
module _ (p : List ℕ → Bool) (len : List ℕ → ℕ) (some : (s : List ℕ) → p s ≡ true → 1 ≤ length s)
    (complete : (s : List ℕ) → p s ≡ true → len s ≡ length s) (sound : (s : List ℕ) → (len s ≡ 0 → ⊥) → p (take (len s) s) ≡ true) (s : List ℕ) where
  pub whole_empty : length s ≡ 0 → false ≡ p s
  whole_empty h = sym (never (p s) (λ q. omega (arith, some s q)))

  pub whole : (length s ≡ 0 → ⊥) → {n : ℕ} → n ≡ len s → eqb n (length s) ≡ p s
  whole h e = rw e (go (eqb (len s) (length s)) refl)
    where
      go : (t : Bool) → eqb (len s) (length s) ≡ t → eqb (len s) (length s) ≡ p s
      go true q =
          let l = eqb-true (len s) (length s) q in
          let f : take (len s) s ≡ s = rw l (take-length s) in
          q ∙ sym (rw f at (sound s (λ z. h (sym l ∙ z))))
      go false q = q ∙ sym (never (p s) (λ r. eqb-false (len s) (length s) q (complete s r)))
