-- Laws of residues: what is read at the front of a text is a residue, and each residue is read.
use Rattle.std.specs.Prelude.{ℕ, zero, suc, ◌+◌, ◌≤◌, ◌≡◌, Bool, true, false, cond, not, ◌||◌, ◌⊎◌, eqb, leb, length, take, drop}
use Rattle.std.proofs.Math.Path.{refl}
use Rattle.std.proofs.Common.{sym, ◌∙◌, inl, inr, arith, add-zero, length-take-le, take_at, take-add, eqb-true, ne_eqb, leb-true, le-leb}
use mathlib.Core.List.{List, [], ◌∷◌, ◌++◌, map, append-nil}
use Rattle.std.proofs.Math.Logic.{⊎_elim}
use Rattle.std.proofs.lemmas.Bool.{not-true}
use Rattle.texts.specs.Ascii.{ascii}
use Rattle.texts.proofs.Tests.{and-true, true_and, or_true, left_or, right_or, never, clash}
use Rattle.texts.specs.Runs.{every, Some, run, front}
use Rattle.texts.proofs.Runs.{every_append, every_wider, one_every, run_le, run_nil, run_head, run_is, front_every}
use Rattle.texts.specs.Words.{same}
use Rattle.texts.proofs.Words.{same_true}
use Rattle.alphabet.specs.Letters.{among, digit, residue}
use Rattle.alphabet.proofs.Apart.{none_among}
use Rattle.residue_rows.specs.Rows.{rows}
use Rattle.residue_rows.specs.EachRow.{each, long, rows_long}
use Rattle.residue.specs.Residues.{one_of, is_three, is_one, is_residue, threes, is_residues}
use Rattle.residue.specs.Reading.{residue_len, threes_len, residues_len, continues}
use Rattle.residue.specs.ResiduesRead.{WordsBehind}

-- ---- one of some texts passes what each of them passes
one_of_each : (p : List ℕ → Bool) (rs : List (List ℕ)) (s : List ℕ) → each p rs ≡ true → one_of rs s ≡ true → p s ≡ true
unfolding one_of
one_of_each p [] s e h = absurd (clash h refl)
one_of_each p (r ∷ rs) s e h =
    let a = and-true (p r) (each p rs) e in
    ⊎_elim (λ q. rw (sym (same_true r s q)) a.0) (λ q. one_of_each p rs s a.1 q) (or_true (same r s) (one_of rs s) h)

-- ---- residues of three letters
abbrev headed : (ℕ → Bool) → List ℕ → Bool
headed p [] = false
headed p (b ∷ s) = p b

pub three_length : (s : List ℕ) → is_three s ≡ true → length s ≡ 3
unfolding is_three
three_length s h = eqb-true (length s) 3 (one_of_each long rows s rows_long h)

three_first : (b : ℕ) (s : List ℕ) → is_three (b ∷ s) ≡ true → residue b ≡ true
unfolding is_three rows residue
three_first b s = one_of_each (headed residue) rows (b ∷ s) refl

three_second : (a b : ℕ) (s : List ℕ) → is_three (a ∷ b ∷ s) ≡ true → residue b ≡ false
unfolding is_three rows residue
three_second a b s h = not-true (residue b) (one_of_each (λ r. headed (λ x. not (residue x)) (drop 1 r)) rows (a ∷ b ∷ s) refl h)

three_continues : (b : ℕ) (x : List ℕ) → is_three (take 3 (b ∷ x)) ≡ true → continues x ≡ true
unfolding is_three rows continues one_of same
three_continues b x = one_of_each (λ r. one_of (map (drop 1) rows) (drop 1 r)) rows (take 3 (b ∷ x)) refl

-- ---- texts that continue no residue of one letter
pub continues_nil : continues [] ≡ false
unfolding continues one_of same rows
continues_nil = refl

-- a first byte that is no row's second letter
pub continues_first : (b : ℕ) (x : List ℕ) → among b (ascii "aehilrsy") ≡ false → continues (b ∷ x) ≡ false
unfolding continues rows
continues_first b x h =
    never (continues (b ∷ x)) (λ q. clash (one_of_each (headed (λ c. among c (ascii "aehilrsy"))) (map (drop 1) rows) (b ∷ take 1 x) refl q) h)

pub continues_apart : (p : ℕ → Bool) (b : ℕ) (x : List ℕ) → every (λ c. not (p c)) (ascii "aehilrsy") ≡ true → p b ≡ true → continues (b ∷ x) ≡ false
continues_apart p b x e h = continues_first b x (none_among p b (ascii "aehilrsy") e h)

pub continues_digit : (b : ℕ) (x : List ℕ) → digit b ≡ true → continues (b ∷ x) ≡ false
unfolding digit every
continues_digit b x = continues_apart digit b x refl

pub continues_digits : (d x : List ℕ) → Some digit d → continues (d ++ x) ≡ false
unfolding every
continues_digits [] x h = absurd (omega (arith, h.some))
continues_digits (b ∷ d) x h = continues_digit b (d ++ x) (and-true (digit b) (every digit d) h.all).0

pub words_behind : (x : List ℕ) → WordsBehind x
unfolding continues one_of same rows
words_behind x = record { fs = refl; ext = refl; del = refl; dup = refl; ins = refl }

-- ---- residues of one letter
one_length : (s : List ℕ) → is_one s ≡ true → length s ≡ 1
unfolding is_one
one_length [] h = absurd (clash h refl)
one_length (b ∷ []) h = refl
one_length (b ∷ c ∷ s) h = absurd (clash h refl)

one_first : (b : ℕ) (s : List ℕ) → is_one (b ∷ s) ≡ true → residue b ≡ true
unfolding is_one
one_first b [] h = h
one_first b (c ∷ s) h = absurd (clash h refl)

one_no_three : (b : ℕ) (x : List ℕ) → continues x ≡ false → is_three (take 3 (b ∷ x)) ≡ false
one_no_three b x stop = never (is_three (take 3 (b ∷ x))) (λ q. clash (three_continues b x q) stop)

one_complete : (r x : List ℕ) → is_one r ≡ true → continues x ≡ false → residue_len (r ++ x) ≡ 1
unfolding residue_len is_one
one_complete [] x h stop = absurd (clash h refl)
one_complete (b ∷ []) x h stop = rw (one_no_three b x stop, h)
one_complete (b ∷ c ∷ s) x h stop = absurd (clash h refl)

-- ---- one residue
pub residue_complete : (r x : List ℕ) → is_residue r ≡ true → continues x ≡ false → residue_len (r ++ x) ≡ length r
unfolding is_residue residue_len
residue_complete r x h stop = ⊎_elim three (λ q. one_complete r x q stop ∙ sym (one_length r q)) (or_true (is_three r) (is_one r) h)
  where
    three : is_three r ≡ true → residue_len (r ++ x) ≡ length r
    three t = rw (residue_len, take_at r x 3 (three_length r t), t, three_length r t)

pub residue_whole : (r : List ℕ) → is_residue r ≡ true → residue_len r ≡ length r
residue_whole r h = rw append-nil at (residue_complete r [] h continues_nil)

-- what is read, by which of the two it is
data Read (s : List ℕ) : ℕ → Type 0 where
  three : is_three (take 3 s) ≡ true → Read s 3
  one : is_three (take 3 s) ≡ false → is_one (take 1 s) ≡ true → Read s 1
  none : is_three (take 3 s) ≡ false → is_one (take 1 s) ≡ false → Read s 0

read : (s : List ℕ) → Read s (residue_len s)
unfolding residue_len
read s = go (is_three (take 3 s)) (is_one (take 1 s)) refl refl
  where
    go : (t u : Bool) → is_three (take 3 s) ≡ t → is_one (take 1 s) ≡ u → Read s (cond t 3 (cond u 1 0))
    go true u e f = three e
    go false true e f = one e f
    go false false e f = none e f

pub taken_le : (n : ℕ) (s : List ℕ) → length (take n s) ≡ n → n ≤ length s
taken_le zero s h = omega arith
taken_le (suc n) [] h = absurd (omega arith)
taken_le (suc n) (b ∷ s) h = omega (arith, taken_le n s (omega arith))

read_le : {s : List ℕ} {n : ℕ} → Read s n → n ≤ length s
read_le {s} (three t) = taken_le 3 s (three_length (take 3 s) t)
read_le {s} (one e t) = taken_le 1 s (one_length (take 1 s) t)
read_le (none e f) = omega arith

pub residue_le : (s : List ℕ) → residue_len s ≤ length s
residue_le s = read_le (read s)

read_sound : {s : List ℕ} {n : ℕ} → Read s n → (n ≡ 0 → ⊥) → is_residue (take n s) ≡ true
unfolding is_residue
read_sound {s} (three t) h = left_or (is_one (take 3 s)) t
read_sound {s} (one e t) h = right_or (is_three (take 1 s)) t
read_sound (none e f) h = absurd (h refl)

pub residue_sound : (s : List ℕ) → (residue_len s ≡ 0 → ⊥) → is_residue (take (residue_len s) s) ≡ true
residue_sound s = read_sound (read s)

pub residue_length : (r : List ℕ) → is_residue r ≡ true → (length r ≡ 1) ⊎ (length r ≡ 3)
unfolding is_residue
residue_length r h = ⊎_elim (λ q. inr (three_length r q)) (λ q. inl (one_length r q)) (or_true (is_three r) (is_one r) h)

pub residue_first : (b : ℕ) (s : List ℕ) → is_residue (b ∷ s) ≡ true → residue b ≡ true
unfolding is_residue
residue_first b s h = ⊎_elim (three_first b s) (one_first b s) (or_true (is_three (b ∷ s)) (is_one (b ∷ s)) h)

pub residue_some : (r : List ℕ) → is_residue r ≡ true → 1 ≤ length r
residue_some r h = ⊎_elim (λ q. omega arith) (λ q. omega arith) (residue_length r h)

-- no residue stands where no residue's first byte does
three_stop : (x : List ℕ) → run residue x ≡ 0 → is_three (take 3 x) ≡ false
three_stop [] h = never (is_three []) (λ q. omega (arith, three_length [] q))
three_stop (b ∷ x) h = never (is_three (take 3 (b ∷ x))) (λ q. clash (three_first b (take 2 x) q) (run_head residue b x h))

pub residue_stop : (x : List ℕ) → run residue x ≡ 0 → residue_len x ≡ 0
unfolding residue_len is_one
residue_stop [] h = rw (three_stop [] h)
residue_stop (b ∷ x) h = rw (three_stop (b ∷ x) h, run_head residue b x h)

-- ---- residues of three letters, one behind the other
threes_append : (r x : List ℕ) → threes r ≡ true → threes_len (r ++ x) ≡ length r + threes_len x
unfolding threes threes_len
threes_append [] x h = omega arith
threes_append (a ∷ []) x h = absurd (clash h refl)
threes_append (a ∷ b ∷ []) x h = absurd (clash h refl)
threes_append (a ∷ b ∷ c ∷ r) x h =
    let e = and-true (is_three (a ∷ b ∷ c ∷ [])) (threes r) h in
    rw e.0 (omega (arith, threes_append r x e.1))

threes_sound : (s : List ℕ) → threes (take (threes_len s) s) ≡ true
unfolding threes threes_len
threes_sound [] = refl
threes_sound (a ∷ []) = refl
threes_sound (a ∷ b ∷ []) = refl
threes_sound (a ∷ b ∷ c ∷ s) = go (is_three (a ∷ b ∷ c ∷ [])) refl (threes_sound s)
  where
    go : (t : Bool) → is_three (a ∷ b ∷ c ∷ []) ≡ t → threes (take (threes_len s) s) ≡ true → threes (take (threes_len (a ∷ b ∷ c ∷ s)) (a ∷ b ∷ c ∷ s)) ≡ true
    go true e h = rw (threes_len, e, take-add 3 (threes_len s) (a ∷ b ∷ c ∷ s)) (true_and e h)
    go false e h = rw (threes_len, e)

threes_le : (s : List ℕ) → threes_len s ≤ length s
unfolding threes_len
threes_le [] = omega arith
threes_le (a ∷ []) = omega arith
threes_le (a ∷ b ∷ []) = omega arith
threes_le (a ∷ b ∷ c ∷ s) = go (is_three (a ∷ b ∷ c ∷ [])) refl (threes_le s)
  where
    go : (t : Bool) → is_three (a ∷ b ∷ c ∷ []) ≡ t → threes_len s ≤ length s → threes_len (a ∷ b ∷ c ∷ s) ≤ suc (suc (suc (length s)))
    go true e h = rw (threes_len, e) (omega arith)
    go false e h = rw (threes_len, e) (omega arith)

pub no_threes : (s : List ℕ) → is_three (take 3 s) ≡ false → threes_len s ≡ 0
unfolding threes_len
no_threes [] h = refl
no_threes (a ∷ []) h = refl
no_threes (a ∷ b ∷ []) h = refl
no_threes (a ∷ b ∷ c ∷ s) h = rw h

pub some_threes : (s : List ℕ) → is_three (take 3 s) ≡ true → threes_len s ≡ 3 + threes_len (drop 3 s)
unfolding threes_len
some_threes [] h = absurd (omega (arith, three_length [] h))
some_threes (a ∷ []) h = absurd (omega (arith, three_length (a ∷ []) h))
some_threes (a ∷ b ∷ []) h = absurd (omega (arith, three_length (a ∷ b ∷ []) h))
some_threes (a ∷ b ∷ c ∷ s) h = rw h

-- residues of one letter start with none of three
ones_no_three : (r x : List ℕ) → 1 ≤ length r → every residue r ≡ true → continues x ≡ false → is_three (take 3 (r ++ x)) ≡ false
unfolding every
ones_no_three [] x l h stop = absurd (omega arith)
ones_no_three (b ∷ []) x l h stop = one_no_three b x stop
ones_no_three (b ∷ c ∷ r) x l h stop =
    let d = and-true (residue b) (every residue (c ∷ r)) h in
    let e = and-true (residue c) (every residue r) d.1 in
    never (is_three (take 3 (b ∷ c ∷ r ++ x))) (λ q. clash e.0 (three_second b c (take 1 (r ++ x)) q))

-- ---- residues, all of three letters or all of one
residues_parts : (r : List ℕ) → is_residues r ≡ true → (1 ≤ length r) × ((threes r ≡ true) ⊎ (every residue r ≡ true))
unfolding is_residues
residues_parts r h =
    let p = and-true (leb 1 (length r)) (threes r || every residue r) h in
    (leb-true 1 (length r) p.0, or_true (threes r) (every residue r) p.1)

parts_residues : (r : List ℕ) → 1 ≤ length r → threes r || every residue r ≡ true → is_residues r ≡ true
unfolding is_residues
parts_residues r l h = true_and (le-leb 1 (length r) l) h

pub residues_some : (r : List ℕ) → is_residues r ≡ true → 1 ≤ length r
residues_some r h = (residues_parts r h).0

pub residues_complete : (r x : List ℕ) → is_residues r ≡ true → run residue x ≡ 0 → continues x ≡ false → residues_len (r ++ x) ≡ length r
unfolding residues_len
residues_complete r x h end stop = ⊎_elim of_three of_one parts.1
  where
    parts : (1 ≤ length r) × ((threes r ≡ true) ⊎ (every residue r ≡ true))
    parts = residues_parts r h

    of_three : threes r ≡ true → residues_len (r ++ x) ≡ length r
    of_three t =
        let n : threes_len (r ++ x) ≡ length r = threes_append r x t ∙ rw (no_threes x (three_stop x end)) (add-zero (length r)) in
        let e : eqb (length r) 0 ≡ false = ne_eqb (length r) 0 (λ q. omega (arith, parts.0)) in
        rw (residues_len, n, e)

    of_one : every residue r ≡ true → residues_len (r ++ x) ≡ length r
    of_one o = rw (residues_len, no_threes (r ++ x) (ones_no_three r x parts.0 o stop)) (run_is residue r x o end)

pub residues_whole : (r : List ℕ) → is_residues r ≡ true → residues_len r ≡ length r
residues_whole r h = rw append-nil at (residues_complete r [] h (run_nil residue) continues_nil)

pub residues_le : (s : List ℕ) → residues_len s ≤ length s
unfolding residues_len
residues_le s = go (eqb (threes_len s) 0)
  where
    go : (t : Bool) → cond t (run residue s) (threes_len s) ≤ length s
    go true = run_le residue s
    go false = threes_le s

pub residues_sound : (s : List ℕ) → (residues_len s ≡ 0 → ⊥) → is_residues (take (residues_len s) s) ≡ true
unfolding residues_len front
residues_sound s h = parts_residues (take (residues_len s) s) (rw (length-take-le (residues_len s) s (residues_le s)) (omega arith)) (go (eqb (threes_len s) 0))
  where
    go : (t : Bool) → threes (take (cond t (run residue s) (threes_len s)) s) || every residue (take (cond t (run residue s) (threes_len s)) s) ≡ true
    go true = right_or (threes (take (run residue s) s)) (front_every residue s)
    go false = left_or (every residue (take (threes_len s) s)) (threes_sound s)

-- ---- every byte of a residue passes a test that the one-letter residues and the rows pass
module _ (p : ℕ → Bool) (ones : (b : ℕ) → residue b ≡ true → p b ≡ true) (passed : each (every p) rows ≡ true) where
  one_passes : (r : List ℕ) → is_one r ≡ true → every p r ≡ true
  unfolding is_one
  one_passes [] h = absurd (clash h refl)
  one_passes (b ∷ []) h = one_every p b (ones b h)
  one_passes (b ∷ c ∷ r) h = absurd (clash h refl)

  three_passes : (r : List ℕ) → is_three r ≡ true → every p r ≡ true
  unfolding is_three
  three_passes r = one_of_each (every p) rows r passed

  threes_pass : (r : List ℕ) → threes r ≡ true → every p r ≡ true
  unfolding threes every
  threes_pass [] h = refl
  threes_pass (a ∷ []) h = absurd (clash h refl)
  threes_pass (a ∷ b ∷ []) h = absurd (clash h refl)
  threes_pass (a ∷ b ∷ c ∷ r) h =
      let e = and-true (is_three (a ∷ b ∷ c ∷ [])) (threes r) h in
      every_append p (a ∷ b ∷ c ∷ []) r (three_passes (a ∷ b ∷ c ∷ []) e.0) (threes_pass r e.1)

  pub residue_passes : (r : List ℕ) → is_residue r ≡ true → every p r ≡ true
  unfolding is_residue
  residue_passes r h = ⊎_elim (three_passes r) (one_passes r) (or_true (is_three r) (is_one r) h)

  pub residues_pass : (r : List ℕ) → is_residues r ≡ true → every p r ≡ true
  residues_pass r h = ⊎_elim (threes_pass r) (every_wider residue p ones r) (residues_parts r h).1
