-- Words that a text begins with, and texts that are one.
use Rattle.std.specs.Prelude.{ℕ, ◌+◌, ◌≤◌, ◌<◌, ◌≡◌, refl, List, [], ◌∷◌, ◌++◌, Bool, true, false, not, ◌&&◌, length, get_or, take, drop, eqb}
use Rattle.std.proofs.Common.{ap, arith, add-one}
use Rattle.std.proofs.Math.ListN.{drop_of_length-le}
use Rattle.std.proofs.Math.Seq.{drop-cons}
use borrow.Author.Tests.{eq-eqb, ne_eqb, eqb-true}
use Rattle.texts.proofs.Tests.{and-true, never, clash}
use Rattle.texts.specs.Runs.{Some, run}
use Rattle.texts.proofs.Runs.{run_head, run_other}
use Rattle.texts.specs.Words.{starts, same, one_each, StartsWith}

one_is : (a : List ℕ) → length a ≡ 1 → a ≡ get_or a 0 0 ∷ []
one_is [] e = absurd (omega arith)
one_is (x ∷ []) e = refl
one_is (x ∷ y ∷ a) e = absurd (omega arith)

pub one_each_lem : (a b : List ℕ) → one_each a b ≡ true → (a ≡ get_or a 0 0 ∷ []) × (b ≡ get_or b 0 0 ∷ [])
one_each_lem a b e =
    let h = and-true (eqb (length a) 1) (eqb (length b) 1) e in
    (one_is a (eqb-true (length a) 1 h.0), one_is b (eqb-true (length b) 1 h.1))

pub starts_append : (w r : List ℕ) → starts w (w ++ r) ≡ true
unfolding starts
starts_append [] r = refl
starts_append (x ∷ w) r = rw (eq-eqb x x refl) (starts_append w r)

pub starts_split : (w s : List ℕ) → starts w s ≡ true → w ++ drop (length w) s ≡ s
unfolding starts
starts_split [] s e = refl
starts_split (x ∷ w) [] e = absurd (clash e refl)
starts_split (x ∷ w) (y ∷ s) e =
    let h = and-true (eqb x y) (starts w s) e in
    let q = starts_split w s h.1 in
    let p = eqb-true x y h.0 in
    cc

pub starts_length : (w s : List ℕ) → starts w s ≡ true → length w ≤ length s
unfolding starts
starts_length [] s e = omega arith
starts_length (x ∷ w) [] e = absurd (clash e refl)
starts_length (x ∷ w) (y ∷ s) e = omega (arith, starts_length w s (and-true (eqb x y) (starts w s) e).1)

-- w is the front of s that is as long
pub starts_take : (w s : List ℕ) → starts w s ≡ same w (take (length w) s)
unfolding starts same
starts_take [] s = refl
starts_take (x ∷ w) [] = refl
starts_take (x ∷ w) (y ∷ s) = ap (λ (t : Bool). eqb x y && t) (starts_take w s)

pub starts_with : {P : ℕ → Type 0} (b : ℕ) (r : List ℕ) → P b → StartsWith P (b ∷ r)
starts_with b r h = record { byte = b; rest = r; text = refl; holds = h }

-- ---- one byte more, as a loop goes
module _ (w s : List ℕ) (i : ℕ) (h : i < length w) where
  pub starts_short : length s ≤ i → starts (drop i w) (drop i s) ≡ false
  unfolding starts
  starts_short k = rw (drop-cons w i 0, drop_of_length-le s k)

  pub starts_more : i < length s → get_or w i 0 ≡ get_or s i 0 → starts (drop i w) (drop i s) ≡ starts (drop (i + 1) w) (drop (i + 1) s)
  unfolding starts
  starts_more k e = rw (add-one, drop-cons w i 0, drop-cons s i 0, e, eq-eqb (get_or s i 0) (get_or s i 0) refl)

  pub starts_differ : i < length s → (get_or w i 0 ≡ get_or s i 0 → ⊥) → starts (drop i w) (drop i s) ≡ false
  unfolding starts
  starts_differ k n = rw (drop-cons w i 0, drop-cons s i 0, ne_eqb (get_or w i 0) (get_or s i 0) n)

pub starts_end : (w s : List ℕ) (i : ℕ) → length w ≤ i → starts (drop i w) (drop i s) ≡ true
unfolding starts
starts_end w s i h = rw (drop_of_length-le w h)

-- ---- texts that are one
pub same_true : (a b : List ℕ) → same a b ≡ true → a ≡ b
unfolding same
same_true [] [] e = refl
same_true [] (y ∷ b) e = absurd (clash e refl)
same_true (x ∷ a) [] e = absurd (clash e refl)
same_true (x ∷ a) (y ∷ b) e =
    let h = and-true (eqb x y) (same a b) e in
    let p = eqb-true x y h.0 in
    let q = same_true a b h.1 in
    cc

pub same_refl : (a : List ℕ) → same a a ≡ true
unfolding same
same_refl [] = refl
same_refl (x ∷ a) = rw (eq-eqb x x refl) (same_refl a)

-- of two texts of one length, that they are one is that one begins with the other
pub same_starts : (a b : List ℕ) → length a ≡ length b → same a b ≡ starts a b
unfolding same starts
same_starts [] [] l = refl
same_starts [] (y ∷ b) l = absurd (omega arith)
same_starts (x ∷ a) [] l = absurd (omega arith)
same_starts (x ∷ a) (y ∷ b) l = ap (λ (t : Bool). eqb x y && t) (same_starts a b (omega arith))

pub same_lengths : (a b : List ℕ) → (length a ≡ length b → ⊥) → same a b ≡ false
same_lengths a b n = go (same a b) refl
  where
    go : (t : Bool) → same a b ≡ t → same a b ≡ false
    go false e = e
    go true e = absurd (n (ap length (same_true a b e)))

-- ---- a word that a text does not begin with
-- the word starts with a byte of a kind, and the text with none
pub starts_none : (p : ℕ → Bool) (c : ℕ) (w r : List ℕ) → p c ≡ true → run p r ≡ 0 → starts (c ∷ w) r ≡ false
unfolding starts
starts_none p c w [] h e = refl
starts_none p c w (b ∷ r) h e =
    never (eqb c b && starts w r) (λ q. clash (rw (eqb-true c b (and-true (eqb c b) (starts w r) q).0) at h) (run_head p b r e))

-- the text starts with bytes of a kind, and the word with none
pub starts_other : (p : ℕ → Bool) (c : ℕ) (w a r : List ℕ) → p c ≡ false → Some p a → starts (c ∷ w) (a ++ r) ≡ false
starts_other p c w a r n h = starts_none (λ b. not (p b)) c w (a ++ r) (rw n) (run_other p (λ b. not (p b)) a r (λ b e. rw e) h)
