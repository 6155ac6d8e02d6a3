-- Which of two texts is to be written: the shorter, and of two as long the first in byte order.
use Rattle.std.specs.Prelude.{ℕ, suc, ◌+◌, ◌≤◌, ◌<◌, ◌≡◌, refl, List, [], ◌∷◌, ◌++◌, length}
use Rattle.std.proofs.Common.{ap, ◌∙◌, arith, length-append}
use Rattle.texts.specs.Best.{Before, Best, Before.same, Before.less, Before.next, Best.shorter, Best.first}

pub before_length : {a b : List ℕ} → Before a b → length a ≡ length b
before_length same = refl
before_length (less h e) = ap suc e
before_length (next r) = ap suc (before_length r)

pub best_length : {a b : List ℕ} → Best a b → length a ≤ length b
best_length (shorter h) = omega arith
best_length (first r) = omega (arith, before_length r)

pub best_refl : {a : List ℕ} → Best a a
best_refl = first same

-- ---- a whole is best where its parts are
before_left : {a b : List ℕ} (c : List ℕ) → Before a b → Before (c ++ a) (c ++ b)
before_left [] r = r
before_left (x ∷ c) r = next (before_left c r)

before_append : {a b c d : List ℕ} → Before a b → Before c d → Before (a ++ c) (b ++ d)
before_append {a} same q = before_left a q
before_append {c} {d} (less {a = s} {b = t} h e) q =
    let l : length (s ++ c) ≡ length (t ++ d) = simp length-append (omega (arith, before_length q)) in
    less h l
before_append (next r) q = next (before_append r q)

pub best_append : {a b c d : List ℕ} → Best a b → Best c d → Best (a ++ c) (b ++ d)
best_append {a} {b} {c} {d} (shorter h) q =
    let l : length (a ++ c) < length (b ++ d) = simp length-append (omega (arith, best_length q)) in
    shorter l
best_append {a} {b} {c} {d} (first r) (shorter h) =
    let l : length (a ++ c) < length (b ++ d) = simp length-append (omega (arith, before_length r)) in
    shorter l
best_append (first r) (first q) = first (before_append r q)

pub best_behind : {a b : List ℕ} (w : List ℕ) → Best a b → Best (w ++ a) (w ++ b)
best_behind w q = best_append (best_refl {a = w}) q

-- a smaller byte in front of what is as good
pub best_less : {a b : List ℕ} {x y : ℕ} → x < y → Best a b → Best (x ∷ a) (y ∷ b)
best_less {a} {b} {x} {y} h (shorter k) = let l : length (x ∷ a) < length (y ∷ b) = omega arith in shorter l
best_less h (first r) = first (less h (before_length r))

-- one byte more in front of the other
pub best_more : {a b : List ℕ} (y : ℕ) → Best a b → Best a (y ∷ b)
best_more {a} {b} y q = let l : length a < length (y ∷ b) = omega (arith, best_length q) in shorter l

-- ---- two texts each as good as the other are one
-- behind one byte
behind : {l m : List ℕ} {x : ℕ} {a b : List ℕ} → Before l m → l ≡ x ∷ a → m ≡ x ∷ b → Before a b
behind {a} {b} same p q = let e : a ≡ b = cc in rw e same
behind (less {x = y} {y = z} h e) p q = let k : y ≡ z = cc in absurd (omega arith)
behind {a} {b} (next {a = c} {b = d} r) p q = let e : a ≡ c = cc in let f : b ≡ d = cc in rw (e, f) r

before_antisym : {a b : List ℕ} → Before a b → Before b a → a ≡ b
before_antisym same q = refl
before_antisym (less h e) same = refl
before_antisym (less h e) (less k f) = absurd (omega arith)
before_antisym (less h e) (next q) = absurd (omega arith)
before_antisym (next {x} r) q = ap (λ (l : List ℕ). x ∷ l) (before_antisym r (behind q refl refl))

pub best_antisym : {a b : List ℕ} → Best a b → Best b a → a ≡ b
best_antisym (shorter h) q = absurd (omega (arith, best_length q))
best_antisym (first r) (shorter h) = absurd (omega (arith, before_length r))
best_antisym (first r) (first q) = before_antisym r q

-- ---- and of three the first is as good as the last
before_trans : {a b c : List ℕ} → Before a b → Before b c → Before a c
before_trans same q = q
before_trans (less h e) same = less h e
before_trans (less {x} h e) (less {y = z} k f) = let l : x < z = omega arith in less l (e ∙ f)
before_trans (less h e) (next q) = less h (e ∙ before_length q)
before_trans (next r) same = next r
before_trans (next r) (less k f) = less k (before_length r ∙ f)
before_trans (next r) (next q) = next (before_trans r q)

pub best_trans : {a b c : List ℕ} → Best a b → Best b c → Best a c
best_trans {a} {b} {c} (shorter h) q = let l : length a < length c = omega (arith, best_length q) in shorter l
best_trans {a} {b} {c} (first r) (shorter h) = let l : length a < length c = omega (arith, before_length r) in shorter l
best_trans (first r) (first q) = first (before_trans r q)
