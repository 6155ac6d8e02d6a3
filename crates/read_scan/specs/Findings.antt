-- What is found in a part of a text from left to right, each finding with a rank and a place. Told is the leftmost of the highest rank; where nothing is found, whether the part is settled. A code says it in one number.
use Rattle.std.specs.Prelude.{ℕ, ◌+◌, ◌*◌, ◌/◌, ◌%◌, ◌≤◌, ◌<◌, ◌≡◌, refl, List, [], ◌∷◌, ◌++◌, Bool, true, false, cond, ◌&&◌, ltb, eqb}
use Rattle.std.proofs.Common.{ap, arith, ltb-true, ltb-false, lt-ltb, le-ltb, eq-eqb, ne_eqb}
use Rattle.std.proofs.Math.Option.{Option, none, some}
use Rattle.texts.proofs.Tests.{none_some}

-- 0 and 1 are no ranks of findings: they stand for a part in which nothing is found
pub record Finding : Type 0 where
  pub rank : ℕ
  pub place : ℕ
  pub above : 1 < rank
  pub below : rank < 16

-- the first of two, unless the second has a higher rank
abbrev higher : Finding → Finding → Finding
higher f g = cond (ltb f.rank g.rank) g f

abbrev highest : Option Finding → Option Finding → Option Finding
highest none n = n
highest (some f) none = some f
highest (some f) (some g) = some (higher f g)

abbrev pub told : List Finding → Option Finding
told [] = none
told (f ∷ fs) = highest (some f) (told fs)

-- the place of the leftmost finding of a rank
abbrev pub leftmost_of : ℕ → List Finding → Option ℕ
leftmost_of r [] = none
leftmost_of r (f ∷ fs) = cond (eqb f.rank r) (some f.place) (leftmost_of r fs)

abbrev pub nothing_in : List Finding → Bool
nothing_in [] = true
nothing_in (f ∷ fs) = false

-- ---- codes
abbrev pub code_of : Option Finding → Bool → ℕ
code_of none true = 0
code_of none false = 1
code_of (some f) settled = f.place * 16 + f.rank

abbrev pub rank_in : ℕ → ℕ
rank_in c = c % 16

abbrev pub place_in : ℕ → ℕ
place_in c = c / 16

-- the code of two parts, one behind the other
unfoldable pub merged : ℕ → ℕ → ℕ
merged c d = cond (ltb (rank_in c) (rank_in d)) d c

-- ---- the law of codes
rank_found : (f : Finding) (x : Bool) → rank_in (code_of (some f) x) ≡ f.rank
rank_found f x = omega (arith, f.below)

place_found : (f : Finding) (x : Bool) → place_in (code_of (some f) x) ≡ f.place
place_found f x = omega (arith, f.below)

merged_second : (c : ℕ) (g : Finding) (y : Bool) → rank_in c ≤ 1 → code_of (some g) y ≡ merged c (code_of (some g) y)
unfolding merged
merged_second c g y h = rw (lt-ltb (rank_in c) (rank_in (code_of (some g) y)) (omega (arith, rank_found g y, g.above)))

merged_first : (f : Finding) (x : Bool) (d : ℕ) → rank_in d ≤ 1 → code_of (some f) x ≡ merged (code_of (some f) x) d
unfolding merged
merged_first f x d h = rw (le-ltb (rank_in (code_of (some f) x)) (rank_in d) (omega (arith, rank_found f x, f.above)))

code_highest : (m n : Option Finding) (x y : Bool) → code_of (highest m n) (x && y) ≡ merged (code_of m x) (code_of n y)
unfolding merged
code_highest none none true true = refl
code_highest none none true false = refl
code_highest none none false true = refl
code_highest none none false false = refl
code_highest none (some g) true y = merged_second 0 g y (omega arith)
code_highest none (some g) false y = merged_second 1 g y (omega arith)
code_highest (some f) none x true = merged_first f x 0 (omega arith)
code_highest (some f) none x false = merged_first f x 1 (omega arith)
code_highest (some f) (some g) x y = rw (rank_found f x, rank_found g y) (go (ltb f.rank g.rank))
  where
    go : (b : Bool) → code_of (some (cond b g f)) (x && y) ≡ cond b (code_of (some g) y) (code_of (some f) x)
    go true = refl
    go false = refl

higher_twice : (f g h : Finding) → higher f (higher g h) ≡ higher (higher f g) h
higher_twice f g h = go (ltb f.rank g.rank) (ltb g.rank h.rank) refl refl
  where
    go : (a b : Bool) → ltb f.rank g.rank ≡ a → ltb g.rank h.rank ≡ b → higher f (cond b h g) ≡ higher (cond a g f) h
    go true true p q = rw (lt-ltb f.rank h.rank (omega (arith, ltb-true f.rank g.rank p, ltb-true g.rank h.rank q)), q)
    go true false p q = rw (p, q)
    go false true p q = refl
    go false false p q = rw (p, le-ltb f.rank h.rank (omega (arith, ltb-false f.rank g.rank p, ltb-false g.rank h.rank q)))

highest_twice : (m n o : Option Finding) → highest m (highest n o) ≡ highest (highest m n) o
highest_twice none n o = refl
highest_twice (some f) none o = refl
highest_twice (some f) (some g) none = refl
highest_twice (some f) (some g) (some h) = ap some (higher_twice f g h)

told_append : (fs gs : List Finding) → told (fs ++ gs) ≡ highest (told fs) (told gs)
told_append [] gs = refl
told_append (f ∷ fs) gs = rw (told_append fs gs) (highest_twice (some f) (told fs) (told gs))

-- the code of two parts together is merged of the code of each, whatever ranks there are
pub code_append : (fs gs : List Finding) (x y : Bool) → code_of (told (fs ++ gs)) (x && y) ≡ merged (code_of (told fs) x) (code_of (told gs) y)
code_append fs gs x y = rw (told_append fs gs) (code_highest (told fs) (told gs) x y)

-- ---- what is told
abbrev rank_of : Option Finding → ℕ
rank_of none = 0
rank_of (some f) = f.rank

higher_rank : (f g : Finding) → (f.rank ≤ (higher f g).rank) × (g.rank ≤ (higher f g).rank)
higher_rank f g = go (ltb f.rank g.rank) refl
  where
    go : (b : Bool) → ltb f.rank g.rank ≡ b → (f.rank ≤ (cond b g f).rank) × (g.rank ≤ (cond b g f).rank)
    go true p = (omega (arith, ltb-true f.rank g.rank p), omega arith)
    go false p = (omega arith, ltb-false f.rank g.rank p)

told_highest : (fs : List Finding) (r : ℕ) → rank_of (told fs) < r → leftmost_of r fs ≡ none
told_highest [] r h = refl
told_highest (f ∷ fs) r h = go (told fs) (told_highest fs r) h
  where
    go : (m : Option Finding) → (rank_of m < r → leftmost_of r fs ≡ none) → rank_of (highest (some f) m) < r → leftmost_of r (f ∷ fs) ≡ none
    go none rest h = rw (ne_eqb f.rank r (λ q. omega arith)) (rest (omega arith))
    go (some g) rest h =
        let k = higher_rank f g in
        rw (ne_eqb f.rank r (λ q. omega arith)) (rest (omega arith))

told_leftmost : (fs : List Finding) (f : Finding) → told fs ≡ some f → leftmost_of f.rank fs ≡ some f.place
told_leftmost [] f e = absurd (none_some e)
told_leftmost (g ∷ gs) f e = go (told gs) (told_leftmost gs) e
  where
    front : g ≡ f → leftmost_of f.rank (g ∷ gs) ≡ some f.place
    front q = rw (q, eq-eqb f.rank f.rank refl)

    go : (m : Option Finding) → ((h : Finding) → m ≡ some h → leftmost_of h.rank gs ≡ some h.place) → highest (some g) m ≡ some f → leftmost_of f.rank (g ∷ gs) ≡ some f.place
    go none rest e = front cc
    go (some h) rest e = by (ltb g.rank h.rank) refl e
      where
        by : (b : Bool) → ltb g.rank h.rank ≡ b → some (cond b h g) ≡ some f → leftmost_of f.rank (g ∷ gs) ≡ some f.place
        by true p e =
            let q : h ≡ f = cc in
            let l : g.rank < f.rank = ltb-true g.rank f.rank (rw q at p) in
            rw (ne_eqb g.rank f.rank (λ z. omega arith)) (rw q at (rest h refl))
        by false p e = front cc

-- ---- what a code says
module _ (fs : List Finding) (x : Bool) where
  abbrev code : ℕ
  code = code_of (told fs) x

  pub says_leftmost : 1 < rank_in code → leftmost_of (rank_in code) fs ≡ some (place_in code)
  says_leftmost h = go (told fs) refl x h
    where
      go : (m : Option Finding) → told fs ≡ m → (y : Bool) → 1 < rank_in (code_of m y) → leftmost_of (rank_in (code_of m y)) fs ≡ some (place_in (code_of m y))
      go none q true h = absurd (omega arith)
      go none q false h = absurd (omega arith)
      go (some f) q y h = rw (rank_found f y, place_found f y) (told_leftmost fs f q)

  pub says_none_above : (r : ℕ) → 1 < r → rank_in code < r → leftmost_of r fs ≡ none
  says_none_above r k h = told_highest fs r (go (told fs) x h)
    where
      go : (m : Option Finding) (y : Bool) → rank_in (code_of m y) < r → rank_of m < r
      go none y h = omega arith
      go (some f) y h = omega (arith, rank_found f y)

pub says_settled : (fs : List Finding) (x : Bool) → eqb (rank_in (code_of (told fs) x)) 0 ≡ nothing_in fs && x
says_settled [] true = refl
says_settled [] false = refl
says_settled (f ∷ fs) x = go (told fs)
  where
    found : (g : Finding) → eqb (rank_in (code_of (some g) x)) 0 ≡ false
    found g = ne_eqb (rank_in (code_of (some g) x)) 0 (λ q. omega (arith, rank_found g x, g.above))

    go : (m : Option Finding) → eqb (rank_in (code_of (highest (some f) m) x)) 0 ≡ false
    go none = found f
    go (some g) = found (higher f g)
