-- Laws of a row of numbers: whether it is faultless, and whether all are plainly spelled, which their places do not change. What `Faultless`
-- says is known here alone.
use Rattle.std.specs.Prelude.{ℕ, ◌≤◌, ◌≡◌, refl, List, [], ◌∷◌, ◌++◌, Bool, false, cond, ◌&&◌, ℤ}
use Rattle.std.proofs.Common.{sym, ◌∙◌}
use Rattle.std.proofs.Math.Option.{none, some}
use Rattle.std.proofs.Math.Bool.{true}
use borrow.Author.Tests.{leb-true, le-leb}
use Rattle.texts.proofs.Tests.{none_some, and-true, true_and}
use Rattle.numerals.specs.declared.Sign.{Sign}
use Rattle.numerals.specs.Digits.{val}
use Rattle.numerals.specs.Spelling.{is_plain}
use Rattle.numerals.specs.Reading.{fits, most}
use Rattle.numerals.specs.Written.{Written}
use Rattle.grammar.specs.Numbers.{Numeral, Numeral.numeral, misfit, Faultless}
use Rattle.grammar.specs.NumberLaws.{every_number, is_faultless, all_plain}

pub every_append : (test : Sign → List ℕ → Bool) (ms ns : List Numeral) → every_number test (ms ++ ns) ≡ every_number test ms && every_number test ns
unfolding every_number
every_append test [] ns = refl
every_append test (numeral place sign ds ∷ ms) ns = go (test sign ds) (every_append test ms ns)
  where
    go : (b : Bool) → every_number test (ms ++ ns) ≡ every_number test ms && every_number test ns → b && every_number test (ms ++ ns) ≡ (b && every_number test ms) && every_number test ns
    go true h = h
    go false h = refl

-- of tests that come out the same
pub every_same : {test other : Sign → List ℕ → Bool} → ((sign : Sign) (ds : List ℕ) → test sign ds ≡ other sign ds) → (ns : List Numeral) → every_number test ns ≡ every_number other ns
unfolding every_number
every_same same [] = refl
every_same same (numeral place sign ds ∷ ns) = rw (same sign ds, every_same same ns)

pub every_so : {test : Sign → List ℕ → Bool} → ((sign : Sign) (ds : List ℕ) → test sign ds ≡ true) → (ns : List Numeral) → every_number test ns ≡ true
unfolding every_number
every_so so [] = refl
every_so so (numeral place sign ds ∷ ns) = true_and (so sign ds) (every_so so ns)

-- ---- what it says
pub faultless_fits : (ns : List Numeral) → Faultless ns → misfit ns ≡ none
unfolding Faultless
faultless_fits ns e = e

pub fits_faultless : (ns : List Numeral) → misfit ns ≡ none → Faultless ns
unfolding Faultless
fits_faultless ns e = e

pub faultless_true : (ns : List Numeral) → Faultless ns → is_faultless ns ≡ true
unfolding every_number Faultless
faultless_true [] e = refl
faultless_true (numeral place sign ds ∷ ns) e = go (fits sign (val ds)) refl (faultless_true ns) e
  where
    go : (b : Bool) → fits sign (val ds) ≡ b → (misfit ns ≡ none → is_faultless ns ≡ true) → cond b (misfit ns) (some place) ≡ none → fits sign (val ds) && is_faultless ns ≡ true
    go true q rest h = true_and q (rest h)
    go false q rest h = absurd (none_some (sym h))

pub true_faultless : (ns : List Numeral) → is_faultless ns ≡ true → Faultless ns
unfolding every_number Faultless
true_faultless [] e = refl
true_faultless (numeral place sign ds ∷ ns) e = let h = and-true (fits sign (val ds)) (is_faultless ns) e in rw h.0 (true_faultless ns h.1)

-- ---- no number, and one
pub none_faultless : Faultless []
unfolding Faultless
none_faultless = refl

module _ (place : ℕ) (sign : Sign) (ds : List ℕ) where
  pub one_fits : Faultless (numeral place sign ds ∷ []) → val ds ≤ most sign
  unfolding every_number
  one_fits e = leb-true (val ds) (most sign) (and-true (fits sign (val ds)) true (faultless_true (numeral place sign ds ∷ []) e)).0

  pub one_plain : all_plain (numeral place sign ds ∷ []) ≡ true → is_plain sign ds ≡ true
  unfolding every_number
  one_plain e = (and-true (is_plain sign ds) true e).0

-- as a value's number is spelled
pub written_faultless : {sign : Sign} {z : ℤ} {ds : List ℕ} (place : ℕ) → Written sign z ds → Faultless (numeral place sign ds ∷ [])
unfolding Faultless
written_faultless {sign} {z} {ds} place w = rw (le-leb (val ds) (most sign) w.fit)

-- ---- two rows
pub faultless_append : (ms ns : List Numeral) → is_faultless (ms ++ ns) ≡ is_faultless ms && is_faultless ns
faultless_append = every_append (λ sign ds. fits sign (val ds))

pub plain_both : (ms ns : List Numeral) → all_plain (ms ++ ns) ≡ true → (all_plain ms ≡ true) × (all_plain ns ≡ true)
plain_both ms ns e = and-true (all_plain ms) (all_plain ns) (sym (every_append is_plain ms ns) ∙ e)

pub faultless_both : (ms ns : List Numeral) → Faultless (ms ++ ns) → Faultless ms × Faultless ns
faultless_both ms ns e =
    let h = and-true (is_faultless ms) (is_faultless ns) (sym (faultless_append ms ns) ∙ faultless_true (ms ++ ns) e) in
    (true_faultless ms h.0, true_faultless ns h.1)

pub both_faultless : (ms ns : List Numeral) → Faultless ms → Faultless ns → Faultless (ms ++ ns)
both_faultless ms ns e f = true_faultless (ms ++ ns) (faultless_append ms ns ∙ true_and (faultless_true ms e) (faultless_true ns f))

-- ---- the same numbers at other places
pub faultless_elsewhere : (ms ns : List Numeral) → is_faultless ms ≡ is_faultless ns → Faultless ms → Faultless ns
faultless_elsewhere ms ns q e = true_faultless ns (sym q ∙ faultless_true ms e)

-- it is faultless wherever it stands
pub one_anywhere : (j k : ℕ) (sign : Sign) (ds : List ℕ) → Faultless (numeral j sign ds ∷ []) → Faultless (numeral k sign ds ∷ [])
unfolding every_number
one_anywhere j k sign ds = faultless_elsewhere (numeral j sign ds ∷ []) (numeral k sign ds ∷ []) refl
