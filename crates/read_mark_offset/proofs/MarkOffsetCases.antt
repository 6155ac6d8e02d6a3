-- The clauses of the parsers of a mark and an offset, by the tests that the program makes, and the answer for each.
use Rattle.std.specs.Prelude.{None, Some}
use Prim.Native.Nat.{ℕ, suc, ◌+◌, ◌-◌, ◌≤◌}
use Prim.Native.Char.{code}
use mathlib.Core.Path.{◌≡◌, refl, sym, ◌∙◌}
use mathlib.Core.List.{List, [], ◌∷◌}
use mathlib.Core.Bool.{Bool, true, false, cond}
use native.Mathlib.Omega.{arith}
use mir.Syntax.{w32}
use mir.Val.{to_z, of_z}
use lib.Dec.{eqb}
use lib.ListN.{length, take, drop}
use borrow.Author.Tests.{eq-eqb, ne_eqb, ltb-true}
use Rattle.texts.specs.Ascii.{ascii}
use Rattle.texts.specs.Runs.{run, front}
use Rattle.texts.proofs.Runs.{front_length}
use Rattle.texts.proofs.Slices.{tail_part}
use Rattle.texts.specs.Words.{starts}
use Rattle.alphabet.specs.Letters.{digit}
use Rattle.numerals.specs.declared.Sign.{Sign}
use Rattle.numerals.specs.declared.Sign.TheVariants.{Unsigned, Minus}
use Rattle.numerals.specs.declared.Number.{Number}
use Rattle.numerals.specs.Reading.{number_at}
use Rattle.grammar.specs.Positions.{Mark.bare, Mark.plus, Mark.minus, Mark.star, OffsetTree, OffsetTree.absent, OffsetTree.ahead, OffsetTree.back}
use Rattle.grammar.specs.Meaning.{number}
use Rattle.grammar.specs.Numbers.{Numeral.numeral}
use Rattle.record.specs.Named.{Offset}
use Rattle.read_scan.specs.declared.Faults.{Faults}
use Rattle.read_scan.specs.declared.Found.{Found}
use Rattle.read_scan.specs.Reading.{number_run, number_value, number_faults}
use Rattle.read_scan.specs.Accounts.{plain}
use Rattle.read_scan.specs.Faults.{faults, of_number, faults_nil}
use Rattle.lang_locations.specs.Parse.{on_digits, parse_mark, parse_offset}
use Rattle.read_mark_offset.specs.MarkOffsetAnswers.{above_signs, mark_of, offset_answer, offset_behind}

-- ---- the first byte
-- none of the bytes up to `-` stands there
no_sign : (c : ℕ) (s : List ℕ) → c ≤ code "-" → above_signs s ≡ true → starts (c ∷ []) s ≡ false
unfolding above_signs starts
no_sign c [] h e = refl
no_sign c (b ∷ s) h e = rw (ne_eqb c b (λ z. omega (arith, ltb-true (code "-") b e)))

-- ---- marks
module _ (s : List ℕ) where
  pub mark_plus : starts (ascii "+") s ≡ true → mark_of plus ≡ mark_of (parse_mark s)
  unfolding parse_mark
  mark_plus p = rw p

  pub mark_minus : starts (ascii "+") s ≡ false → starts (ascii "-") s ≡ true → mark_of minus ≡ mark_of (parse_mark s)
  unfolding parse_mark
  mark_minus p m = rw (p, m)

  pub mark_star : starts (ascii "+") s ≡ false → starts (ascii "-") s ≡ false → starts (ascii "*") s ≡ true → mark_of star ≡ mark_of (parse_mark s)
  unfolding parse_mark
  mark_star p m e = rw (p, m, e)

  pub mark_bare : starts (ascii "+") s ≡ false → starts (ascii "-") s ≡ false → starts (ascii "*") s ≡ false → mark_of bare ≡ mark_of (parse_mark s)
  unfolding parse_mark
  mark_bare p m e = rw (p, m, e)

  pub mark_above : above_signs s ≡ true → mark_of bare ≡ mark_of (parse_mark s)
  mark_above h = mark_bare (no_sign (code "+") s (omega arith) h) (no_sign (code "-") s (omega arith) h) (no_sign (code "*") s (omega arith) h)

-- ---- offsets
pub offset_none : (at : ℕ) → plain None 0 ≡ offset_answer at absent
unfolding offset_answer
offset_none at = rw faults_nil refl

-- s stands behind the sign
module _ (at : ℕ) (sign : Sign) (s : List ℕ) (n : Number) (e : n ≡ number_at sign s) where
  pub behind_none : n.len ≡ 0 → offset_answer at absent ≡ offset_behind at sign s
  unfolding offset_behind
  behind_none z = rw (eq-eqb (run digit s) 0 (sym (number_run sign s n e) ∙ z))

  pub behind_some : (n.len ≡ 0 → ⊥) → (f : Faults) → f ≡ of_number n.fits n.plain (at + 1)
      → ◌≡◌ {A = Found Offset} (record { value = Some (to_z w32 (of_z w32 n.value)); len = 1 + n.len; faults = f }) (offset_behind at sign s)
  unfolding offset_behind
  behind_some z f ef =
      let l = number_run sign s n e in
      rw (ne_eqb (run digit s) 0 (λ q. z (l ∙ q)), number_value sign s n e, l, ef, number_faults sign s n e (at + 1))

-- what stands behind the sign, as an offset
behind_by : (at : ℕ) (sign : Sign) (by : List ℕ → OffsetTree) (s : List ℕ)
    → ((ds : List ℕ) → offset_answer at (by ds) ≡ record { value = Some (number sign ds); len = suc (length ds); faults = faults (numeral (at + 1) sign ds ∷ []) true })
    → offset_behind at sign s ≡ offset_answer at (on_digits absent by s)
unfolding offset_behind on_digits
behind_by at sign by s is = go (eqb (run digit s) 0)
  where
    go : (t : Bool) → cond t (offset_answer at absent) (record { value = Some (number sign (front digit s)); len = 1 + run digit s; faults = faults (numeral (at + 1) sign (front digit s) ∷ []) true }) ≡ offset_answer at (cond t absent (by (front digit s)))
    go true = refl
    go false = let l : 1 + run digit s ≡ suc (length (front digit s)) = omega (arith, front_length digit s) in rw (is (front digit s), l)

module _ (at : ℕ) (s : List ℕ) where
  pub offset_ahead : starts (ascii "+") s ≡ true → offset_behind at Unsigned (take (length s - 1) (drop 1 s)) ≡ offset_answer at (parse_offset s)
  unfolding parse_offset offset_answer
  offset_ahead p = rw (tail_part 1 s, p) (behind_by at Unsigned ahead (drop 1 s) (λ ds. refl))

  pub offset_back : starts (ascii "+") s ≡ false → starts (ascii "-") s ≡ true → offset_behind at Minus (take (length s - 1) (drop 1 s)) ≡ offset_answer at (parse_offset s)
  unfolding parse_offset offset_answer
  offset_back p m = rw (tail_part 1 s, p, m) (behind_by at Minus back (drop 1 s) (λ ds. refl))

  pub offset_missing : starts (ascii "+") s ≡ false → starts (ascii "-") s ≡ false → offset_answer at absent ≡ offset_answer at (parse_offset s)
  unfolding parse_offset
  offset_missing p m = rw (p, m)

  pub offset_above : above_signs s ≡ true → offset_answer at absent ≡ offset_answer at (parse_offset s)
  offset_above h = offset_missing (no_sign (code "+") s (omega arith) h) (no_sign (code "-") s (omega arith) h)
