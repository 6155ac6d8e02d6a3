-- From what was read behind an opening bracket, or at the front where there is none, to what stands in brackets or not.
use Rattle.std.specs.Prelude.{ℕ, ◌+◌, ◌≤◌, ◌≡◌, List, Bool, length, drop}
use Rattle.std.proofs.Math.Path.{refl}
use Rattle.std.proofs.Common.{sym, ap, ◌∙◌, arith, length-append, length-drop, drop-drop}
use Rattle.std.proofs.Math.Option.{none, some}
use Rattle.std.proofs.Math.Bool.{true, false}
use Rattle.texts.specs.Ascii.{ascii}
use Rattle.texts.specs.Words.{starts}
use Rattle.texts.proofs.Words.{starts_length}
use Rattle.texts.specs.Brackets.{opening}
use Rattle.texts.proofs.Bracketing.{opening_none, opening_one, opening_le}
use Rattle.grammar.specs.Shapes.{Mu.certain, Mu.uncertain, print_mu}
use Rattle.lang.specs.Lang.{Lang}
use Rattle.lang.proofs.Lang.{within}
use Rattle.lang.specs.MuLang.{parse_mu}

-- a is how long the opening bracket is
module _ (L : Lang) (s : List ℕ) (a : ℕ) (ea : a ≡ opening s) where
  pub mu_none : L.parse (drop a s) ≡ none → parse_mu L s ≡ none
  unfolding parse_mu opening
  mu_none e = go (starts (ascii "(") s) refl
    where
      go : (b : Bool) → starts (ascii "(") s ≡ b → parse_mu L s ≡ none
      go true q = let z : L.parse (drop 1 s) ≡ none = rw (ea, q) at e in rw (q, z)
      go false q = let z : L.parse s ≡ none = rw (ea, q) at e in rw (q, z)

  -- a tree of n bytes behind it
  module _ (t : L.Tree) (n : ℕ) (e : L.parse (drop a s) ≡ some t) (l : n ≡ length (L.print t)) where
    pub mu_le : a + n ≤ length s
    mu_le = omega (arith, within L (drop a s) t e, length-drop a s, opening_le s)

    pub mu_bare : a ≡ 0 → parse_mu L s ≡ some (certain t)
    unfolding parse_mu
    mu_bare z =
        let q : L.parse s ≡ some t = rw z at e in
        rw (opening_none s (sym ea ∙ z), q)

    pub mu_room : starts (ascii ")") (drop (a + n) s) ≡ true → a + n + 1 ≤ length s
    mu_room q = omega (arith, starts_length (ascii ")") (drop (a + n) s) q, length-drop (a + n) s, mu_le)

    module _ (z : a ≡ 0 → ⊥) where
      one : a ≡ 1
      one = ea ∙ (opening_one s (λ h. z (ea ∙ h))).0

      opened : starts (ascii "(") s ≡ true
      opened = (opening_one s (λ h. z (ea ∙ h))).1

      behind : L.parse (drop 1 s) ≡ some t
      behind = rw one at e

      closes : (b : Bool) → starts (ascii ")") (drop (a + n) s) ≡ b → starts (ascii ")") (drop (length (L.print t)) (drop 1 s)) ≡ b
      closes b q = rw (← l, drop-drop n 1 s) (rw one at q)

      pub mu_shut : starts (ascii ")") (drop (a + n) s) ≡ true → parse_mu L s ≡ some (uncertain t)
      unfolding parse_mu
      mu_shut q = rw (opened, behind, closes true q)

      pub mu_left : starts (ascii ")") (drop (a + n) s) ≡ false → parse_mu L s ≡ none
      unfolding parse_mu
      mu_left q = rw (opened, behind, closes false q)

      pub mu_length : a + n + 1 ≡ length (print_mu L.print (uncertain t))
      mu_length = omega (arith, l, one, length-append (L.print t) (ascii ")"))

      pub mu_place : (at : ℕ) → at + a ≡ at + 1
      mu_place at = ap (λ (i : ℕ). at + i) one
