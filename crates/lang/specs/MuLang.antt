-- A part of a text that is certain, or uncertain when in round brackets.
use Prim.Native.Nat.{ℕ}
use Rattle.std.specs.Prelude.{◌≡◌, length}
use mathlib.Core.List.{List, ◌++◌}
use Rattle.std.proofs.Math.Option.{Option, none, some}
use Rattle.std.proofs.Math.Bool.{false, cond}
use Rattle.std.proofs.Math.ListN.{drop}
use Rattle.texts.specs.Ascii.{ascii}
use Rattle.texts.specs.Words.{starts}
use Rattle.grammar.specs.Shapes.{Mu, Mu.certain, Mu.uncertain}
use Rattle.lang.specs.Lang.{Lang}

module _ (L : Lang) where
  abbrev pub bare : Option L.Tree → Option (Mu L.Tree)
  bare none = none
  bare (some t) = some (certain t)

  -- s stands behind the opening bracket
  abbrev pub closed : List ℕ → Option L.Tree → Option (Mu L.Tree)
  closed s none = none
  closed s (some t) = cond (starts (ascii ")") (drop (length (L.print t)) s)) (some (uncertain t)) none

  unfoldable pub parse_mu : List ℕ → Option (Mu L.Tree)
  parse_mu s = cond (starts (ascii "(") s) (closed (drop 1 s) (L.parse (drop 1 s))) (bare (L.parse s))

  -- no text of the language starts with a bracket, and a closing one may follow
  pub record Brackets : Type 0 where
    pub no_open : (t : L.Tree) (r : List ℕ) → L.Wf t → starts (ascii "(") (L.print t ++ r) ≡ false
    pub may_close : (r : List ℕ) → L.Follows (ascii ")" ++ r)
