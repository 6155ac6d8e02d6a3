-- The canonical text of an interval: one position where both ends are one.
use Rattle.std.specs.Prelude.{ℕ, ◌≡◌, List, ◌++◌, Bool, true, cond}
use Rattle.std.proofs.Math.Option.{Option}
use Rattle.texts.specs.Ascii.{ascii}
use Rattle.grammar.specs.Shapes.{Interval, Interval.one, Interval.two, Both, Both.both}
use Rattle.lang.specs.Lang.{Lang}
use Rattle.lang.specs.Canon.{Canon, map_o, both_o}

module _ (L : Lang) (may_join : (r : List ℕ) → L.Follows (ascii "_" ++ r)) (C : Canon L) (eq : C.Value → C.Value → Bool) (eq_true : (v w : C.Value) → eq v w ≡ true → v ≡ w) (eq_refl : (v : C.Value) → eq v v ≡ true) where
  abbrev pub canon_interval : Both C.Value C.Value → Option (Interval L.Tree)
  canon_interval (both v w) = cond (eq v w) (map_o one (C.canon v)) (both_o two (C.canon v) (C.canon w))
