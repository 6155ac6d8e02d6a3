-- A part that may be missing: a word with one or more bytes of a kind behind it, by longest match.
use Rattle.std.specs.Prelude.{ℕ, Bool, cond, ◌&&◌, leb, length}
use mathlib.Core.List.{List}
use Rattle.std.proofs.Math.Option.{Option, none, some}
use Rattle.std.proofs.Math.ListN.{drop}
use Rattle.texts.specs.Words.{starts}
use Rattle.texts.specs.Runs.{run, front}

module _ (word : List ℕ) (p : ℕ → Bool) where
  unfoldable pub is_there : List ℕ → Bool
  is_there s = starts word s && leb 1 (run p (drop (length word) s))

  unfoldable pub parse_optional : List ℕ → Option (List ℕ)
  parse_optional s = cond (is_there s) (some (front p (drop (length word) s))) none
