-- Every stream is texts and a rest, and in one way only.
use Rattle.std.specs.Prelude.{ℕ, List}
use Rattle.frames.specs.Frames.{Stream}

pub record Texts (s : List ℕ) : Type 0 where
  pub texts : List (List (List ℕ))
  pub rest : List (List ℕ)
  pub part : List ℕ
  pub is : Stream texts rest part s
