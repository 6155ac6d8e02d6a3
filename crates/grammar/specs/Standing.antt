-- A text stands in a source at a place; its parts then do too.
use Rattle.std.specs.Prelude.{ℕ, ◌+◌, ◌≡◌, List, ◌++◌, length}

pub record Stands (s : List ℕ) (k : ℕ) (x : List ℕ) : Type 0 where
  pub before : List ℕ
  pub after : List ℕ
  pub text : before ++ (x ++ after) ≡ s
  pub place : length before ≡ k
