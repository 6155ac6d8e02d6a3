-- The parser finds the positions of the grammar, each followed by what does not continue it, and no others.
use Rattle.std.specs.Prelude.{ℕ, ◌≡◌, List}
use Rattle.texts.specs.Runs.{run}
use Rattle.alphabet.specs.Letters.{digit}
use Rattle.grammar.specs.Positions.{OffsetTree.absent}
use Rattle.lang_locations.specs.Parse.{parse_offset}

-- what may follow a position: no digit, and no sign with a digit behind it
pub record Follows (r : List ℕ) : Type 0 where
  pub no_digit : run digit r ≡ 0
  pub no_offset : parse_offset r ≡ absent
