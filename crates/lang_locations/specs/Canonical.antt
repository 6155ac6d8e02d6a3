-- The position that canon gives is one of the value, its text is best among all positions of the value, and where it gives none there is none.
use Rattle.record.specs.declared.Kind.{Kind}
use Rattle.record.specs.Named as Declared
use Rattle.grammar.specs.Positions.{PositionTree}
use Rattle.grammar.specs.Numbers.{Faultless, position_numbers}

-- ---- every kind
abbrev pub FitsPosition : (k : Kind) → PositionTree k → Type 0
FitsPosition k p = Faultless (position_numbers k 0 p)
