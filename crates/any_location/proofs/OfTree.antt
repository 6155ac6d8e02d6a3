-- The position and the location of any kind that a tree means, its spans where it stands in a text.
use Rattle.std.specs.Prelude.{ℕ, ◌≡◌, refl, true, false}
use Rattle.record.specs.declared.Kind.{Kind}
use Rattle.grammar.specs.Positions as G
use Rattle.grammar.specs.Shapes.{Interval.one, Interval.two}
use Rattle.grammar.specs.Bodies as B
use Rattle.grammar.specs.Bodies.{Ends}
use Rattle.any_location.specs.OfTree.{interval_of, uncertain_of}

pub uncertain_is : (k : Kind) (at : ℕ) (i : Ends k) → uncertain_of (interval_of k true at i) ≡ interval_of k false at i
uncertain_is k at (one p) = refl
uncertain_is k at (two p q) = refl
