-- Whether two positions of a kind are one: their contents are.
use Rattle.std.specs.Prelude.{ℕ, List, Bool, false, cond, ℤ}
use Rattle.record.specs.declared.Kind.{Kind}
use Rattle.grammar.specs.Contents.{position_content}
use Rattle.lang_locations.specs.Equal.{eqℤ, eq_position}
use Rattle.any_location.specs.declared.Position.{Position}
use Rattle.any_location.specs.ToRecord.{position_for}

-- unknown, or a number
abbrev pub eq_genomic : Bool → Bool → ℤ → ℤ → Bool
eq_genomic is_unknown alsoUnknown v w = cond is_unknown alsoUnknown (cond alsoUnknown false (eqℤ v w))

unfoldable pub same_position : List ℕ → Kind → Position → Position → Bool
same_position s k p q = eq_position k (position_content s k (position_for k p)) (position_content s k (position_for k q))
