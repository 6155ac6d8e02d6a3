-- Request 2 in document 02's words, beside end minus start plus 1: an interval from a negative to a positive base is one shorter, one that stays on its side of zero is as before, and a base of 0 at either end has no width.
use Rattle.std.specs.Prelude.{ℕ, ℤ}
use Rattle.std.proofs.Math.Option.{Option}
use Rattle.promise.specs.Width.{between, base_index}

-- from a base of c, n or r to another of the same anchor, no offsets
abbrev pub bases_width : ℤ → ℤ → Option ℕ
bases_width a b = between (base_index a) (base_index b)
