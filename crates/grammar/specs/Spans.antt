-- What a span names in a source.
use Rattle.std.specs.Prelude.{ℕ, ◌-◌, List, [], Bool, true, cond, ◌&&◌, leb, length, take, drop, None, Some}
use Rattle.std.proofs.Math.Option.{Option, none, some}
use Rattle.record.specs.declared.Span.{Span}
use Rattle.record.specs.Named.{Part}

-- it does not start after its end, and does not end past a source of n bytes
abbrev pub inside : ℕ → Span → Bool
inside n p = leb p.start p.end && leb p.end n

-- the bytes that it names; none where it lies outside
unfoldable pub part : List ℕ → Span → List ℕ
part s p = cond (inside (length s) p) (take (p.end - p.start) (drop p.start s)) []

abbrev pub inside_optional : ℕ → Part → Bool
inside_optional n None = true
inside_optional n (Some p) = inside n p

abbrev pub optional_part : List ℕ → Part → Option (List ℕ)
optional_part s None = none
optional_part s (Some p) = some (part s p)
