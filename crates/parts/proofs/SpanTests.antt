-- Laws of the test on a span.
use Prim.Native.Nat.{ℕ, ◌+◌, ◌-◌}
use mathlib.Core.Path.{◌≡◌}
use mathlib.Core.List.{List}
use mathlib.Core.Bool.{true, false}
use lib.ListN.{length, take, drop}
use denote.Ref.{Bor}
use Rattle.record.specs.declared.Span.{Span}
use Rattle.grammar.specs.Spans.{inside, part}
use Rattle.parts.specs.Places.{place_of, IsPart}

module _ (source : Bor (List ℕ)) (p : Span) where
  pub inside_part : inside (length source.now) p ≡ true → IsPart source p (record { ref_ptr = (source.ref_ptr.0, p.start + source.ref_ptr.1); now = take (p.end - p.start) (drop p.start source.now) })
  unfolding part place_of
  inside_part e = record { bytes = rw e; place = rw e }

  pub outside_part : inside (length source.now) p ≡ false → IsPart source p (record { ref_ptr = source.ref_ptr; now = take 0 source.now })
  unfolding part place_of
  outside_part e = record { bytes = rw e; place = rw e }
