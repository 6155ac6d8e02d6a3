-- A part of a source, and no copy: the bytes that it holds, and where they are.
use Rattle.std.specs.Prelude.{ℕ, ◌+◌, ◌≡◌, List, cond, length}
use Rattle.std.specs.Borrow.{Bor}
use Rattle.record.specs.declared.Span.{Span}
use Rattle.grammar.specs.Spans.{inside, part}

-- a block of memory and a place in it: where the span starts in the source; where it lies outside, the source's start
unfoldable pub place_of : Bor (List ℕ) → Span → ℕ × ℕ
place_of source p = cond (inside (length source.now) p) (source.ref_ptr.0, p.start + source.ref_ptr.1) source.ref_ptr

pub record IsPart (source : Bor (List ℕ)) (p : Span) (r : Bor (List ℕ)) : Type 0 where
  pub bytes : r.now ≡ part source.now p
  pub place : r.ref_ptr ≡ place_of source p
