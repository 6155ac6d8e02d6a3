-- A part is no longer than its source, and the part of no span is empty.
use Rattle.std.specs.Prelude.{ℕ, ◌≤◌, ◌≡◌, List, [], Bool}
use Rattle.std.proofs.Math.Path.{refl}
use Rattle.std.proofs.Math.Bool.{true, false}
use Rattle.std.proofs.Common.{arith, length-drop}
use Rattle.std.proofs.Math.ListN.{length, length-take}
use Rattle.std.proofs.Math.Dec.{leb-zero}
use Rattle.record.specs.declared.Span.{Span}
use Rattle.grammar.specs.Spans.{inside, part}
use Rattle.emit_piece.specs.Texts.{no_span}

module _ (s : List ℕ) where
  pub part_short : (p : Span) → length (part s p) ≤ length s
  unfolding part
  part_short p = go (inside (length s) p) refl
    where
      go : (t : Bool) → inside (length s) p ≡ t → length (part s p) ≤ length s
      go true e = rw (e, part, length-take, length-drop) (omega arith)
      go false e = rw (e, part) (omega arith)

  pub no_part : part s no_span ≡ []
  unfolding part
  no_part = rw (leb-zero (length s))
