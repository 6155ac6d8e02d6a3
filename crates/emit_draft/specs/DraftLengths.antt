-- Lengths of a draft's texts.
use Rattle.std.specs.Prelude.{ℕ, ◌+◌, ◌≡◌, List, length}
use Rattle.std.proofs.Common.{arith}
use Rattle.std.proofs.Math.ListN.{length-append}
use Rattle.grammar.specs.Spans.{part}
use Rattle.grammar.specs.Header.{print_kind}
use Rattle.emit_piece.specs.Texts.{byte_text}
use Rattle.emit_edit.specs.Texts.{edit_text}
use Rattle.emit_location.specs.Texts.{location_text}
use Rattle.emit_draft.specs.declared.Heading.{Heading}
use Rattle.emit_draft.specs.declared.BodyPieces.{BodyPieces}
use Rattle.emit_draft.specs.declared.Draft.{Draft}
use Rattle.emit_draft.specs.Texts.{heading_text, body_text, draft_text}

module _ (s : List ℕ) where
  pub heading_length : (h : Heading) → length (heading_text s h) ≡ length (part s h.accession) + length (byte_text h.opening) + length (part s h.gene) + length (byte_text h.closing) + length (print_kind h.kind)
  unfolding heading_text
  heading_length h = simp length-append (omega arith)

  pub body_length : (b : BodyPieces) → length (body_text s b) ≡ length (location_text s b.location) + length (byte_text b.opening) + length (edit_text s b.edit) + length (byte_text b.closing)
  unfolding body_text
  body_length b = simp length-append (omega arith)

  pub draft_length : (d : Draft) → length (draft_text s d) ≡ length (heading_text s d.heading) + length (body_text s d.body)
  unfolding draft_text
  draft_length d = length-append (heading_text s d.heading) (body_text s d.body)
