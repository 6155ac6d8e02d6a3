-- The text of a draft.
use Rattle.std.specs.Prelude.{ℕ, List, ◌++◌}
use Rattle.grammar.specs.Spans.{part}
use Rattle.grammar.specs.Header.{print_kind}
use Rattle.emit_piece.specs.Texts.{byte_text}
use Rattle.emit_edit.specs.Texts.{edit_text}
use Rattle.emit_location.specs.Texts.{location_text}
use Rattle.emit_draft.specs.declared.Heading.{Heading}
use Rattle.emit_draft.specs.declared.BodyPieces.{BodyPieces}
use Rattle.emit_draft.specs.declared.Draft.{Draft}

module _ (s : List ℕ) where
  unfoldable pub heading_text : Heading → List ℕ
  heading_text h = part s h.accession ++ (byte_text h.opening ++ (part s h.gene ++ (byte_text h.closing ++ print_kind h.kind)))

  unfoldable pub body_text : BodyPieces → List ℕ
  body_text b = location_text s b.location ++ (byte_text b.opening ++ (edit_text s b.edit ++ byte_text b.closing))

  unfoldable pub draft_text : Draft → List ℕ
  draft_text d = heading_text d.heading ++ body_text d.body
