-- The text of a mark, of an amount and of both, and a span with nothing to write.
use Rattle.std.specs.Prelude.{ℕ, List, [], ◌∷◌, ◌++◌, None, Some}
use Rattle.record.specs.declared.Span.{Span}
use Rattle.numerals.specs.Digits.{dec}
use Rattle.emit_piece.specs.Named.{OneByte, Amount}

abbrev pub byte_text : OneByte → List ℕ
byte_text None = []
byte_text (Some b) = b ∷ []

abbrev pub amount_text : Amount → List ℕ
amount_text None = []
amount_text (Some n) = dec n

abbrev pub signed_text : OneByte → Amount → List ℕ
signed_text sign a = byte_text sign ++ amount_text a

abbrev pub no_span : Span
no_span = record { start = 0; end = 0 }
