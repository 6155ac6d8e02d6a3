-- Which bytes a body and a text have: letters, digits and a few signs. So a `;`, `[` or `]` is in no body, and bytes of 128 and above are in no text (document 01, "The header").
use Rattle.std.specs.Prelude.{ℕ, List, Bool, ◌||◌}
use Rattle.texts.specs.Ascii.{ascii}
use Rattle.alphabet.specs.Letters.{among, alphanumeric}
use Rattle.grammar.specs.ProteinEdits as P

-- a letter, a digit, or a sign of positions and edits
abbrev pub body_signs : List ℕ
body_signs = ascii "()*+-=>?_"

unfoldable pub is_body_byte : ℕ → Bool
is_body_byte b = alphanumeric b || among b body_signs

-- or one of header and kind
abbrev pub text_signs : List ℕ
text_signs = ascii ".:"

unfoldable pub is_text_byte : ℕ → Bool
is_text_byte b = is_body_byte b || among b text_signs
