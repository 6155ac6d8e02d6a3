-- The first byte of an edit's text, and edits in round brackets.
use Rattle.std.specs.Prelude.{ℕ, ◌≡◌, false}
use Rattle.texts.specs.Ascii.{ascii}
use Rattle.alphabet.specs.Letters.{among, digit}

-- a byte with which no location goes on: no digit, no sign, no `_`
pub record First (b : ℕ) : Type 0 where
  pub no_digit : digit b ≡ false
  pub no_mark : among b (ascii "+-_") ≡ false
