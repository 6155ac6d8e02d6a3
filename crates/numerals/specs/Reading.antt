-- What the digits at the front of a text are, with the sign that stood before them.
use Rattle.std.specs.Prelude.{ℕ, List, Bool, cond, leb, ℤ, pos, neg_ℤ}
use Rattle.texts.specs.Runs.{run, front}
use Rattle.alphabet.specs.Letters.{digit}
use Rattle.numerals.specs.Digits.{val}
use Rattle.numerals.specs.Spelling.{plainly, zero_first}
use Rattle.numerals.specs.declared.Sign.{Sign}
use Rattle.numerals.specs.declared.Sign.TheVariants.{Unsigned, Plus, Minus, Negated}
use Rattle.numerals.specs.declared.Number.{Number}

-- the number that digits of the value v are with a sign
abbrev pub signed : Sign → ℕ → ℤ
signed Unsigned v = pos v
signed Plus v = pos v
signed Minus v = neg_ℤ (pos v)
signed Negated v = neg_ℤ (pos v)

-- the largest value of the digits with which it fits
abbrev pub most : Sign → ℕ
most Unsigned = 2147483647
most Plus = 2147483647
most Minus = 2147483648
most Negated = 2147483647

abbrev pub fits : Sign → ℕ → Bool
fits sign v = leb v (most sign)

-- the number where it fits, and else 0
unfoldable pub or_zero : Sign → ℕ → ℤ
or_zero sign v = cond (fits sign v) (signed sign v) (pos 0)

-- n digits of the value v
unfoldable pub number_of : ℕ → Sign → ℕ → Bool → Number
number_of n sign v zero = record { len = n; value = or_zero sign v; fits = fits sign v; plain = plainly n sign zero }

unfoldable pub number_at : Sign → List ℕ → Number
number_at sign s = number_of (run digit s) sign (val (front digit s)) (zero_first (front digit s))

-- a value with which no number fits: the program counts no further
abbrev pub too_large : ℕ
too_large = 2147483649
