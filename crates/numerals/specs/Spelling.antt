-- Document 02, CR 3: which spelling of a number, a sign and digits, is plain.
use Rattle.std.specs.Prelude.{ℕ, List, Bool, true, false, cond, not, ◌&&◌, eqb, length}
use Rattle.texts.specs.Ascii.{ascii}
use Rattle.texts.specs.Words.{starts}
use Rattle.numerals.specs.declared.Sign.{Sign}
use Rattle.numerals.specs.declared.Sign.TheVariants.{Unsigned, Plus, Minus, Negated}

-- no plus before a base, no minus before zero
abbrev pub plain_sign : Sign → (zero : Bool) → Bool
plain_sign Unsigned zero = true
plain_sign Plus zero = false
plain_sign Minus zero = not zero
plain_sign Negated zero = true

-- of n digits, by whether the first is a zero: no leading zero unless it is the one digit 0
abbrev pub plainly : ℕ → Sign → Bool → Bool
plainly n sign zero = cond zero (eqb n 1) true && plain_sign sign zero

abbrev pub zero_first : List ℕ → Bool
zero_first ds = starts (ascii "0") ds

abbrev pub is_plain : Sign → List ℕ → Bool
is_plain sign ds = plainly (length ds) sign (zero_first ds)
