-- How the alphabets lie to each other: what passes one test and what therefore not; and that letters and digits are ASCII.
use Rattle.std.specs.Prelude.{ℕ, Bool, ltb}

-- a byte below 128
unfoldable pub is_ascii : ℕ → Bool
is_ascii b = ltb b 128
