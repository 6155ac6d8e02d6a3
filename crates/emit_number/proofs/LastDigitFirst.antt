-- A decimal text whose last digit is written first.
use Prim.Native.Nat.{ℕ, ◌+◌, ◌/◌, ◌%◌, ◌≤◌, ◌<◌}
use Prim.Native.Char.{code}
use mathlib.Core.Path.{◌≡◌, sym}
use mathlib.Core.List.{List, [], ◌∷◌}
use native.Mathlib.Omega.{arith}
use lib.ListN.{length, set}
use Rattle.lent.specs.Put.{put, put_byte, put_before}
use Rattle.numerals.specs.Digits.{dec}
use Rattle.numerals.proofs.Decimals.{dec_one, dec_more, dec_one_length, dec_more_length}

module _ (o : List ℕ) (at w i : ℕ) (inside : i < length o) (last : i + 1 ≡ at + length (dec w)) where
  pub last_digit : 10 ≤ w → put (set o i (code "0" + w % 10)) at (dec (w / 10)) ≡ put o at (dec w)
  last_digit h =
      let k : i ≡ at + length (dec (w / 10)) = omega (arith, dec_more_length w h) in
      let room : at + length (dec (w / 10)) ≤ length o = omega arith in
      rw (sym (put_byte o i (code "0" + w % 10) inside), k, dec_more w h) (put_before o at (dec (w / 10)) ((code "0" + w % 10) ∷ []) room)

  pub only_digit : w < 10 → set o i (code "0" + w) ≡ put o at (dec w)
  only_digit h =
      let k : i ≡ at = omega (arith, dec_one_length w h) in
      rw (dec_one w h, sym k) (sym (put_byte o i (code "0" + w) inside))
