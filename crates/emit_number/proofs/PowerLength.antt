-- Between two powers of ten all numbers have as many digits.
use Rattle.std.specs.Prelude.{ℕ, zero, suc, ◌+◌, ◌*◌, ◌/◌, ◌^◌, ◌≤◌, ◌<◌, ◌≡◌, length}
use Rattle.std.proofs.Common.{arith}
use Rattle.std.proofs.Math.Nat.{pow-succ'}
use Rattle.numerals.specs.Digits.{dec}
use Rattle.numerals.proofs.Decimals.{dec_one_length, dec_more_length}

pub power_length : (k v : ℕ) → 10 ^ k ≤ v → v < 10 * 10 ^ k → length (dec v) ≡ k + 1
power_length zero v low high = omega (arith, dec_one_length v (omega arith))
power_length (suc k) v low high =
    let power : 10 ^ suc k ≡ 10 * 10 ^ k = pow-succ' 10 k in
    let ten : 1 ≤ 10 ^ k = one_power k in
    let rest : length (dec (v / 10)) ≡ k + 1 = power_length k (v / 10) (omega arith) (omega arith) in
    omega (arith, rest, dec_more_length v (omega arith))
  where
    one_power : (k : ℕ) → 1 ≤ 10 ^ k
    one_power zero = omega arith
    one_power (suc k) = let power : 10 ^ suc k ≡ 10 * 10 ^ k = pow-succ' 10 k in omega (arith, one_power k)
