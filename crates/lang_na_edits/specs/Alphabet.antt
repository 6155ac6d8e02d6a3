-- What the grammar of nucleotide edits needs of an alphabet: its letters are ASCII letters, and none of those that tell the words from letters.
use Rattle.std.specs.Prelude.{ℕ, ◌≡◌, Bool, true, false}
use Prim.Native.Char.{code}
use Rattle.alphabet.specs.Letters.{letter}

pub record Alphabet (na : ℕ → Bool) : Type 0 where
  pub letters : (b : ℕ) → na b ≡ true → letter b ≡ true
  pub no_e : na (code "e") ≡ false
  pub no_i : na (code "i") ≡ false
  pub no_p : na (code "p") ≡ false
