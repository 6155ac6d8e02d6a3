-- The alphabet that each class names.
use Rattle.std.specs.Prelude.{ℕ, Bool}
use Rattle.alphabet.specs.Letters.{digit, letter, alphanumeric, nucleotide, residue}
use Rattle.alphabet.specs.declared.Class.{Class}
use Rattle.alphabet.specs.declared.Class.TheVariants.{Digit, Letter, Alphanumeric, Nucleotide, Residue}

unfoldable pub member : Class → ℕ → Bool
member Digit = digit
member Letter = letter
member Alphanumeric = alphanumeric
member Nucleotide = nucleotide
member Residue = residue
