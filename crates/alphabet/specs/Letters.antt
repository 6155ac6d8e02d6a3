-- The alphabets, each as document 01 lists it.
use Rattle.std.specs.Prelude.{ℕ, ◌+◌, Bool, false, ◌&&◌, ◌||◌, List, [], ◌∷◌, ◌++◌, map, eqb, leb}
use Rattle.texts.specs.Ascii.{ascii}

abbrev pub among : ℕ → List ℕ → Bool
among b [] = false
among b (x ∷ xs) = eqb b x || among b xs

-- upper-case letters, in either case
abbrev pub either_case : List ℕ → List ℕ
either_case upper = upper ++ map (λ c. c + 32) upper

unfoldable pub nucleotide : ℕ → Bool
nucleotide b = among b (either_case (ascii "ACGTURYMKWSBDHVN"))

unfoldable pub residue : ℕ → Bool
residue b = among b (ascii "ACDEFGHIKLMNPQRSTVWYBZXU" ++ ascii "*")

unfoldable pub letter : ℕ → Bool
letter b = (leb 65 b && leb b 90) || (leb 97 b && leb b 122)

unfoldable pub digit : ℕ → Bool
digit b = leb 48 b && leb b 57

-- letters or digits
unfoldable pub alphanumeric : ℕ → Bool
alphanumeric b = letter b || digit b
