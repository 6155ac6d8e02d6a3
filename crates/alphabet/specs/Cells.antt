-- The numbers of the class table, and its rule: a byte's number is one of a class's numbers exactly where the byte is of the class.
use Rattle.std.specs.Prelude.{ℕ, zero, suc, ◌%◌, ◌<◌, ◌≡◌, Bool, cond, ◌&&◌, List, [], ◌∷◌, leb, get_or}
use Rattle.texts.specs.Ascii.{ascii}
use Rattle.alphabet.specs.Letters.{among}
use Rattle.alphabet.specs.Classes.{member}
use Rattle.alphabet.specs.Flags.{flag}
use Rattle.alphabet.specs.declared.Class.{Class}
use Rattle.alphabet.specs.declared.Class.TheVariants.{Digit, Letter, Alphanumeric, Nucleotide, Residue}

unfoldable pub within : ℕ → ℕ → ℕ → Bool
within low high k = leb low k && leb k high

-- the numbers of a class are a range
unfoldable pub lowest : Class → ℕ
lowest Digit = 18
lowest Letter = 4
lowest Alphanumeric = 4
lowest Nucleotide = 5
lowest Residue = 2

unfoldable pub highest : Class → ℕ
highest Digit = 18
highest Letter = 16
highest Alphanumeric = 18
highest Nucleotide = 15
highest Residue = 9

unfoldable pub numbered : Class → ℕ → Bool
numbered class k = within (lowest class) (highest class) k

-- k is the number of b, and odd where b is a nucleotide letter
pub record Cell (b k : ℕ) : Type 0 where
  pub rule : (class : Class) → numbered class k ≡ member class b
  pub odd : k % 2 ≡ flag (member Nucleotide b)

-- each byte's number stands at its place
pub record IsTable (ks : List ℕ) : Type 0 where
  pub cell : (b : ℕ) → b < 256 → Cell b (get_or ks b 0)

-- ---- the table that the program makes
-- the letters that have one number
abbrev cells : List (ℕ × List ℕ)
cells =
    (2, ascii "*") ∷
    (4, ascii "EFILPQXZ") ∷
    (5, ascii "U") ∷
    (7, ascii "ACGRYMKWSBDHVN") ∷
    (9, ascii "T") ∷
    (11, ascii "t") ∷
    (13, ascii "acgrymkwsbdhvn") ∷
    (15, ascii "u") ∷
    (16, ascii "JOefijlopqxz") ∷
    (18, ascii "0123456789") ∷
    []

-- the number of the first of the cells that has b, and 0 where none does
abbrev number_in : List (ℕ × List ℕ) → ℕ → ℕ
number_in [] b = 0
number_in (c ∷ cs) b = cond (among b c.1) c.0 (number_in cs b)

-- the numbers of n bytes from b on
abbrev numbers : ℕ → ℕ → List ℕ
numbers zero b = []
numbers (suc n) b = number_in cells b ∷ numbers n (suc b)

-- the numbers of all bytes
abbrev pub class_table : List ℕ
class_table = numbers 256 0
