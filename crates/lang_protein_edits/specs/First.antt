-- The bytes with which the text of a protein edit starts.
use Rattle.std.specs.Prelude.{ℕ, ◌≡◌, List, ◌++◌, true}
use Rattle.texts.specs.Ascii.{ascii}
use Rattle.texts.specs.Words.{StartsWith}
use Rattle.alphabet.specs.Letters.{among}

-- residues, `?`, `=`, and what `del`, `dup`, `ins`, `fs` and `ext` start with
abbrev pub firsts : List ℕ
firsts = ascii "ACDEFGHIKLMNPQRSTVWYBZXU" ++ (ascii "*" ++ ascii "?=dife")

-- s starts with one of some bytes
abbrev pub Head : List ℕ → List ℕ → Type 0
Head bytes = StartsWith (λ b. among b bytes ≡ true)
