-- What may follow a protein edit: the end of the text, or a byte with which no edit goes on.
use Rattle.std.specs.Prelude.{ℕ, ◌≡◌, List, Bool, ◌||◌}
use Rattle.texts.specs.Ascii.{ascii}
use Rattle.texts.specs.Runs.{run}
use Rattle.alphabet.specs.Letters.{among, digit, residue}

-- residues and how they go on, digits, and what `fs`, `ext`, `ins`, `?` and `-` start with
unfoldable pub goes_on : ℕ → Bool
goes_on b = residue b || (digit b || among b (ascii "aefhilrsy?-"))

pub record Follows (r : List ℕ) : Type 0 where
  pub ends : run goes_on r ≡ 0
