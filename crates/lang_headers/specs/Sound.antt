-- The parser finds the headers of the grammar and no others.
use Rattle.std.specs.Prelude.{ℕ, ◌≡◌, List, false}
use Rattle.texts.specs.Ascii.{ascii}
use Rattle.texts.specs.Words.{starts}
use Rattle.texts.specs.Runs.{run}
use Rattle.alphabet.specs.Letters.{alphanumeric}

-- ---- the accession
-- what may follow it: no letter or digit, no `_` and no `.`
pub record FollowsAccession (r : List ℕ) : Type 0 where
  pub no_more : run alphanumeric r ≡ 0
  pub no_suffix : starts (ascii "_") r ≡ false
  pub no_version : starts (ascii ".") r ≡ false

-- ---- the header
-- what may follow it: what may follow an accession, and no bracket
pub record FollowsHeader (r : List ℕ) : Type 0 where
  pub accession_ends : FollowsAccession r
  pub no_gene : starts (ascii "(") r ≡ false
