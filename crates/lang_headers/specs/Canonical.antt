-- The text of a header's value: there is one at most.
use Rattle.std.specs.Prelude.{ℕ, List, Bool, true, ◌&&◌, leb, length}
use Rattle.std.proofs.Math.Option.{Option, none, some}
use Rattle.texts.specs.Runs.{every}
use Rattle.alphabet.specs.Letters.{alphanumeric}
use Rattle.grammar.specs.Header.{HeaderTree}

-- no gene, or one or more letters or digits
abbrev pub is_gene : Option (List ℕ) → Bool
is_gene none = true
is_gene (some s) = leb 1 (length s) && every alphanumeric s

-- the header's digits are no numbers
abbrev pub FitsHeader : HeaderTree → Type 0
FitsHeader t = Unit
