-- The accession and the header at the front of a text, by longest match.
use Rattle.std.specs.Prelude.{ℕ, List, [], ◌∷◌, cond, ◌&&◌, leb, length, drop}
use Rattle.std.proofs.Math.Option.{Option, none, some}
use Rattle.texts.specs.Ascii.{ascii}
use Rattle.texts.specs.Words.{starts}
use Rattle.texts.specs.Runs.{run, front, behind}
use Rattle.alphabet.specs.Letters.{letter, digit, alphanumeric}
use Rattle.grammar.specs.Optional.{print_optional}
use Rattle.grammar.specs.Header.{Accession, Accession.accession, print_accession, HeaderTree, HeaderTree.header}
use Rattle.lang_headers.specs.Optionals.{parse_optional}

-- `_` with one or more letters or digits, and `.` with digits
abbrev pub suffix_of : List ℕ → Option (List ℕ)
suffix_of = parse_optional (ascii "_") alphanumeric

abbrev pub version_of : List ℕ → Option (List ℕ)
version_of = parse_optional (ascii ".") digit

-- s stands behind the name
abbrev pub named : ℕ → List ℕ → List ℕ → Accession
named initial name s = accession initial name (suffix_of s) (version_of (drop (length (print_optional (ascii "_") (suffix_of s))) s))

unfoldable pub parse_accession : List ℕ → Option Accession
parse_accession [] = none
parse_accession (b ∷ s) = cond (letter b && leb 1 (run alphanumeric s)) (some (named b (front alphanumeric s) (behind alphanumeric s))) none

-- `(`gene`)`: s starts with the bracket and the gene
abbrev pub closed : List ℕ → Option (List ℕ) → Option (List ℕ)
closed s none = none
closed s (some gene) = cond (starts (ascii ")") (drop (length (print_optional (ascii "(") (some gene))) s)) (some gene) none

unfoldable pub parse_gene : List ℕ → Option (List ℕ)
parse_gene s = closed s (parse_optional (ascii "(") alphanumeric s)

abbrev pub headed : List ℕ → Option Accession → Option HeaderTree
headed s none = none
headed s (some a) = some (header a (parse_gene (drop (length (print_accession a)) s)))

unfoldable pub parse_header : List ℕ → Option HeaderTree
parse_header s = headed s (parse_accession s)
