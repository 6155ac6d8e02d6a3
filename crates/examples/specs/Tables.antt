-- The rows of the tables of texts, and the header of most of them.
use Rattle.std.specs.Prelude.{ℕ, List}
use Prim.Native.Char.{code}
use Prim.Native.String.{String}
use Rattle.std.proofs.Math.Option.{none, some}
use Rattle.texts.specs.Ascii.{ascii}
use Rattle.grammar.specs.Header.{Accession.accession, HeaderTree, HeaderTree.header}

-- a text, and what the table has beside it
pub record Row (A : Type 0) : Type 0 where
  pub written : List ℕ
  pub beside : A

abbrev pub row : {A : Type 0} → String → A → Row A
row s a = record { written = ascii s; beside = a }

-- the header AB_12.3
abbrev pub ab : HeaderTree
ab = header (accession (code "A") (ascii "B") (some (ascii "12")) (some (ascii "3"))) none
