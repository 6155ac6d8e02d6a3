-- Texts of the language: each has the tree beside it, and no other.
use Rattle.std.specs.Prelude.{◌≡◌, List, ◌++◌}
use Rattle.std.proofs.Math.Option.{some}
use Rattle.grammar.specs.Texts.{Text, all_letters}
use Rattle.promise.specs.Reading.{TreeOf}
use Rattle.examples.specs.Tables.{Row}
use Rattle.lang_bodies.proofs.Computing.{parser}
use Rattle.examples.specs.Nucleotides.{nucleotides}
use Rattle.examples.specs.Proteins.{initiations, proteins}

abbrev pub examples : List (Row Text)
examples = initiations ++ (nucleotides ++ proteins)

-- the parser finds it
abbrev pub Found : Row Text → Type 0
Found r = parser r.written ≡ some r.beside

-- every tree of the text is this one
abbrev pub Only : Row Text → Type 0
Only r = (x : Text) → TreeOf all_letters r.written x → x ≡ r.beside
