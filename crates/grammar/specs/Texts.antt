-- The language: a text is in the grammar when some well_formed tree prints as it.
use Rattle.std.specs.Prelude.{ℕ, List, ◌++◌, Bool}
use Rattle.alphabet.specs.Letters.{nucleotide}
use Rattle.record.specs.declared.Kind.{Kind}
use Rattle.grammar.specs.Header.{HeaderTree, print_header, WfHeader, print_kind}
use Rattle.grammar.specs.Bodies.{BodyTree, print_body, WfBody}

-- the header, the kind, then the body up to the end of the text
pub data Text : Type 0 where
  text : HeaderTree → (k : Kind) → BodyTree k → Text

abbrev pub print : Text → List ℕ
print (text h k b) = print_header h ++ (print_kind k ++ print_body k b)

-- the nucleotide letters of document 01, for every kind
abbrev pub all_letters : Kind → ℕ → Bool
all_letters k = nucleotide

module _ (letters : Kind → ℕ → Bool) where
  abbrev pub Wf : Text → Type 0
  Wf (text h k b) = WfHeader h × WfBody letters k b
