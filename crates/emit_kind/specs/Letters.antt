-- The letter of a kind, between the colon and the point.
use Rattle.std.specs.Prelude.{ℕ, ◌≡◌, refl, [], ◌∷◌}
use Prim.Native.Char.{code}
use Rattle.record.specs.declared.Kind.{Kind}
use Rattle.record.specs.declared.Kind.TheVariants.{Cds, Genome, Mt, Tx, Prot, Rna}
use Rattle.grammar.specs.Header.{print_kind}

abbrev pub kind_letter : Kind → ℕ
kind_letter Cds = code "c"
kind_letter Genome = code "g"
kind_letter Mt = code "m"
kind_letter Tx = code "n"
kind_letter Prot = code "p"
kind_letter Rna = code "r"

pub kind_text : (k : Kind) → code ":" ∷ (kind_letter k ∷ (code "." ∷ [])) ≡ print_kind k
kind_text Cds = refl
kind_text Genome = refl
kind_text Mt = refl
kind_text Tx = refl
kind_text Prot = refl
kind_text Rna = refl
