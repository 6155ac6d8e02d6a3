-- Document 01, "The header". Its digits are text and no number.
use Rattle.std.specs.Prelude.{◌≡◌, refl, length}
use Rattle.record.specs.declared.Kind.{Kind}
use Rattle.record.specs.declared.Kind.TheVariants.{Cds, Genome, Mt, Tx, Prot, Rna}
use Rattle.grammar.specs.Header.{print_kind}

pub kind_length : (k : Kind) → length (print_kind k) ≡ 3
kind_length Cds = refl
kind_length Genome = refl
kind_length Mt = refl
kind_length Tx = refl
kind_length Prot = refl
kind_length Rna = refl
