-- What the routines answer for what the parser finds.
use Rattle.std.specs.Prelude as Prelude
use Rattle.std.specs.Prelude.{None, Some, ℕ, List, cond, eqb, length}
use Rattle.std.proofs.Math.Option.{Option, none, some}
use Rattle.record.specs.declared.Kind.{Kind}
use Rattle.record.specs.declared.Kind.TheVariants.{Cds, Genome, Mt, Tx, Prot, Rna}
use Rattle.record.specs.declared.Header.{Header}
use Rattle.grammar.specs.Header.{HeaderTree, print_header}
use Rattle.grammar.specs.Records.{header_at}

-- how many bytes it has without its brackets; 0 where there is none
abbrev pub gene_length : Option (List ℕ) → ℕ
gene_length none = 0
gene_length (some gene) = length gene

unfoldable pub header_answer : ℕ → Option HeaderTree → Prelude.Option (Header × ℕ)
header_answer at none = None
header_answer at (some t) = Some (header_at at t, length (print_header t))

unfoldable pub kind_answer : Option Kind → Prelude.Option Kind
kind_answer none = None
kind_answer (some k) = Some k

-- the kind that a letter names
unfoldable pub kind_of : ℕ → Option Kind
kind_of b =
    cond (eqb 99 b) (some Cds)
    (cond (eqb 103 b) (some Genome)
    (cond (eqb 109 b) (some Mt)
    (cond (eqb 110 b) (some Tx)
    (cond (eqb 112 b) (some Prot)
    (cond (eqb 114 b) (some Rna) none)))))
