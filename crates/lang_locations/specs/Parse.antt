-- The position at the front of a text, by longest match.
use Rattle.std.specs.Prelude.{ℕ, List, cond, eqb, length, take, drop}
use Rattle.std.proofs.Math.Option.{Option, none, some}
use Rattle.texts.specs.Ascii.{ascii}
use Rattle.texts.specs.Runs.{run, front, behind}
use Rattle.texts.specs.Words.{starts}
use Rattle.alphabet.specs.Letters.{digit}
use Rattle.residue.specs.Reading.{residue_len}
use Rattle.record.specs.declared.Kind.{Kind}
use Rattle.record.specs.declared.Kind.TheVariants.{Cds, Genome, Mt, Tx, Prot, Rna}
use Rattle.grammar.specs.Positions.{Mark, Mark.bare, Mark.plus, Mark.minus, Mark.star, OffsetTree, OffsetTree.absent, OffsetTree.ahead, OffsetTree.back, Based, Based.based, Genomic, Genomic.known, Genomic.unknown, Residual, Residual.residual, PositionTree, print_mark}

-- what is made of the digits at the front, and what it is where there are none
unfoldable pub on_digits : {A : Type 0} → A → (List ℕ → A) → List ℕ → A
on_digits other made s = cond (eqb (run digit s) 0) other (made (front digit s))

unfoldable pub parse_mark : List ℕ → Mark
parse_mark s = cond (starts (ascii "+") s) plus (cond (starts (ascii "-") s) minus (cond (starts (ascii "*") s) star bare))

-- absent where no sign with a digit behind it stands
unfoldable pub parse_offset : List ℕ → OffsetTree
parse_offset s =
    cond (starts (ascii "+") s) (on_digits absent ahead (drop 1 s))
    (cond (starts (ascii "-") s) (on_digits absent back (drop 1 s)) absent)

-- s stands behind the mark
abbrev pub parse_behind : Mark → List ℕ → Option Based
parse_behind m s = on_digits none (λ ds. some (based m ds (parse_offset (behind digit s)))) s

unfoldable pub parse_based : List ℕ → Option Based
parse_based s = parse_behind (parse_mark s) (drop (length (print_mark (parse_mark s))) s)

unfoldable pub parse_unstarred : List ℕ → Option Based
parse_unstarred s = cond (starts (ascii "*") s) none (parse_based s)

unfoldable pub parse_genomic : List ℕ → Option Genomic
parse_genomic s = on_digits (cond (starts (ascii "?") s) (some unknown) none) (λ ds. some (known ds)) s

-- s stands behind the residue r
abbrev pub parse_numbered : List ℕ → List ℕ → Option Residual
parse_numbered r s = on_digits none (λ ds. some (residual r ds)) s

unfoldable pub parse_residual : List ℕ → Option Residual
parse_residual s = cond (eqb (residue_len s) 0) none (parse_numbered (take (residue_len s) s) (drop (residue_len s) s))

abbrev pub parse_position : (k : Kind) → List ℕ → Option (PositionTree k)
parse_position Cds = parse_based
parse_position Genome = parse_genomic
parse_position Mt = parse_genomic
parse_position Tx = parse_unstarred
parse_position Prot = parse_residual
parse_position Rna = parse_unstarred
