-- Document 01, "Positions": one position, for each kind.
use Rattle.std.specs.Prelude.{ℕ, ◌≡◌, List, [], ◌++◌, true}
use Rattle.texts.specs.Ascii.{ascii}
use Rattle.texts.specs.Runs.{Some}
use Rattle.alphabet.specs.Letters.{digit}
use Rattle.residue.specs.Residues.{is_residue}
use Rattle.record.specs.declared.Kind.{Kind}
use Rattle.record.specs.declared.Kind.TheVariants.{Cds, Genome, Mt, Tx, Prot, Rna}

-- what stands before the digits of a base: `+` or `-` or nothing (from start), `*` (from end)
pub data Mark : Type 0 where
  bare plus minus star : Mark

-- optionally `+` or `-` with digits
pub data OffsetTree : Type 0 where
  absent : OffsetTree
  ahead back : List ℕ → OffsetTree

-- c, n, r: a mark, digits, an offset
pub data Based : Type 0 where
  based : Mark → List ℕ → OffsetTree → Based

-- g, m: digits, or `?`
pub data Genomic : Type 0 where
  known : List ℕ → Genomic
  unknown : Genomic

-- p: a residue, then digits
pub data Residual : Type 0 where
  residual : List ℕ → List ℕ → Residual

abbrev pub PositionTree : Kind → Type 0
PositionTree Cds = Based
PositionTree Genome = Genomic
PositionTree Mt = Genomic
PositionTree Tx = Based
PositionTree Prot = Residual
PositionTree Rna = Based

abbrev pub print_mark : Mark → List ℕ
print_mark bare = []
print_mark plus = ascii "+"
print_mark minus = ascii "-"
print_mark star = ascii "*"

abbrev pub print_offset : OffsetTree → List ℕ
print_offset absent = []
print_offset (ahead ds) = ascii "+" ++ ds
print_offset (back ds) = ascii "-" ++ ds

abbrev pub print_based : Based → List ℕ
print_based (based m ds o) = print_mark m ++ (ds ++ print_offset o)

abbrev pub print_genomic : Genomic → List ℕ
print_genomic (known ds) = ds
print_genomic unknown = ascii "?"

abbrev pub print_residual : Residual → List ℕ
print_residual (residual r ds) = r ++ ds

abbrev pub print_position : (k : Kind) → PositionTree k → List ℕ
print_position Cds = print_based
print_position Genome = print_genomic
print_position Mt = print_genomic
print_position Tx = print_based
print_position Prot = print_residual
print_position Rna = print_based

-- one or more ASCII digits
abbrev pub Digits : List ℕ → Type 0
Digits ds = Some digit ds

abbrev pub WfOffset : OffsetTree → Type 0
WfOffset absent = Unit
WfOffset (ahead ds) = Digits ds
WfOffset (back ds) = Digits ds

abbrev pub WfBased : Based → Type 0
WfBased (based m ds o) = Digits ds × WfOffset o

-- n, r: as c without `*`
abbrev pub Unstarred : Mark → Type 0
Unstarred bare = Unit
Unstarred plus = Unit
Unstarred minus = Unit
Unstarred star = ⊥

abbrev pub WfUnstarred : Based → Type 0
WfUnstarred (based m ds o) = Unstarred m × WfBased (based m ds o)

abbrev pub WfGenomic : Genomic → Type 0
WfGenomic (known ds) = Digits ds
WfGenomic unknown = Unit

abbrev pub WfResidual : Residual → Type 0
WfResidual (residual r ds) = (is_residue r ≡ true) × Digits ds

abbrev pub WfPosition : (k : Kind) → PositionTree k → Type 0
WfPosition Cds = WfBased
WfPosition Genome = WfGenomic
WfPosition Mt = WfGenomic
WfPosition Tx = WfUnstarred
WfPosition Prot = WfResidual
WfPosition Rna = WfUnstarred
