-- The position whose text is to be written for a value, where there is one.
use Rattle.std.specs.Prelude.{ℕ, suc, List, cond, ℤ, pos, negsuc, None, Some}
use Rattle.std.proofs.Math.Option.{Option, none, some}
use Rattle.numerals.specs.declared.Sign.TheVariants.{Unsigned, Minus}
use Rattle.numerals.specs.Written.{digits_of, unsigned_digits}
use Rattle.residue.specs.Residues.{is_residue}
use Rattle.record.specs.declared.Kind.{Kind}
use Rattle.record.specs.declared.Kind.TheVariants.{Cds, Genome, Mt, Tx, Prot, Rna}
use Rattle.record.specs.Named as Declared
use Rattle.record.specs.declared.CdsFrom.{CdsFrom}
use Rattle.record.specs.declared.CdsFrom.TheVariants.{Start, End}
use Rattle.grammar.specs.Positions.{Mark, Mark.bare, Mark.minus, Mark.star, OffsetTree, OffsetTree.absent, OffsetTree.ahead, OffsetTree.back, Based, Based.based, Genomic, Genomic.known, Genomic.unknown, Residual.residual, PositionTree}
use Rattle.grammar.specs.Values.{ProtPosV.prot_pos_v, PositionV}
use Rattle.lang.specs.Canon.{map_o, both_o}

-- `+0` for an offset of 0
abbrev pub canon_offset : Declared.Offset → Option OffsetTree
canon_offset None = some absent
canon_offset (Some (pos v)) = map_o ahead (digits_of Unsigned v)
canon_offset (Some (negsuc v)) = map_o back (digits_of Minus (suc v))

abbrev pub marked : Mark → List ℕ → OffsetTree → Based
marked m ds o = based m ds o

-- a mark and digits; `0` for a base of 0
abbrev pub canon_base : CdsFrom → ℤ → Option (OffsetTree → Based)
canon_base Start (pos v) = map_o (marked bare) (digits_of Unsigned v)
canon_base Start (negsuc v) = map_o (marked minus) (digits_of Minus (suc v))
canon_base End z = map_o (marked star) (unsigned_digits z)

abbrev pub canon_based : CdsFrom → ℤ → Declared.Offset → Option Based
canon_based from z o = both_o (λ base offset. base offset) (canon_base from z) (canon_offset o)

-- unknown where there is no number
abbrev pub canon_genomic : Option ℤ → Option Genomic
canon_genomic none = some unknown
canon_genomic (some z) = map_o known (unsigned_digits z)

abbrev pub canon_position : (k : Kind) → PositionV k → Option (PositionTree k)
canon_position Cds v = canon_based v.cds_from v.base v.offset
canon_position Genome None = canon_genomic none
canon_position Genome (Some z) = canon_genomic (some z)
canon_position Mt None = canon_genomic none
canon_position Mt (Some z) = canon_genomic (some z)
canon_position Tx v = canon_based Start v.base v.offset
canon_position Prot (prot_pos_v r z) = cond (is_residue r) (map_o (residual r) (unsigned_digits z)) none
canon_position Rna v = canon_based Start v.base v.offset
