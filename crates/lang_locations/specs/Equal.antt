-- Whether two positions are one.
use Rattle.std.specs.Prelude.{Bool, true, false, ◌&&◌, eqb, ℤ, pos, negsuc, None, Some}
use Rattle.texts.specs.Words.{same}
use Rattle.record.specs.declared.Kind.{Kind}
use Rattle.record.specs.declared.Kind.TheVariants.{Cds, Genome, Mt, Tx, Prot, Rna}
use Rattle.record.specs.Named.{Offset}
use Rattle.record.specs.declared.CdsFrom.{CdsFrom}
use Rattle.record.specs.declared.CdsFrom.TheVariants.{Start, End}
use Rattle.grammar.specs.Values.{ProtPosV.prot_pos_v, PositionV}

abbrev pub eqℤ : ℤ → ℤ → Bool
eqℤ (pos v) (pos w) = eqb v w
eqℤ (pos v) (negsuc w) = false
eqℤ (negsuc v) (pos w) = false
eqℤ (negsuc v) (negsuc w) = eqb v w

abbrev pub eq_offset : Offset → Offset → Bool
eq_offset None None = true
eq_offset None (Some w) = false
eq_offset (Some v) None = false
eq_offset (Some v) (Some w) = eqℤ v w

abbrev pub eq_from : CdsFrom → CdsFrom → Bool
eq_from Start Start = true
eq_from Start End = false
eq_from End Start = false
eq_from End End = true

abbrev pub eq_position : (k : Kind) → PositionV k → PositionV k → Bool
eq_position Cds v w = eqℤ v.base w.base && (eq_offset v.offset w.offset && eq_from v.cds_from w.cds_from)
eq_position Genome None None = true
eq_position Genome None (Some w) = false
eq_position Genome (Some v) None = false
eq_position Genome (Some v) (Some w) = eqℤ v w
eq_position Mt None None = true
eq_position Mt None (Some w) = false
eq_position Mt (Some v) None = false
eq_position Mt (Some v) (Some w) = eqℤ v w
eq_position Tx v w = eqℤ v.base w.base && eq_offset v.offset w.offset
eq_position Prot (prot_pos_v r v) (prot_pos_v s w) = same r s && eqℤ v w
eq_position Rna v w = eqℤ v.base w.base && eq_offset v.offset w.offset
