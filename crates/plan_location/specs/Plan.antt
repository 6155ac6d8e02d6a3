-- What is to be written for a position and for a location of any kind, where it has a text.
use Rattle.std.specs.Prelude.{ℕ, List, Bool, true, cond, ◌&&◌, ℤ, pos, negsuc, nat_abs, None, Some}
use Prim.Native.Char.{code}
use Rattle.numerals.specs.Reading.{fits}
use Rattle.numerals.specs.Signs.{written_sign}
use Rattle.residue.specs.Residues.{is_residue}
use Rattle.record.specs.declared.Span.{Span}
use Rattle.record.specs.declared.Kind.{Kind}
use Rattle.record.specs.declared.Kind.TheVariants.{Cds, Genome, Mt, Tx, Prot, Rna}
use Rattle.record.specs.Named.{Offset}
use Rattle.record.specs.declared.CdsFrom.{CdsFrom}
use Rattle.record.specs.declared.CdsFrom.TheVariants as From
use Rattle.grammar.specs.Spans.{part}
use Rattle.any_location.specs.declared.Position.{Position}
use Rattle.any_location.specs.declared.Location.{Location}
use Rattle.any_location_same.specs.Same.{same_position}
use Rattle.emit_piece.specs.Texts.{no_span}
use Rattle.emit_location.specs.Texts.{no_end}
use Rattle.emit_piece.specs.Named.{OneByte, Amount}
use Rattle.emit_location.specs.declared.PositionPieces.{PositionPieces}
use Rattle.plan_location.specs.Named.{PositionPlan, LocationPlan}

-- ---- numbers: an i32 holds them, as every number of a record
unfoldable pub held : ℤ → Bool
held z = fits (written_sign z) (nat_abs z)

abbrev pub held_offset : Offset → Bool
held_offset None = true
held_offset (Some z) = held z

-- `-` before a number below 0, and another mark before the rest
abbrev pub sign_mark : OneByte → ℤ → OneByte
sign_mark other (pos v) = other
sign_mark other (negsuc v) = Some (code "-")

-- `+` before an offset of 0
abbrev pub offset_sign : Offset → OneByte
offset_sign None = None
offset_sign (Some z) = sign_mark (Some (code "+")) z

abbrev pub offset_amount : Offset → Amount
offset_amount None = None
offset_amount (Some z) = Some (nat_abs z)

-- ---- positions
abbrev pub end_of : Span → OneByte → ℤ → Offset → PositionPieces
end_of r m z o = record { residue = r; mark = m; number = Some (nat_abs z); sign = offset_sign o; offset = offset_amount o }

unfoldable pub end_plan : Span → OneByte → ℤ → Offset → PositionPlan
end_plan r m z o = cond (held z && held_offset o) (Some (end_of r m z o)) None

abbrev pub unsigned_plan : Span → OneByte → ℤ → Offset → PositionPlan
unsigned_plan r m (pos v) o = end_plan r m (pos v) o
unsigned_plan r m (negsuc v) o = None

abbrev pub based_plan : CdsFrom → ℤ → Offset → PositionPlan
based_plan From.Start z o = end_plan no_span (sign_mark None z) z o
based_plan From.End z o = unsigned_plan no_span (Some (code "*")) z o

abbrev pub unknown_end : PositionPieces
unknown_end = record { residue = no_span; mark = Some (code "?"); number = None; sign = None; offset = None }

abbrev pub genomic_plan : Bool → ℤ → PositionPlan
genomic_plan is_unknown z = cond is_unknown (Some unknown_end) (unsigned_plan no_span None z None)

abbrev pub residual_plan : List ℕ → Span → ℤ → PositionPlan
residual_plan s aa z = cond (is_residue (part s aa)) (unsigned_plan aa None z None) None

abbrev pub position_plan : List ℕ → Kind → Position → PositionPlan
position_plan s Cds p = based_plan p.cds_from p.number p.offset
position_plan s Genome p = genomic_plan p.unknown p.number
position_plan s Mt p = genomic_plan p.unknown p.number
position_plan s Tx p = based_plan From.Start p.number p.offset
position_plan s Prot p = residual_plan s p.aa p.number
position_plan s Rna p = based_plan From.Start p.number p.offset

-- ---- locations: in brackets where they are not certain
abbrev pub bracket_mark : Bool → ℕ → OneByte
bracket_mark is_certain b = cond is_certain None (Some b)

abbrev pub location_plan : Bool → PositionPlan → OneByte → PositionPlan → LocationPlan
location_plan is_certain (Some e) m (Some f) =
    Some (record { opening = bracket_mark is_certain (code "("); start = e; joint = m; end = f; closing = bracket_mark is_certain (code ")") })
location_plan is_certain (Some e) m None = None
location_plan is_certain None m f = None

-- one position where both ends are one, else two
unfoldable pub plan_location : List ℕ → Kind → Location → LocationPlan
plan_location s k l =
    cond (same_position s k l.start l.end)
    (location_plan l.certain (position_plan s k l.start) None (Some no_end))
    (location_plan l.certain (position_plan s k l.start) (Some (code "_")) (position_plan s k l.end))
