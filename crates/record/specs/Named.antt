-- What may be missing in a record, the types of each kind, and what the operations answer, by name. Parsers on lists have an option of their own.
use Rattle.std.specs.Prelude.{ℕ, ℤ, Option, Result}
use Rattle.record.specs.declared.Span.{Span}
use Rattle.record.specs.declared.HgvsVariant.{HgvsVariant}
use Rattle.record.specs.declared.Refusal.{Refusal}
use Rattle.record.specs.declared.CdsPos.{CdsPos}
use Rattle.record.specs.declared.BasePos.{BasePos}
use Rattle.record.specs.declared.ProtPos.{ProtPos}
use Rattle.record.specs.declared.Interval.{Interval}

abbrev pub Part : Type 0
Part = Option Span

abbrev pub Offset : Type 0
Offset = Option ℤ

abbrev pub GenomePos : Type 0
GenomePos = Option ℤ

abbrev pub MtPos : Type 0
MtPos = Option ℤ

abbrev pub TxPos : Type 0
TxPos = BasePos

abbrev pub RnaPos : Type 0
RnaPos = BasePos

abbrev pub CdsInterval : Type 0
CdsInterval = Interval CdsPos

abbrev pub GenomeInterval : Type 0
GenomeInterval = Interval GenomePos

abbrev pub MtInterval : Type 0
MtInterval = Interval MtPos

abbrev pub TxInterval : Type 0
TxInterval = Interval TxPos

abbrev pub RnaInterval : Type 0
RnaInterval = Interval RnaPos

abbrev pub ProtInterval : Type 0
ProtInterval = Interval ProtPos

abbrev pub ReadAnswer : Type 0
ReadAnswer = Result HgvsVariant Refusal

abbrev pub WriteAnswer : Type 0
WriteAnswer = Result ℕ Refusal

abbrev pub WidthAnswer : Type 0
WidthAnswer = Result ℕ Refusal
