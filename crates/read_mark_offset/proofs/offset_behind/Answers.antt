use mathlib.Core.Path.{◌∙◌}
use native.Mathlib.Omega.{arith}
use Rattle.read_scan.specs.Reading.{number_le}
use Rattle.read_mark_offset.proofs.MarkOffsetCases.{behind_none, behind_some}
use Rattle.read_mark_offset.proofs.offset_behind.Goals as goal

pub returns-then-n-eq0 : goal.returns-then-n-eq0
returns-then-n-eq0 c = c.no_offset.ensures ∙ behind_none _ _ _ _ c.number_at-n.ensures c.if-n-eq0.true

pub overflow_add-result : goal.overflow_add-result
overflow_add-result c = omega (arith, number_le _ _ _ c.number_at-n.ensures)

pub returns : goal.returns
returns c = behind_some _ _ _ _ c.number_at-n.ensures c.if-n-eq0.false _ c.of_number.ensures
