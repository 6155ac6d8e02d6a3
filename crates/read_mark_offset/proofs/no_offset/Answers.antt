use mathlib.Core.Path.{◌∙◌}
use Rattle.read_mark_offset.proofs.MarkOffsetCases.{offset_none}
use Rattle.read_mark_offset.proofs.no_offset.Goals as goal

pub returns : goal.returns
returns c = c.plain.ensures ∙ offset_none _
