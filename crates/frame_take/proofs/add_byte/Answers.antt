-- The buffer has room for the byte, or not.
use mathlib.Core.Path.{sym}
use Rattle.frames.proofs.Bytes.{added_room, added_full}
use Rattle.frame_take.proofs.add_byte.Goals as goal

pub returns-then-paired-buffer : goal.returns-then-paired-buffer
returns-then-paired-buffer c = sym (added_room _ _ c.if-paired-buffer.true)

pub returns-else-paired-buffer : goal.returns-else-paired-buffer
returns-else-paired-buffer c = sym (added_full _ _ c.if-paired-buffer.false)
