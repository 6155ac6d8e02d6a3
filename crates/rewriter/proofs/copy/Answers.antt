use mathlib.Core.Path.{◌∙◌}
use native.Mathlib.Nat.{zero-add}
use lib.ListN.{length}
use Rattle.emit_text.specs.Answered.{no_room, written}
use Rattle.rewriter.proofs.copy.Goals as goal

pub returns-then-output-text : goal.returns-then-output-text
returns-then-output-text c = no_room c.args.text.now c.args.output.now c.requires c.if-output-text.true

pub returns : goal.returns
returns c = rw (c.put_bytes.ensures.0 ∙ zero-add (length c.args.text.now), c.put_bytes.ensures.1) (written c.args.text.now c.args.output.now c.requires c.if-output-text.false)
