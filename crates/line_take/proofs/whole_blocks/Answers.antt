use mathlib.Core.Path.{sym, ◌∙◌}
use Rattle.lines.specs.Taking.{in_line}
use Rattle.line_take.proofs.TakingParts.{run_block}
use Rattle.line_take.proofs.whole_blocks.Goals as goal

pub loop-block-preserved : goal.loop-block-preserved
loop-block-preserved c =
    let i = c.loop-block.invariant in
    let next = c.in-Some.ensures.steps in
    let block = run_block in_line c.args.piece.now c.loop-block.passed 16 c.in-Some.block.now _ i.0 (sym i.2 ∙ next.1.0) (next.1.1 ∙ i.3) (sym c.no_end.ensures ∙ c.if-not-no_end.false) in
    (block.0, i.1 ∙ block.1, block.2, next.0 ∙ i.3)
