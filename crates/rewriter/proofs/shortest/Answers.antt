use mathlib.Core.Path.{◌≡◌}
use mathlib.Core.Bool.{true}
use borrow.Author.Rules.{rules}
use Rattle.record.specs.declared.Wording.TheVariants.{Shortest}
use Rattle.grammar.specs.Texts.{all_letters}
use Rattle.promise.specs.Writing.{ToWrite}
use Rattle.rewriter.specs.Rewritten.{unread, written, copied}
use Rattle.rewriter.proofs.shortest.Goals as goal

pub returns-in-Err : goal.returns-in-Err
returns-in-Err c = unread c.args.text.now c.args.output.now (ToWrite all_letters) _ c.in-Err.ensures _ c.into.ensures

pub returns-in-Ok-true : goal.returns-in-Ok-true
returns-in-Ok-true c =
    let settled : c.in-Ok-true.field-0.settled ≡ true = search rules in
    copied c.args.text.now c.args.output.now _ _ _ c.in-Ok-true.ensures settled _ _ c.copy.ensures.0 c.copy.ensures.1 _ c.into-in-Ok-true.ensures

pub returns-in-Ok : goal.returns-in-Ok
returns-in-Ok c =
    let w = c.write_any.ensures in
    written c.args.text.now c.args.output.now _ _ _ c.in-Ok.ensures Shortest _ _ w.0 w.1 _ c.into-in-Ok.ensures
