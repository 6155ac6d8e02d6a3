use Rattle.record.specs.declared.Wording.TheVariants.{NoRef}
use Rattle.grammar.specs.Texts.{all_letters}
use Rattle.promise.specs.NoRef.{NoRefText}
use Rattle.rewriter.specs.Rewritten.{unread, written}
use Rattle.rewriter.proofs.noref.Goals as goal

pub returns-in-Err : goal.returns-in-Err
returns-in-Err c = unread c.args.text.now c.args.output.now (NoRefText all_letters) _ c.in-Err.ensures _ c.into.ensures

pub returns-in-Ok : goal.returns-in-Ok
returns-in-Ok c =
    let w = c.write_any.ensures in
    written c.args.text.now c.args.output.now _ _ _ c.in-Ok.ensures NoRef _ _ w.0 w.1 _ c.into-in-Ok.ensures
