use mathlib.Core.Path.{◌≡◌, ap, ◌∙◌}
use mathlib.Core.List.{List}
use Prim.Native.Nat.{ℕ}
use native.Mathlib.Omega.{arith}
use lib.ListN.{length}
use Rattle.lent.specs.Put.{put}
use Rattle.grammar.specs.Texts.{all_letters}
use Rattle.promise.specs.Outcome.{Outcome.refused}
use Rattle.promise.specs.Reading.{Reads}
use Rattle.lines.specs.Lines.{Held.whole}
use Rattle.line_promise.specs.LineAnswers.{refusal as refusalText}
use Rattle.line_promise.specs.Computed.{line_answer}
use Rattle.line_promise.proofs.OneLineAnswer.{answer_short, refusal_short, refused_small}
use Rattle.line_answer.proofs.AnswerRoom.{long_answer, held_answer, number_answer, text_answer_lem, refusal_answer}
use Rattle.line_answer.proofs.put_answer.Goals as goal

pub put_refusal-requires : goal.put_refusal-requires
put_refusal-requires c = omega (arith, refusal_short 1 0 (omega arith) (omega arith))

pub returns-then-long : goal.returns-then-long
returns-then-long c =
    let a = c.args in
    rw (long_answer a.line.now a.long c.if-long.true) c.put_refusal.ensures

pub overflow_add-result : goal.overflow_add-result
overflow_add-result c =
    let long : c.shortest-a.result.value ≡ length (line_answer (whole c.args.line.now)) = (text_answer_lem c.args.line.now c.args.out.now c.args.at c.requires _ _ c.shortest-a.ensures c.if-a-eq0.true).0 in
    record { fits = omega (arith, long, answer_short (whole c.args.line.now)) }

pub returns-then-a-eq0 : goal.returns-then-a-eq0
returns-then-a-eq0 c =
    let a = text_answer_lem c.args.line.now c.args.out.now c.args.at c.requires _ _ c.shortest-a.ensures c.if-a-eq0.true in
    rw (held_answer c.args.line.now c.args.long c.if-long.false) (omega (arith, a.0), a.1)

pub overflow_cast-a : goal.overflow_cast-a
overflow_cast-a c =
    let refusal : Reads all_letters c.args.line.now (refused c.shortest-a.result.number c.shortest-a.result.place) = (refusal_answer c.args.line.now c.args.out.now c.args.at c.requires _ _ c.shortest-a.ensures c.if-a-eq0.false).0 in
    record { fits = (refused_small _ _ _ refusal).0 }

pub overflow_cast-a-2 : goal.overflow_cast-a-2
overflow_cast-a-2 c =
    let refusal : Reads all_letters c.args.line.now (refused c.shortest-a.result.number c.shortest-a.result.place) = (refusal_answer c.args.line.now c.args.out.now c.args.at c.requires _ _ c.shortest-a.ensures c.if-a-eq0.false).0 in
    record { fits = (refused_small _ _ _ refusal).1 }

pub put_refusal-requires-2 : goal.put_refusal-requires-2
put_refusal-requires-2 c =
    let refusal : Reads all_letters c.args.line.now (refused c.shortest-a.result.number c.shortest-a.result.place) = (refusal_answer c.args.line.now c.args.out.now c.args.at c.requires _ _ c.shortest-a.ensures c.if-a-eq0.false).0 in
    let r = refusal in
    let m = refused_small _ _ _ r in
    omega (arith, refusal_short _ _ m.0 m.1)

pub returns : goal.returns
returns c =
    let r = refusal_answer c.args.line.now c.args.out.now c.args.at c.requires _ _ c.shortest-a.ensures c.if-a-eq0.false in
    rw (number_answer c.args.line.now c.args.long c.if-long.false _ _ r.0)
    (c.put_refusal-2.ensures.0, c.put_refusal-2.ensures.1 ∙ ap (λ (o : List ℕ). put o c.args.at (refusalText c.shortest-a.result.number c.shortest-a.result.place)) r.1)
