use native.Mathlib.Omega.{arith}
use Rattle.lent.specs.Put.{then}
use Rattle.line_promise.specs.LineAnswers.{refusal}
use Rattle.line_refusal.proofs.RefusalLength.{refusal_length}
use Rattle.line_refusal.proofs.put_refusal.Goals as goal

pub returns : goal.returns
unfolding refusal
returns c =
    let room = c.requires in
    let n = refusal_length c.args.number c.args.place in
    then _ _ _ _ (omega arith) c.put_bytes-a.ensures
    (then _ _ _ _ (omega arith) c.put_decimal-b.ensures
    (then _ _ _ _ (omega arith) c.put_bytes-c.ensures
    c.put_decimal.ensures))
