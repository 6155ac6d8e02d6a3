use mathlib.Core.Path.{◌≡◌, refl, ◌∙◌}
use native.Mathlib.Omega.{arith}
use native.Mathlib.Numerals.{add-one}
use lib.ListN.{length, length-set}
use lib.Seq.{paste-suc}
use Rattle.lent.specs.Put.{put_paste}
use Rattle.lent.proofs.put_bytes.Goals as goal

pub loop-i-preserved : goal.loop-i-preserved
loop-i-preserved c =
    let a = c.args in
    (simp length-set c.loop-i.invariant.0, rw (c.loop-i.invariant.1, add-one) (paste-suc a.out.now a.at a.text.now c.loop-i.i 0 (omega arith) (omega arith)))

pub returns : goal.returns
returns c =
    let a = c.args in
    let end : c.loop-i.i ≡ length a.text.now = omega (arith, c.loop-i.auto.i-end, c.loop-i-test.false) in
    (refl, c.loop-i.invariant.1 ∙ rw end (put_paste a.out.now a.at a.text.now))
