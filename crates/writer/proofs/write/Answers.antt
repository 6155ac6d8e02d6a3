use mathlib.Core.Path.{refl, sym}
use Rattle.record.specs.declared.Wording.TheVariants.{Shortest}
use Rattle.write_any.specs.AnyWrites.{any_writes}
use Rattle.writer.proofs.write.Goals as goal

pub returns : goal.returns
returns c =
    let a = c.args in
    any_writes a.source.now a.v a.output.now Shortest _ _ refl (sym c.into.ensures) _ _ c.write_any.ensures.0 c.write_any.ensures.1
