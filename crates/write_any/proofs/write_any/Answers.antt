use Rattle.plan_record.specs.RecordPlans.{text_short}
use Rattle.write_any.proofs.write_any.Goals as goal

pub write_draft-requires : goal.write_draft-requires
write_draft-requires c =
    let a = c.args in
    text_short a.source.now a.wording a.header a.b c.plan_record.result c.plan_record.ensures _ c.in_ok-d.was
