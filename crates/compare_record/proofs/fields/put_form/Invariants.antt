use Rattle.std.proofs.Common.{◌-◌, ◌≤◌, length}
use Rattle.compare_record.proofs.fields.put_form.Given as goal

abbrev pub invariant-loop-b : goal.invariant-loop-b
invariant-loop-b l = l.k ≤ length l.out
