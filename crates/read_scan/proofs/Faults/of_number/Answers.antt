use mathlib.Core.Path.{◌∙◌}
use Rattle.read_scan.specs.Faults.{plain_faults}
use Rattle.read_scan.proofs.Faults.of_number.Goals as goal

pub returns-then-n : goal.returns-then-n
returns-then-n c = let a = c.args in c.unless-unfit.ensures ∙ rw c.if-n.true (plain_faults a.n.fits a.at)
