-- The residue, and the terminal that may be missing.
use Prim.Native.Nat.{◌+◌, ◌≤◌}
use mathlib.Core.Path.{ap}
use native.Mathlib.Omega.{arith}
use lib.ListN.{length}
use Rattle.lang_protein_edits.specs.Parse.{stop_at}
use Rattle.read_protein_ends.proofs.Ends.{stop_le, later_found}
use Rattle.read_protein_ends.proofs.ext_pos_shift.Goals as goal

pub overflow_add-result-2 : goal.overflow_add-result-2
overflow_add-result-2 c =
    let stop-within : c.stop_at-e.result.len ≤ length c.args.s.now = let a = c.args in omega (arith, ap (λ e. e.len) c.stop_at-e.ensures, stop_le (a.at + a.n + 3) a.s.now) in
    omega (arith, stop-within)

pub returns : goal.returns
returns c = later_found _ _ (stop_at c.args.s.now) c.stop_at-e.result _ c.residue_part.ensures c.stop_at-e.ensures
