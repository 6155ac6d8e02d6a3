use mathlib.Core.Path.{sym, ◌∙◌}
use native.Mathlib.Omega.{arith}
use Rattle.read_protein_edit.specs.Told.{MuTold, mu_told}
use Rattle.read_protein_change.proofs.ProteinChangeCases.{mu_none, mu_le, after_found}
use Rattle.read_protein_change.proofs.after_location.Goals as goal

pub returns-in_err-edit : goal.returns-in_err-edit
returns-in_err-edit c = c.from_residual.ensures ∙ mu_none c.args.at c.args.s.now c.args.location (sym c.in_err-edit.was ∙ c.mu_protein_edit_at.ensures)

pub overflow_add-result : goal.overflow_add-result
overflow_add-result c =
    let edit : MuTold c.args.at c.args.s.now c.in_ok-edit.edit = mu_told _ _ _ (sym c.in_ok-edit.was ∙ c.mu_protein_edit_at.ensures) in
    omega (arith, mu_le _ _ c.args.location edit, c.requires.0, c.requires.1)

pub returns : goal.returns
returns c =
    let edit : MuTold c.args.at c.args.s.now c.in_ok-edit.edit = mu_told _ _ _ (sym c.in_ok-edit.was ∙ c.mu_protein_edit_at.ensures) in
    after_found c.args.at c.args.s.now c.args.location edit _ _ c.into-loc.ensures c.leftmost.ensures
