use mathlib.Core.Path.{◌≡◌, sym, ◌∙◌}
use Rattle.read_protein_body.proofs.ProteinBodyCases.{exact_told, exact_none, exact_found, body_none, body_open, body_found}
use Rattle.read_protein_change.specs.Told.{OrdinaryTold, ordinary_told}
use mathlib.Core.Option.{none}
use Rattle.lang_bodies.specs.ProteinBodies.{exact_bodies, first_exact}
use Rattle.read_protein_body.proofs.prot_body.Goals as goal

pub returns-in-Some : goal.returns-in-Some
returns-in-Some c = exact_found _ _ _ _ _ (exact_told _ _ (sym c.in-Some.is ∙ c.exact.ensures)) c.begins.ensures c.settled_if-faults.ensures

pub returns-in_err-change : goal.returns-in_err-change
returns-in_err-change c =
    let no_exact : first_exact exact_bodies c.args.s.now ≡ none = exact_none _ (sym c.in_default.is ∙ c.exact.ensures) in
    c.from_residual.ensures ∙ body_none _ _ no_exact (sym c.in_err-change.was ∙ c.ordinary.ensures)

pub returns-then-change-s : goal.returns-then-change-s
returns-then-change-s c =
    let ordinary : OrdinaryTold c.args.at c.args.s.now c.in_ok-change.change = ordinary_told _ _ _ (sym c.in_ok-change.was ∙ c.ordinary.ensures) in
    let no_exact : first_exact exact_bodies c.args.s.now ≡ none = exact_none _ (sym c.in_default.is ∙ c.exact.ensures) in
    body_open _ _ no_exact ordinary c.if-change-s.true

pub returns : goal.returns
returns c =
    let ordinary : OrdinaryTold c.args.at c.args.s.now c.in_ok-change.change = ordinary_told _ _ _ (sym c.in_ok-change.was ∙ c.ordinary.ensures) in
    let no_exact : first_exact exact_bodies c.args.s.now ≡ none = exact_none _ (sym c.in_default.is ∙ c.exact.ensures) in
    body_found _ _ no_exact ordinary c.if-change-s.false
