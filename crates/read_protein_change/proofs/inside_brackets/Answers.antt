use mathlib.Core.Path.{◌≡◌, sym, ◌∙◌}
use native.Mathlib.Omega.{arith}
use mathlib.Core.Bool.{true}
use Prim.Native.Nat.{◌-◌}
use lib.ListN.{length, take, drop}
use Rattle.texts.specs.Ascii.{ascii}
use Rattle.texts.specs.Words.{starts}
use Rattle.read_protein_edit.specs.Told.{EditTold, edit_told}
use Rattle.read_protein_change.proofs.ProteinChangeCases.{edit_none, edit_le, shut_le, not_shut, inside_found}
use Rattle.read_protein_change.proofs.inside_brackets.Goals as goal

pub returns-in_err-edit : goal.returns-in_err-edit
returns-in_err-edit c = c.from_residual.ensures ∙ edit_none c.args.at c.args.s.now c.args.interval (sym c.in_err-edit.was ∙ c.protein_edit_at.ensures)

pub slice_bounds-begins-count : goal.slice_bounds-begins-count
slice_bounds-begins-count c =
    let edit : EditTold c.args.at c.args.s.now c.in_ok-edit.edit = edit_told _ _ _ (sym c.in_ok-edit.was ∙ c.protein_edit_at.ensures) in
    edit_le _ _ c.args.interval edit

pub slice_bounds-begins-start : goal.slice_bounds-begins-start
slice_bounds-begins-start c =
    let edit : EditTold c.args.at c.args.s.now c.in_ok-edit.edit = edit_told _ _ _ (sym c.in_ok-edit.was ∙ c.protein_edit_at.ensures) in
    edit_le _ _ c.args.interval edit

pub returns-then-not-begins : goal.returns-then-not-begins
returns-then-not-begins c =
    let edit : EditTold c.args.at c.args.s.now c.in_ok-edit.edit = edit_told _ _ _ (sym c.in_ok-edit.was ∙ c.protein_edit_at.ensures) in
    not_shut c.args.at c.args.s.now c.args.interval edit (sym c.begins.ensures ∙ c.if-not-begins.true)

pub overflow_add-result-2 : goal.overflow_add-result-2
overflow_add-result-2 c =
    let closed : starts (ascii ")") (take (length c.args.s.now - c.in_ok-edit.edit.len) (drop c.in_ok-edit.edit.len c.args.s.now)) ≡ true = sym c.begins.ensures ∙ c.if-not-begins.false in
    let edit : EditTold c.args.at c.args.s.now c.in_ok-edit.edit = edit_told _ _ _ (sym c.in_ok-edit.was ∙ c.protein_edit_at.ensures) in
    omega (arith, shut_le _ _ c.args.interval edit closed, c.requires.0, c.requires.1)

pub overflow_add-result-3 : goal.overflow_add-result-3
overflow_add-result-3 c =
    let closed : starts (ascii ")") (take (length c.args.s.now - c.in_ok-edit.edit.len) (drop c.in_ok-edit.edit.len c.args.s.now)) ≡ true = sym c.begins.ensures ∙ c.if-not-begins.false in
    let edit : EditTold c.args.at c.args.s.now c.in_ok-edit.edit = edit_told _ _ _ (sym c.in_ok-edit.was ∙ c.protein_edit_at.ensures) in
    omega (arith, shut_le _ _ c.args.interval edit closed, c.requires.0, c.requires.1)

pub returns : goal.returns
returns c =
    let closed : starts (ascii ")") (take (length c.args.s.now - c.in_ok-edit.edit.len) (drop c.in_ok-edit.edit.len c.args.s.now)) ≡ true = sym c.begins.ensures ∙ c.if-not-begins.false in
    let edit : EditTold c.args.at c.args.s.now c.in_ok-edit.edit = edit_told _ _ _ (sym c.in_ok-edit.was ∙ c.protein_edit_at.ensures) in
    inside_found c.args.at c.args.s.now c.args.interval edit closed _ _ _ c.uncertain.ensures c.into-loc.ensures c.leftmost.ensures
