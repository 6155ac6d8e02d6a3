use Prim.Native.Nat.{◌+◌, ◌-◌}
use mathlib.Core.Path.{sym, ◌∙◌}
use native.Mathlib.Omega.{arith}
use lib.ListN.{length, take, drop}
use Rattle.texts.proofs.Slices.{tail_room}
use Rattle.read_location.specs.Told.{LocationTold, location_told, location_unread, location_within}
use Rattle.read_na_edit.specs.Told.{MuTold, mu_told, mu_unread}
use Rattle.read_na_body.proofs.NaBodyCases.{no_location, no_edit, edit_le, not_ended, body_found}
use Rattle.read_na_body.proofs.na_body.Goals as goal

pub returns-in_err-location : goal.returns-in_err-location
returns-in_err-location c =
    let a = c.args in
    c.from_residual.ensures ∙ no_location a.kind a.at a.s.now (location_unread a.kind a.at a.s.now (sym c.in_err-location.was ∙ c.location_at.ensures))

pub slice_bounds-mu_na_edit_at-count : goal.slice_bounds-mu_na_edit_at-count
slice_bounds-mu_na_edit_at-count c =
    let loc : LocationTold c.args.kind c.args.at c.args.s.now c.in_ok-location.location = location_told c.args.kind _ _ _ (sym c.in_ok-location.was ∙ c.location_at.ensures) in
    location_within c.args.kind loc

pub slice_bounds-mu_na_edit_at-start : goal.slice_bounds-mu_na_edit_at-start
slice_bounds-mu_na_edit_at-start c =
    let loc : LocationTold c.args.kind c.args.at c.args.s.now c.in_ok-location.location = location_told c.args.kind _ _ _ (sym c.in_ok-location.was ∙ c.location_at.ensures) in
    location_within c.args.kind loc

pub overflow_add-at : goal.overflow_add-at
overflow_add-at c =
    let loc : LocationTold c.args.kind c.args.at c.args.s.now c.in_ok-location.location = location_told c.args.kind _ _ _ (sym c.in_ok-location.was ∙ c.location_at.ensures) in
    omega (arith, location_within c.args.kind loc, c.requires)

pub mu_na_edit_at-requires : goal.mu_na_edit_at-requires
mu_na_edit_at-requires c =
    let loc : LocationTold c.args.kind c.args.at c.args.s.now c.in_ok-location.location = location_told c.args.kind _ _ _ (sym c.in_ok-location.was ∙ c.location_at.ensures) in
    tail_room _ _ c.args.s.now c.requires (location_within c.args.kind loc)

pub returns-in_err-edit : goal.returns-in_err-edit
returns-in_err-edit c =
    let loc : LocationTold c.args.kind c.args.at c.args.s.now c.in_ok-location.location = location_told c.args.kind _ _ _ (sym c.in_ok-location.was ∙ c.location_at.ensures) in
    c.from_residual-in_err-edit.ensures ∙ no_edit _ _ _ loc (mu_unread _ _ (sym c.in_err-edit.was ∙ c.mu_na_edit_at.ensures))

pub overflow_add-n : goal.overflow_add-n
overflow_add-n c =
    let edit : MuTold (c.args.at + c.in_ok-location.location.len) (take (length c.args.s.now - c.in_ok-location.location.len) (drop c.in_ok-location.location.len c.args.s.now)) c.in_ok-edit.edit = mu_told _ _ _ (sym c.in_ok-edit.was ∙ c.mu_na_edit_at.ensures) in
    let loc : LocationTold c.args.kind c.args.at c.args.s.now c.in_ok-location.location = location_told c.args.kind _ _ _ (sym c.in_ok-location.was ∙ c.location_at.ensures) in
    omega (arith, edit_le c.args.kind _ _ loc edit)

pub returns-then-n-edit : goal.returns-then-n-edit
returns-then-n-edit c =
    let edit : MuTold (c.args.at + c.in_ok-location.location.len) (take (length c.args.s.now - c.in_ok-location.location.len) (drop c.in_ok-location.location.len c.args.s.now)) c.in_ok-edit.edit = mu_told _ _ _ (sym c.in_ok-edit.was ∙ c.mu_na_edit_at.ensures) in
    let loc : LocationTold c.args.kind c.args.at c.args.s.now c.in_ok-location.location = location_told c.args.kind _ _ _ (sym c.in_ok-location.was ∙ c.location_at.ensures) in
    not_ended _ _ _ loc edit c.if-n-edit.true

pub returns : goal.returns
returns c =
    let edit : MuTold (c.args.at + c.in_ok-location.location.len) (take (length c.args.s.now - c.in_ok-location.location.len) (drop c.in_ok-location.location.len c.args.s.now)) c.in_ok-edit.edit = mu_told _ _ _ (sym c.in_ok-edit.was ∙ c.mu_na_edit_at.ensures) in
    let loc : LocationTold c.args.kind c.args.at c.args.s.now c.in_ok-location.location = location_told c.args.kind _ _ _ (sym c.in_ok-location.was ∙ c.location_at.ensures) in
    (body_found _ _ _ loc edit c.if-n-edit.false _ c.leftmost.ensures)
