-- The edit behind the bracket, or at the front where there is none.
use Prim.Native.Nat.{◌+◌, ◌≤◌}
use mathlib.Core.Path.{◌≡◌, sym, ◌∙◌}
use native.Mathlib.Omega.{arith}
use lib.ListN.{length}
use Rattle.texts.specs.Slices.{tail}
use Rattle.texts.proofs.Slices.{tail_room}
use Rattle.texts.proofs.Bracketing.{opening_le}
use Rattle.read_scan.specs.MuAccounts.{mu_none, mu_le, mu_bare, mu_closed, mu_missing}
use Rattle.alphabet.specs.Letters.{nucleotide}
use Rattle.lang_na_edits.specs.Parse.{parse_na_edit}
use Rattle.std.specs.Prelude.{Some}
use Rattle.read_na_forms.specs.NaEditAnswers.{na_edit_answer}
use Rattle.read_na_edit.specs.Told.{bracketed}
use Rattle.read_na_edit.proofs.mu_na_edit_at.Goals as goal

pub slice_bounds-na_edit_at-count : goal.slice_bounds-na_edit_at-count
slice_bounds-na_edit_at-count c =
    let bracket-le : c.opening-a.result ≤ length c.args.s.now = omega (arith, c.opening-a.ensures, opening_le c.args.s.now) in
    bracket-le

pub slice_bounds-na_edit_at-start : goal.slice_bounds-na_edit_at-start
slice_bounds-na_edit_at-start c =
    let bracket-le : c.opening-a.result ≤ length c.args.s.now = omega (arith, c.opening-a.ensures, opening_le c.args.s.now) in
    bracket-le

pub overflow_add-at : goal.overflow_add-at
overflow_add-at c =
    let bracket-le : c.opening-a.result ≤ length c.args.s.now = omega (arith, c.opening-a.ensures, opening_le c.args.s.now) in
    omega (arith, bracket-le, c.requires)

pub na_edit_at-requires : goal.na_edit_at-requires
na_edit_at-requires c =
    let bracket-le : c.opening-a.result ≤ length c.args.s.now = omega (arith, c.opening-a.ensures, opening_le c.args.s.now) in
    tail_room _ _ c.args.s.now c.requires bracket-le

pub returns-in_err-found : goal.returns-in_err-found
returns-in_err-found c = c.from_residual.ensures ∙ mu_none bracketed _ _ _ c.opening-a.ensures (sym c.in_err-found.was ∙ c.na_edit_at.ensures)

pub closing-requires : goal.closing-requires
closing-requires c =
    let read : Some c.in_ok-found.found ≡ na_edit_answer (c.args.at + c.opening-a.result) (parse_na_edit nucleotide (tail c.opening-a.result c.args.s.now)) = sym c.in_ok-found.was ∙ c.na_edit_at.ensures in
    mu_le bracketed _ _ _ c.opening-a.ensures _ read

pub returns-in-Bare : goal.returns-in-Bare
returns-in-Bare c =
    let read : Some c.in_ok-found.found ≡ na_edit_answer (c.args.at + c.opening-a.result) (parse_na_edit nucleotide (tail c.opening-a.result c.args.s.now)) = sym c.in_ok-found.was ∙ c.na_edit_at.ensures in
    (mu_bare bracketed _ _ _ c.opening-a.ensures _ read (sym c.in-Bare.is ∙ c.closing.ensures))

pub returns-in-Closed : goal.returns-in-Closed
returns-in-Closed c =
    let read : Some c.in_ok-found.found ≡ na_edit_answer (c.args.at + c.opening-a.result) (parse_na_edit nucleotide (tail c.opening-a.result c.args.s.now)) = sym c.in_ok-found.was ∙ c.na_edit_at.ensures in
    (mu_closed bracketed _ _ _ c.opening-a.ensures _ read _ (sym c.in-Closed.is ∙ c.closing.ensures))

pub returns-in-Missing : goal.returns-in-Missing
returns-in-Missing c =
    let read : Some c.in_ok-found.found ≡ na_edit_answer (c.args.at + c.opening-a.result) (parse_na_edit nucleotide (tail c.opening-a.result c.args.s.now)) = sym c.in_ok-found.was ∙ c.na_edit_at.ensures in
    mu_missing bracketed _ _ _ c.opening-a.ensures _ read (sym c.in-Missing.is ∙ c.closing.ensures)
