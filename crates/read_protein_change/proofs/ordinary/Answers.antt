use mathlib.Core.Path.{◌≡◌, sym, ◌∙◌}
use Rattle.texts.specs.Ascii.{ascii}
use Rattle.texts.specs.Words.{starts}
use Rattle.texts.proofs.Words.{starts_length}
use Rattle.texts.proofs.Slices.{tail_room}
use mathlib.Core.Bool.{true}
use Prim.Native.Nat.{◌≤◌}
use lib.ListN.{length}
use Rattle.read_protein_change.proofs.ProteinChangeCases.{ordinary_opened, ordinary_bare}
use Rattle.read_protein_change.proofs.ordinary.Goals as goal

pub slice_bounds-opened-count : goal.slice_bounds-opened-count
slice_bounds-opened-count c =
    let bracket-le : 1 ≤ length c.args.s.now = let bracket : starts (ascii "(") c.args.s.now ≡ true = sym c.begins.ensures ∙ c.if-begins.true in
    starts_length (ascii "(") c.args.s.now bracket in
    bracket-le

pub slice_bounds-opened-start : goal.slice_bounds-opened-start
slice_bounds-opened-start c =
    let bracket-le : 1 ≤ length c.args.s.now = let bracket : starts (ascii "(") c.args.s.now ≡ true = sym c.begins.ensures ∙ c.if-begins.true in
    starts_length (ascii "(") c.args.s.now bracket in
    bracket-le

pub opened-requires : goal.opened-requires
opened-requires c =
    let bracket-le : 1 ≤ length c.args.s.now = let bracket : starts (ascii "(") c.args.s.now ≡ true = sym c.begins.ensures ∙ c.if-begins.true in
    starts_length (ascii "(") c.args.s.now bracket in
    tail_room _ 1 c.args.s.now c.requires bracket-le

pub returns-then-begins : goal.returns-then-begins
returns-then-begins c =
    let bracket : starts (ascii "(") c.args.s.now ≡ true = sym c.begins.ensures ∙ c.if-begins.true in
    ordinary_opened _ _ bracket _ c.opened.ensures

pub returns-else-begins : goal.returns-else-begins
returns-else-begins c = ordinary_bare _ _ (sym c.begins.ensures ∙ c.if-begins.false) _ c.bare.ensures
