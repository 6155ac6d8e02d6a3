use mathlib.Core.Path.{◌≡◌, sym, ◌∙◌}
use mathlib.Core.Bool.{true, false}
use Rattle.texts.specs.Ascii.{ascii}
use Rattle.texts.specs.Words.{starts}
use Rattle.texts.proofs.Words.{starts_length}
use Rattle.texts.proofs.Slices.{tail_room}
use Rattle.read_mark_offset.proofs.MarkOffsetCases.{offset_above, offset_ahead, offset_back, offset_missing}
use Rattle.read_mark_offset.proofs.offset_at.Goals as goal

pub returns-then-above_signs : goal.returns-then-above_signs
returns-then-above_signs c = c.no_offset.ensures ∙ offset_above _ _ (sym c.above_signs.ensures ∙ c.if-above_signs.true)

pub slice_bounds-offset_behind-count : goal.slice_bounds-offset_behind-count
slice_bounds-offset_behind-count c =
    let ahead : starts (ascii "+") c.args.s.now ≡ true = sym c.begins.ensures ∙ c.if-begins.true in
    starts_length (ascii "+") _ ahead

pub slice_bounds-offset_behind-start : goal.slice_bounds-offset_behind-start
slice_bounds-offset_behind-start c =
    let ahead : starts (ascii "+") c.args.s.now ≡ true = sym c.begins.ensures ∙ c.if-begins.true in
    starts_length (ascii "+") _ ahead

pub offset_behind-requires : goal.offset_behind-requires
offset_behind-requires c =
    let ahead : starts (ascii "+") c.args.s.now ≡ true = sym c.begins.ensures ∙ c.if-begins.true in
    tail_room _ 1 c.args.s.now c.requires (starts_length (ascii "+") _ ahead)

pub returns-then-begins : goal.returns-then-begins
returns-then-begins c =
    let ahead : starts (ascii "+") c.args.s.now ≡ true = sym c.begins.ensures ∙ c.if-begins.true in
    c.offset_behind.ensures ∙ offset_ahead _ _ ahead

pub slice_bounds-offset_behind-count-then-begins-2 : goal.slice_bounds-offset_behind-count-then-begins-2
slice_bounds-offset_behind-count-then-begins-2 c =
    let back : starts (ascii "-") c.args.s.now ≡ true = sym c.begins-2.ensures ∙ c.if-begins-2.true in
    starts_length (ascii "-") _ back

pub slice_bounds-offset_behind-start-then-begins-2 : goal.slice_bounds-offset_behind-start-then-begins-2
slice_bounds-offset_behind-start-then-begins-2 c =
    let back : starts (ascii "-") c.args.s.now ≡ true = sym c.begins-2.ensures ∙ c.if-begins-2.true in
    starts_length (ascii "-") _ back

pub offset_behind-requires-then-begins-2 : goal.offset_behind-requires-then-begins-2
offset_behind-requires-then-begins-2 c =
    let back : starts (ascii "-") c.args.s.now ≡ true = sym c.begins-2.ensures ∙ c.if-begins-2.true in
    tail_room _ 1 c.args.s.now c.requires (starts_length (ascii "-") _ back)

pub returns-then-begins-2 : goal.returns-then-begins-2
returns-then-begins-2 c =
    let back : starts (ascii "-") c.args.s.now ≡ true = sym c.begins-2.ensures ∙ c.if-begins-2.true in
    let no_plus : starts (ascii "+") c.args.s.now ≡ false = sym c.begins.ensures ∙ c.if-begins.false in
    c.offset_behind-then-begins-2.ensures ∙ offset_back _ _ no_plus back

pub returns : goal.returns
returns c =
    let no_plus : starts (ascii "+") c.args.s.now ≡ false = sym c.begins.ensures ∙ c.if-begins.false in
    c.no_offset-2.ensures ∙ offset_missing _ _ no_plus (sym c.begins-2.ensures ∙ c.if-begins-2.false)
