use mathlib.Core.Path.{◌≡◌, sym, ◌∙◌}
use mathlib.Core.Bool.{false}
use Rattle.texts.specs.Ascii.{ascii}
use Rattle.texts.specs.Words.{starts}
use Rattle.read_mark_offset.proofs.MarkOffsetCases.{mark_above, mark_plus, mark_minus, mark_star, mark_bare}
use Rattle.read_mark_offset.proofs.mark_at.Goals as goal

pub returns-then-above_signs : goal.returns-then-above_signs
returns-then-above_signs c = c.no_mark.ensures ∙ mark_above _ (sym c.above_signs.ensures ∙ c.if-above_signs.true)

pub returns-then-begins : goal.returns-then-begins
returns-then-begins c = mark_plus _ (sym c.begins.ensures ∙ c.if-begins.true)

pub returns-then-begins-2 : goal.returns-then-begins-2
returns-then-begins-2 c =
    let no_plus : starts (ascii "+") c.args.s.now ≡ false = sym c.begins.ensures ∙ c.if-begins.false in
    mark_minus _ no_plus (sym c.begins-2.ensures ∙ c.if-begins-2.true)

pub returns-then-begins-3 : goal.returns-then-begins-3
returns-then-begins-3 c =
    let no_minus : starts (ascii "-") c.args.s.now ≡ false = sym c.begins-2.ensures ∙ c.if-begins-2.false in
    let no_plus : starts (ascii "+") c.args.s.now ≡ false = sym c.begins.ensures ∙ c.if-begins.false in
    mark_star _ no_plus no_minus (sym c.begins-3.ensures ∙ c.if-begins-3.true)

pub returns : goal.returns
returns c =
    let no_minus : starts (ascii "-") c.args.s.now ≡ false = sym c.begins-2.ensures ∙ c.if-begins-2.false in
    let no_plus : starts (ascii "+") c.args.s.now ≡ false = sym c.begins.ensures ∙ c.if-begins.false in
    c.no_mark-2.ensures ∙ mark_bare _ no_plus no_minus (sym c.begins-3.ensures ∙ c.if-begins-3.false)
