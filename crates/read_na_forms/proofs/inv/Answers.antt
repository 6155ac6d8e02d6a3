-- The word `inv`, and what is behind it.
use mathlib.Core.Path.{◌≡◌, refl, sym, ◌∙◌}
use mathlib.Core.Bool.{true}
use Rattle.texts.specs.Ascii.{ascii}
use Rattle.texts.specs.Words.{starts}
use Rattle.alphabet.specs.Letters.{nucleotide}
use Rattle.lang_na_edits.specs.Parse.{after_inv, parse_inv}
use Rattle.read_na_forms.proofs.NaFormCases.{word_long, word_room, word_found, word_nothing}
use Rattle.read_na_forms.proofs.inv.Goals as goal

pub slice_bounds-after_inv-count : goal.slice_bounds-after_inv-count
slice_bounds-after_inv-count c =
    let is_word : starts (ascii "inv") c.args.s.now ≡ true = sym c.begins.ensures ∙ c.if-begins.true in
    word_long (ascii "inv") _ refl is_word

pub slice_bounds-after_inv-start : goal.slice_bounds-after_inv-start
slice_bounds-after_inv-start c =
    let is_word : starts (ascii "inv") c.args.s.now ≡ true = sym c.begins.ensures ∙ c.if-begins.true in
    word_long (ascii "inv") _ refl is_word

pub after_inv-requires : goal.after_inv-requires
after_inv-requires c =
    let is_word : starts (ascii "inv") c.args.s.now ≡ true = sym c.begins.ensures ∙ c.if-begins.true in
    word_room (ascii "inv") _ _ refl is_word c.requires

pub returns-then-begins : goal.returns-then-begins
unfolding parse_inv
returns-then-begins c =
    let is_word : starts (ascii "inv") c.args.s.now ≡ true = sym c.begins.ensures ∙ c.if-begins.true in
    word_found _ (ascii "inv") (after_inv nucleotide) _ refl is_word _ c.after_inv.ensures

pub returns-else-begins : goal.returns-else-begins
unfolding parse_inv
returns-else-begins c = word_nothing _ (ascii "inv") (after_inv nucleotide) _ (sym c.begins.ensures ∙ c.if-begins.false)
