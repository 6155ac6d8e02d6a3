-- The word `del`, and what is behind it.
use mathlib.Core.Path.{◌≡◌, refl, sym, ◌∙◌}
use mathlib.Core.Bool.{true}
use Rattle.texts.specs.Ascii.{ascii}
use Rattle.texts.specs.Words.{starts}
use Rattle.alphabet.specs.Letters.{nucleotide}
use Rattle.lang_na_edits.specs.Parse.{after_del, parse_del}
use Rattle.read_na_forms.proofs.NaFormCases.{word_long, word_room, word_found, word_nothing}
use Rattle.read_na_del.proofs.del.Goals as goal

pub slice_bounds-after_del-count : goal.slice_bounds-after_del-count
slice_bounds-after_del-count c =
    let is_word : starts (ascii "del") c.args.s.now ≡ true = sym c.begins.ensures ∙ c.if-begins.true in
    word_long (ascii "del") _ refl is_word

pub slice_bounds-after_del-start : goal.slice_bounds-after_del-start
slice_bounds-after_del-start c =
    let is_word : starts (ascii "del") c.args.s.now ≡ true = sym c.begins.ensures ∙ c.if-begins.true in
    word_long (ascii "del") _ refl is_word

pub after_del-requires : goal.after_del-requires
after_del-requires c =
    let is_word : starts (ascii "del") c.args.s.now ≡ true = sym c.begins.ensures ∙ c.if-begins.true in
    word_room (ascii "del") _ _ refl is_word c.requires

pub returns-then-begins : goal.returns-then-begins
unfolding parse_del
returns-then-begins c =
    let is_word : starts (ascii "del") c.args.s.now ≡ true = sym c.begins.ensures ∙ c.if-begins.true in
    word_found _ (ascii "del") (after_del nucleotide) _ refl is_word _ c.after_del.ensures

pub returns-else-begins : goal.returns-else-begins
unfolding parse_del
returns-else-begins c = word_nothing _ (ascii "del") (after_del nucleotide) _ (sym c.begins.ensures ∙ c.if-begins.false)
