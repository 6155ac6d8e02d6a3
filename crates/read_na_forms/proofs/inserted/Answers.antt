-- The letters behind `ins`, or none.
use mathlib.Core.Path.{◌≡◌, refl, sym, ◌∙◌}
use mathlib.Core.Bool.{true}
use Rattle.texts.specs.Ascii.{ascii}
use Rattle.texts.specs.Words.{starts}
use Rattle.alphabet.specs.Letters.{nucleotide}
use Rattle.alphabet.specs.Classes.{member}
use Rattle.read_na_forms.proofs.NaFormCases.{word_long, inserted_some, inserted_none}
use Rattle.read_na_forms.proofs.inserted.Goals as goal

pub slice_bounds-sequence_of-count : goal.slice_bounds-sequence_of-count
slice_bounds-sequence_of-count c =
    let is-ins : starts (ascii "ins") c.args.s.now ≡ true = sym c.begins.ensures ∙ c.if-begins.true in
    word_long (ascii "ins") _ refl is-ins

pub slice_bounds-sequence_of-start : goal.slice_bounds-sequence_of-start
slice_bounds-sequence_of-start c =
    let is-ins : starts (ascii "ins") c.args.s.now ≡ true = sym c.begins.ensures ∙ c.if-begins.true in
    word_long (ascii "ins") _ refl is-ins

pub returns-then-begins : goal.returns-then-begins
unfolding member
returns-then-begins c =
    let is-ins : starts (ascii "ins") c.args.s.now ≡ true = sym c.begins.ensures ∙ c.if-begins.true in
    inserted_some nucleotide _ _ is-ins c.sequence_of.ensures

pub returns-else-begins : goal.returns-else-begins
returns-else-begins c = inserted_none nucleotide _ (sym c.begins.ensures ∙ c.if-begins.false)
