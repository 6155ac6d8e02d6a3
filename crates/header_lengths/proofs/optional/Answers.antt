-- The word, then one or more bytes of the class.
use mathlib.Core.Path.{◌≡◌, sym, ◌∙◌}
use mathlib.Core.Bool.{true}
use native.Mathlib.Omega.{arith}
use Rattle.texts.specs.Words.{starts}
use Rattle.texts.proofs.Words.{starts_length}
use Rattle.alphabet.specs.Classes.{member}
use Rattle.header_lengths.proofs.CountedParts.{optional_no_word, optional_fits, optional_empty, optional_found}
use Rattle.header_lengths.proofs.optional.Goals as goal

pub returns-then-not-begins : goal.returns-then-not-begins
returns-then-not-begins c =
    let a = c.args in
    optional_no_word a.word.now (member a.class) a.s.now (sym c.begins.ensures ∙ c.if-not-begins.true)

pub slice_bounds-run_of-count : goal.slice_bounds-run_of-count
slice_bounds-run_of-count c =
    let word-there : starts c.args.word.now c.args.s.now ≡ true = sym c.begins.ensures ∙ c.if-not-begins.false in
    starts_length _ _ word-there

pub slice_bounds-run_of-start : goal.slice_bounds-run_of-start
slice_bounds-run_of-start c =
    let word-there : starts c.args.word.now c.args.s.now ≡ true = sym c.begins.ensures ∙ c.if-not-begins.false in
    starts_length _ _ word-there

pub returns-then-n-eq0 : goal.returns-then-n-eq0
returns-then-n-eq0 c =
    let word-there : starts c.args.word.now c.args.s.now ≡ true = sym c.begins.ensures ∙ c.if-not-begins.false in
    let a = c.args in
    optional_empty a.word.now (member a.class) a.s.now word-there c.run_of-n.ensures c.if-n-eq0.true

pub overflow_add-result : goal.overflow_add-result
overflow_add-result c =
    let word-there : starts c.args.word.now c.args.s.now ≡ true = sym c.begins.ensures ∙ c.if-not-begins.false in
    let a = c.args in
    omega (arith, optional_fits a.word.now (member a.class) a.s.now word-there c.run_of-n.ensures)

pub returns-else-n-eq0 : goal.returns-else-n-eq0
returns-else-n-eq0 c =
    let word-there : starts c.args.word.now c.args.s.now ≡ true = sym c.begins.ensures ∙ c.if-not-begins.false in
    let a = c.args in
    optional_found a.word.now (member a.class) a.s.now word-there c.run_of-n.ensures c.if-n-eq0.false
