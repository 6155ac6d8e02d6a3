-- The word `dup`, and the letters behind it.
use Prim.Native.Nat.{◌+◌, ◌-◌, ◌≤◌}
use mathlib.Core.Path.{◌≡◌, refl, sym, ◌∙◌}
use mathlib.Core.Bool.{true}
use native.Mathlib.Omega.{arith}
use lib.ListN.{length, take, drop}
use Rattle.texts.specs.Ascii.{ascii}
use Rattle.texts.specs.Runs.{front}
use Rattle.texts.proofs.Runs.{front_length}
use Rattle.texts.specs.Words.{starts}
use Rattle.alphabet.specs.Letters.{nucleotide}
use Rattle.alphabet.specs.Classes.{member}
use Rattle.record.specs.declared.NaEdit.TheVariants.{Dup}
use Rattle.grammar.specs.NucleotideEdits as Tree
use Rattle.lang_na_edits.specs.Parse.{parse_dup}
use Rattle.read_na_forms.proofs.Found.{found_word}
use Rattle.read_na_forms.proofs.NaFormCases.{counted_le, word_long, word_room, word_found, word_nothing}
use Rattle.read_na_forms.proofs.dup.Goals as goal

pub slice_bounds-sequence_of-count : goal.slice_bounds-sequence_of-count
slice_bounds-sequence_of-count c =
    let is-dup : starts (ascii "dup") c.args.s.now ≡ true = sym c.begins.ensures ∙ c.if-not-begins.false in
    word_long (ascii "dup") _ refl is-dup

pub slice_bounds-sequence_of-start : goal.slice_bounds-sequence_of-start
slice_bounds-sequence_of-start c =
    let is-dup : starts (ascii "dup") c.args.s.now ≡ true = sym c.begins.ensures ∙ c.if-not-begins.false in
    word_long (ascii "dup") _ refl is-dup

pub span-requires : goal.span-requires
unfolding member
span-requires c =
    let room : c.args.at + 3 + c.sequence_of-m.result ≤ 4096 = let is-dup : starts (ascii "dup") c.args.s.now ≡ true = sym c.begins.ensures ∙ c.if-not-begins.false in
    omega (arith, counted_le nucleotide _ _ c.sequence_of-m.ensures, word_room (ascii "dup") c.args.s.now c.args.at refl is-dup c.requires) in
    omega (arith, room)

pub overflow_add-m : goal.overflow_add-m
unfolding member
overflow_add-m c =
    let room : c.args.at + 3 + c.sequence_of-m.result ≤ 4096 = let is-dup : starts (ascii "dup") c.args.s.now ≡ true = sym c.begins.ensures ∙ c.if-not-begins.false in
    omega (arith, counted_le nucleotide _ _ c.sequence_of-m.ensures, word_room (ascii "dup") c.args.s.now c.args.at refl is-dup c.requires) in
    omega (arith, room)

pub returns : goal.returns
unfolding parse_dup member
returns c =
    let is-dup : starts (ascii "dup") c.args.s.now ≡ true = sym c.begins.ensures ∙ c.if-not-begins.false in
    let s = c.args.s.now in
    let x = take (length s - 3) (drop 3 s) in
    word_found _ (ascii "dup") (λ x. Tree.NaEditTree.dup (front nucleotide x)) s refl is-dup _
    (rw c.plain.ensures (found_word _ _ (front nucleotide x) _ (c.sequence_of-m.ensures ∙ sym (front_length nucleotide x)) c.span.ensures Dup (Tree.NaEditTree.dup (front nucleotide x)) (ascii "dup") refl refl refl refl refl))

pub returns-then-not-begins : goal.returns-then-not-begins
unfolding parse_dup
returns-then-not-begins c = word_nothing _ (ascii "dup") (λ x. Tree.NaEditTree.dup (front nucleotide x)) _ (sym c.begins.ensures ∙ c.if-not-begins.true)
