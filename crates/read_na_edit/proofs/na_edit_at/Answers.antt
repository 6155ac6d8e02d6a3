-- The first of the alternatives that finds something.
use mathlib.Core.Path.{◌≡◌, ap, ◌∙◌}
use borrow.Author.Rules.{rules}
use Rattle.alphabet.specs.Letters.{nucleotide}
use Rattle.lang_na_edits.specs.Parse.{parse_ident, parse_subst, parse_del, parse_ins, parse_dup, parse_inv, parse_na_edit}
use Rattle.read_na_forms.specs.NaEditAnswers.{na_edit_answer}
use Rattle.read_na_edit.proofs.FirstOfTwo.{first_of, six_in_turn}
use Rattle.read_na_edit.proofs.na_edit_at.Goals as goal

pub returns : goal.returns
unfolding parse_na_edit
returns c =
    let s = c.args.s.now in
    let to_subst : c.or_else.result ≡ na_edit_answer c.args.at _ = first_of c.args.at (parse_ident nucleotide s) (parse_subst nucleotide s) _ _ c.ident.ensures c.or_else.ensures (λ e. search rules) in
    let to_del : c.or_else-2.result ≡ na_edit_answer c.args.at _ = first_of c.args.at _ (parse_del nucleotide s) _ _ to_subst c.or_else-2.ensures (λ e. search rules) in
    let to_ins : c.or_else-3.result ≡ na_edit_answer c.args.at _ = first_of c.args.at _ (parse_ins nucleotide s) _ _ to_del c.or_else-3.ensures (λ e. search rules) in
    let to_dup : c.or_else-4.result ≡ na_edit_answer c.args.at _ = first_of c.args.at _ (parse_dup nucleotide s) _ _ to_ins c.or_else-4.ensures (λ e. search rules) in
    let to_inv : c.or_else-5.result ≡ na_edit_answer c.args.at _ = first_of c.args.at _ (parse_inv nucleotide s) _ _ to_dup c.or_else-5.ensures (λ e. search rules) in
    to_inv ∙ ap (na_edit_answer c.args.at) (six_in_turn (parse_ident nucleotide s) (parse_subst nucleotide s) (parse_del nucleotide s) (parse_ins nucleotide s) (parse_dup nucleotide s) (parse_inv nucleotide s))
