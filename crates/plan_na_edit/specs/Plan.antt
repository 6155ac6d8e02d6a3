-- The pieces to be written for a nucleotide edit: the cases of its canonical tree, with spans for letters.
use Rattle.std.specs.Prelude.{ℕ, List, cond, ◌&&◌, leb, ℤ, nat_abs, length, None, Some}
use Rattle.record.specs.declared.Span.{Span}
use Rattle.record.specs.declared.NaEdit.{NaEdit}
use Rattle.record.specs.declared.NaEdit.TheVariants as Na
use Rattle.grammar.specs.Spans.{part}
use Rattle.emit_word.specs.declared.Word.{Word}
use Rattle.emit_word.specs.declared.Word.TheVariants.{Empty, Del, Ins, Dup, Inv, Equal, Greater}
use Rattle.emit_edit.specs.declared.EditPieces.{EditPieces}
use Rattle.emit_piece.specs.Texts.{no_span}
use Rattle.plan_edits.specs.EditPlans.{edit_if, letters_edit, word_edit, is_unsigned}
use Rattle.plan_edits.specs.Named.{EditPlan}
use Rattle.plan_na_tests.specs.Tests.{is_seq, is_seq1, same_parts, one_each_parts}

-- `del` letters `ins` letters
abbrev pub del_ins_pieces : Span → Span → EditPieces
del_ins_pieces p q = record { first = no_span; word = Del; second = p; sign = None; amount = None; joint = Ins; last = q }

-- a word, a number, a word, letters
abbrev pub count_pieces : Word → ℕ → Word → Span → EditPieces
count_pieces word v joint q = record { first = no_span; word = word; second = no_span; sign = None; amount = Some v; joint = joint; last = q }

abbrev pub plan_count : Word → ℤ → Word → Span → EditPlan
plan_count word n joint q = edit_if (is_unsigned n) (count_pieces word (nat_abs n) joint q)

module _ (s : List ℕ) where
  -- `a=`, else `A>T`, else `del` a `ins` b with letters b
  unfoldable pub plan_change : Span → Span → EditPlan
  plan_change p q =
      cond (same_parts s p q) (Some (letters_edit p Equal no_span))
      (cond (one_each_parts s p q) (Some (letters_edit p Greater q))
      (edit_if (leb 1 (length (part s q))) (del_ins_pieces p q)))

  unfoldable pub plan_ref_alt : Span → Span → EditPlan
  plan_ref_alt p q = cond (is_seq s p && is_seq s q) (plan_change p q) None

  unfoldable pub plan_num_alt : ℤ → Span → EditPlan
  plan_num_alt n q = cond (is_seq1 s q) (plan_count Del n Ins q) None

  abbrev pub plan_seq : Word → Span → EditPlan
  plan_seq word p = edit_if (is_seq s p) (word_edit word p)

  abbrev pub plan_ins : Span → EditPlan
  plan_ins q = edit_if (is_seq1 s q) (word_edit Ins q)

  abbrev pub plan_na_edit : NaEdit → EditPlan
  plan_na_edit (Na.RefAlt p q) = plan_ref_alt p q
  plan_na_edit (Na.NumAlt n q) = plan_num_alt n q
  plan_na_edit (Na.DelRef p) = plan_seq Del p
  plan_na_edit (Na.DelNum n) = plan_count Del n Empty no_span
  plan_na_edit (Na.Ins q) = plan_ins q
  plan_na_edit (Na.Dup p) = plan_seq Dup p
  plan_na_edit (Na.InvRef p) = plan_seq Inv p
  plan_na_edit (Na.InvNum n) = plan_count Inv n Empty no_span
