-- The text of planned pieces is that of the edit's canonical tree.
use Rattle.std.specs.Prelude.{ℕ, ◌≡◌, refl, List, ◌∷◌, ◌++◌, Bool, true, false, cond, ◌&&◌, leb, ℤ, nat_abs, length, get_or}
use Rattle.std.proofs.Common.{ap, ◌∙◌, append-nil}
use Rattle.std.proofs.Math.Option.{none, some}
use Rattle.texts.specs.Ascii.{ascii}
use Rattle.texts.proofs.Words.{one_each_lem}
use Rattle.numerals.specs.Digits.{dec}
use Rattle.numerals.specs.Written.{unsigned_digits}
use Rattle.alphabet.specs.Letters.{nucleotide}
use Rattle.record.specs.declared.Span.{Span}
use Rattle.record.specs.declared.NaEdit.{NaEdit}
use Rattle.record.specs.declared.NaEdit.TheVariants as Na
use Rattle.grammar.specs.Spans.{part}
use Rattle.grammar.specs.Contents.{na_edit_content}
use Rattle.grammar.specs.NucleotideEdits as Tree
use Rattle.grammar.specs.NucleotideEdits.{NaEditTree.equal, NaEditTree.swap, NaEditTree.del_ins, NaEditTree.del_num_ins, NaEditTree.del_num, NaEditTree.del, NaEditTree.ins, NaEditTree.dup, NaEditTree.inv_num, NaEditTree.inv, print_na_edit}
use Rattle.lang.specs.Canon.{map_o}
use Rattle.lang_na_edits.specs.Canon.{canon_ref_alt, canon_na_edit}
use Rattle.emit_word.specs.declared.Word.{Word}
use Rattle.emit_word.specs.declared.Word.TheVariants.{Empty, Del, Ins, Dup, Inv, Equal, Greater}
use Rattle.emit_word.specs.Words.{word_text}
use Rattle.emit_piece.specs.Texts.{no_span}
use Rattle.emit_edit.specs.Texts.{edit_text}
use Rattle.emit_piece.specs.PartLengths.{no_part}
use Rattle.plan_edits.specs.EditPlans.{plan_text, letters_edit, is_unsigned}
use Rattle.plan_edits.specs.PlanTexts.{letters_text, word_text_lem, either, pieces_text, edit_if_lem, unsigned_digits_lem}
use Rattle.plan_na_tests.specs.Tests.{is_seq, is_seq1, same_parts, one_each_parts}
use Rattle.plan_na_edit.specs.Plan.{del_ins_pieces, count_pieces, plan_change, plan_ref_alt, plan_num_alt, plan_count, plan_na_edit}

-- ---- the texts of the pieces
counted_is : (f : List ℕ → Tree.NaEditTree) (n : ℤ) → map_o f (unsigned_digits n) ≡ cond (is_unsigned n) (some (f (dec (nat_abs n)))) none
counted_is f n = rw (unsigned_digits_lem n) (go (is_unsigned n))
  where
    go : (b : Bool) → map_o f (cond b (some (dec (nat_abs n))) none) ≡ cond b (some (f (dec (nat_abs n)))) none
    go true = refl
    go false = refl

module _ (s : List ℕ) where
  count_text : (word : Word) (v : ℕ) (joint : Word) (q : Span) → edit_text s (count_pieces word v joint q) ≡ word_text word ++ (dec v ++ (word_text joint ++ part s q))
  unfolding edit_text
  count_text word v joint q = rw (no_part s)

  change_text : (p q : Span) → edit_text s (del_ins_pieces p q) ≡ ascii "del" ++ (part s p ++ (ascii "ins" ++ part s q))
  unfolding edit_text
  change_text p q = rw (no_part s)

  equal_text : (p : Span) → edit_text s (letters_edit p Equal no_span) ≡ part s p ++ ascii "="
  equal_text p = letters_text s p Equal no_span ∙ rw (no_part s)

  swap_text : (p q : Span) → one_each_parts s p q ≡ true → edit_text s (letters_edit p Greater q) ≡ print_na_edit (swap (get_or (part s p) 0 0) (get_or (part s q) 0 0))
  swap_text p q h =
      let a = (one_each_lem (part s p) (part s q) h).0 in
      let b = (one_each_lem (part s p) (part s q) h).1 in
      letters_text s p Greater q ∙ ap (λ (x : List ℕ). x ++ (ascii ">" ++ part s q)) a ∙ ap (λ (y : List ℕ). get_or (part s p) 0 0 ∷ (ascii ">" ++ y)) b

  -- ---- the plans
  change_planned : (p q : Span) → plan_text s (plan_change s p q) ≡ map_o print_na_edit (canon_ref_alt (part s p) (part s q))
  unfolding plan_change
  change_planned p q =
      either s print_na_edit (same_parts s p q) _ _ _ _
      (λ h. pieces_text s print_na_edit _ (equal (part s p)) (equal_text p))
      (λ h. either s print_na_edit (one_each_parts s p q) _ _ _ _
      (λ k. pieces_text s print_na_edit _ (swap (get_or (part s p) 0 0) (get_or (part s q) 0 0)) (swap_text p q k))
      (λ k. edit_if_lem s print_na_edit (leb 1 (length (part s q))) _ (del_ins (part s p) (part s q)) (change_text p q)))

  count_planned : (word : Word) (joint : Word) (q : Span) (f : List ℕ → Tree.NaEditTree) (n : ℤ) → ((ds : List ℕ) → word_text word ++ (ds ++ (word_text joint ++ part s q)) ≡ print_na_edit (f ds))
      → plan_text s (plan_count word n joint q) ≡ map_o print_na_edit (map_o f (unsigned_digits n))
  count_planned word joint q f n h =
      rw (counted_is f n)
      (edit_if_lem s print_na_edit (is_unsigned n) _ (f (dec (nat_abs n))) (count_text word (nat_abs n) joint q ∙ h (dec (nat_abs n))))

  -- digits, and nothing behind them
  digits_alone : (word : Word) (ds : List ℕ) → word_text word ++ (ds ++ part s no_span) ≡ word_text word ++ ds
  digits_alone word ds = rw (no_part s, append-nil ds)

  num_alt_planned : (n : ℤ) (q : Span) → plan_text s (plan_num_alt s n q) ≡ map_o print_na_edit (canon_na_edit nucleotide (na_edit_content s (Na.NumAlt n q)))
  unfolding plan_num_alt
  num_alt_planned n q = either s print_na_edit (is_seq1 s q) _ _ _ _ (λ h. count_planned Del Ins q (λ ds. del_num_ins ds (part s q)) n (λ ds. refl)) (λ h. refl)

  ref_alt_planned : (p q : Span) → plan_text s (plan_ref_alt s p q) ≡ map_o print_na_edit (canon_na_edit nucleotide (na_edit_content s (Na.RefAlt p q)))
  unfolding plan_ref_alt
  ref_alt_planned p q = either s print_na_edit (is_seq s p && is_seq s q) _ _ _ _ (λ h. change_planned p q) (λ h. refl)

  pub planned : (e : NaEdit) → plan_text s (plan_na_edit s e) ≡ map_o print_na_edit (canon_na_edit nucleotide (na_edit_content s e))
  planned (Na.RefAlt p q) = ref_alt_planned p q
  planned (Na.NumAlt n q) = num_alt_planned n q
  planned (Na.DelRef p) = edit_if_lem s print_na_edit (is_seq s p) _ (del (part s p)) (word_text_lem s Del p)
  planned (Na.DelNum n) = count_planned Del Empty no_span del_num n (digits_alone Del)
  planned (Na.Ins q) = edit_if_lem s print_na_edit (is_seq1 s q) _ (ins (part s q)) (word_text_lem s Ins q)
  planned (Na.Dup p) = edit_if_lem s print_na_edit (is_seq s p) _ (dup (part s p)) (word_text_lem s Dup p)
  planned (Na.InvRef p) = edit_if_lem s print_na_edit (is_seq s p) _ (inv (part s p)) (word_text_lem s Inv p)
  planned (Na.InvNum n) = count_planned Inv Empty no_span inv_num n (digits_alone Inv)
