-- The text of planned pieces is that of the edit's canonical tree.
use Rattle.std.specs.Prelude.{ℕ, ◌≡◌, refl, Bool, true, false, cond, ◌&&◌, ℤ, nat_abs, None, Some}
use Prim.Native.Char.{code}
use Rattle.std.proofs.Common.{sym, ap, ◌∙◌}
use mathlib.Core.List.{List, [], ◌++◌, append-nil}
use Rattle.std.proofs.Math.Option.{Option, none, some}
use Rattle.texts.specs.Ascii.{ascii}
use Rattle.numerals.specs.Digits.{dec}
use Rattle.numerals.specs.Written.{unsigned_digits, negated_digits}
use Rattle.residue.specs.Residues.{is_residues}
use Rattle.record.specs.declared.Span.{Span}
use Rattle.record.specs.Named.{Part}
use Rattle.record.specs.declared.UncertainLengthChange.{UncertainLengthChange}
use Rattle.record.specs.declared.UncertainLengthChange.TheVariants.{None as NoLength, Unknown, Known}
use Rattle.record.specs.declared.ProteinEdit.{ProteinEdit}
use Rattle.record.specs.declared.ProteinEdit.TheVariants as Pr
use Rattle.grammar.specs.Spans.{part, optional_part}
use Rattle.grammar.specs.Contents.{protein_edit_content}
use Rattle.grammar.specs.Optional.{print_optional}
use Rattle.grammar.specs.ProteinEdits.{Terminal, Length, Length.counted, Length.unknown, Length.unsaid, Stop.stop, ExtEnd, ExtEnd.nothing, ExtEnd.later, ExtEnd.earlier, ProteinEditTree.equal, ProteinEditTree.del, ProteinEditTree.dup, ProteinEditTree.ins, ProteinEditTree.del_ins, ProteinEditTree.fs, ProteinEditTree.ext, print_terminal, print_length, print_stop, print_fs_end, print_ext_end, print_protein_edit}
use Rattle.grammar.specs.Values.{ProteinEditV.subst_v}
use Rattle.lang.specs.Choice.{or_next}
use Rattle.lang.specs.Canon.{map_o, both_o}
use Rattle.lang_protein_edits.specs.Canon.{canon_length, canon_stop, canon_fs_end, canon_earlier, canon_ext_end, canon_protein_edit}
use Rattle.emit_word.specs.declared.Word.{Word}
use Rattle.emit_word.specs.declared.Word.TheVariants.{Empty, Del, Ins, DelIns, Dup, Fs, Ext, Equal}
use Rattle.emit_piece.specs.Named.{OneByte}
use Rattle.emit_edit.specs.declared.EditPieces.{EditPieces}
use Rattle.emit_word.specs.Words.{word_text}
use Rattle.emit_piece.specs.Texts.{no_span, byte_text, amount_text}
use Rattle.emit_edit.specs.Texts.{edit_text}
use Rattle.emit_piece.specs.PartLengths.{no_part}
use Rattle.plan_edits.specs.EditPlans.{plan_text, edit_if, letters_edit, is_unsigned}
use Rattle.plan_edits.specs.PlanTexts.{letters_text, word_text_lem, word_alone_lem, either, pieces_text, edit_if_lem, unsigned_digits_lem}
use Rattle.plan_protein_tests.specs.Tests.{is_negated, is_terminal, is_optional_part, is_subst}
use Rattle.plan_protein_tests.specs.Found.{Found, Found.yes, Found.no, found_if, found_map, terminal_found, itself, negated_found, subst_found}
use Rattle.plan_protein_ends.specs.EndPlans.{span_of, amount_of, joint_of, end_pieces, is_length, is_stop, is_earlier, plan_fs, plan_ext}
use Rattle.plan_protein_edit.specs.Plan.{plan_subst, plan_protein_edit}

map_next : {A B : Type 0} (f : A → B) (o u : Option A) → map_o f (or_next o u) ≡ or_next (map_o f o) (map_o f u)
map_next f none u = refl
map_next f (some a) u = refl

-- ---- lengths and stops
unsigned_found : (z : ℤ) → Found itself (dec (nat_abs z)) (is_unsigned z) (unsigned_digits z)
unsigned_found z = rw (unsigned_digits_lem z) (found_if itself (is_unsigned z) (dec (nat_abs z)))

abbrev length_text : UncertainLengthChange → List ℕ
length_text n = amount_text (amount_of n) ++ word_text (joint_of n)

length_found : (n : UncertainLengthChange) → Found print_length (length_text n) (is_length n) (canon_length n)
length_found NoLength = yes unsaid refl
length_found Unknown = yes unknown refl
length_found (Known z) = rw (append-nil (dec (nat_abs z))) (found_map itself print_length counted itself (λ ds. refl) (unsigned_found z))

both_found : {w l : List ℕ} {b c : Bool} {o : Option Terminal} {u : Option Length} → Found print_terminal w b o → Found print_length l c u → Found print_stop (w ++ l) (b && c) (both_o stop o u)
both_found (yes t e) (yes n f) = yes (stop t n) cc
both_found (yes t e) no = no
both_found no f = no

stop_found : (w : List ℕ) (n : UncertainLengthChange) → Found print_stop (w ++ length_text n) (is_terminal w && is_length n) (canon_stop w n)
stop_found w n = both_found (terminal_found w) (length_found n)

-- the end of `ext` without `-`
abbrev later_end : Option (List ℕ) → UncertainLengthChange → Option ExtEnd
later_end none NoLength = some nothing
later_end none Unknown = none
later_end none (Known z) = none
later_end (some w) n = map_o later (canon_stop w n)

ext_end : (q : Option (List ℕ)) (n : UncertainLengthChange) → canon_ext_end q n ≡ or_next (later_end q n) (canon_earlier q n)
ext_end none NoLength = refl
ext_end none Unknown = refl
ext_end none (Known z) = refl
ext_end (some w) n = refl

module _ (s : List ℕ) where
  -- ---- the ends of `fs` and `ext`
  fs_found : (t : Part) (n : UncertainLengthChange) → Found print_fs_end (part s (span_of t) ++ length_text n) (is_stop s t n) (canon_fs_end (optional_part s t) n)
  fs_found None NoLength = yes none (rw (no_part s))
  fs_found None Unknown = no
  fs_found None (Known z) = no
  fs_found (Some p) n = found_map print_stop print_fs_end some itself (λ e. refl) (stop_found (part s p) n)

  later_found : (t : Part) (n : UncertainLengthChange) → Found print_ext_end (part s (span_of t) ++ length_text n) (is_stop s t n) (later_end (optional_part s t) n)
  later_found None NoLength = yes nothing (rw (no_part s))
  later_found None Unknown = no
  later_found None (Known z) = no
  later_found (Some p) n = found_map print_stop print_ext_end later itself (λ e. refl) (stop_found (part s p) n)

  optional_text : (r : Part) → print_optional [] (optional_part s r) ≡ part s (span_of r)
  optional_text None = rw (no_part s)
  optional_text (Some p) = refl

  earlier_found : (t : Part) (n : UncertainLengthChange) → Found print_ext_end (part s (span_of t) ++ (ascii "-" ++ length_text n)) (is_earlier s t n) (canon_earlier (optional_part s t) n)
  earlier_found t NoLength = no
  earlier_found t Unknown = no
  earlier_found t (Known z) = go (is_optional_part s t) refl
    where
      digits : Found print_ext_end (part s (span_of t) ++ (ascii "-" ++ length_text (Known z))) (is_negated z) (map_o (earlier (optional_part s t)) (negated_digits z))
      digits =
          rw (append-nil (dec (nat_abs z)), ← optional_text t)
          (found_map itself print_ext_end (earlier (optional_part s t)) (λ ds. print_optional [] (optional_part s t) ++ (ascii "-" ++ ds)) (λ ds. refl) (negated_found z))

      go : (b : Bool) → is_optional_part s t ≡ b → Found print_ext_end (part s (span_of t) ++ (ascii "-" ++ length_text (Known z))) (is_earlier s t (Known z)) (canon_earlier (optional_part s t) (Known z))
      go true e = rw e digits
      go false e = rw e no

  -- ---- pieces and plans
  end_text : (r : Part) (word : Word) (t : Part) (sign : OneByte) (n : UncertainLengthChange)
      → edit_text s (end_pieces r word t sign n) ≡ print_optional [] (optional_part s r) ++ (word_text word ++ (part s (span_of t) ++ (byte_text sign ++ length_text n)))
  unfolding edit_text
  end_text r word t sign n = rw (no_part s, append-nil (word_text (joint_of n)), optional_text r)

  module _ {A : Type 0} (print : A → List ℕ) where
    found_pieces : {text : List ℕ} {b : Bool} {o : Option A} (pieces : EditPieces) → edit_text s pieces ≡ text → Found print text b o → plan_text s (edit_if b pieces) ≡ map_o print o
    found_pieces pieces e (yes a f) = ap some (e ∙ sym f)
    found_pieces pieces e no = refl

    next_pieces : {x y : List ℕ} {b c : Bool} {o u : Option A} (first second : EditPieces) → edit_text s first ≡ x → edit_text s second ≡ y → Found print x b o → Found print y c u → plan_text s (cond b (Some first) (edit_if c second)) ≡ map_o print (or_next o u)
    next_pieces first second e f (yes a g) h = ap some (e ∙ sym g)
    next_pieces first second e f no h = found_pieces second f h

  fs_planned : (r t : Part) (n : UncertainLengthChange) → plan_text s (plan_fs s r t n) ≡ map_o print_protein_edit (canon_protein_edit (protein_edit_content s (Pr.Fs r t n)))
  unfolding plan_fs
  fs_planned r t n =
      either s print_protein_edit (is_optional_part s r) _ _ _ _
      (λ h. found_pieces print_protein_edit (end_pieces r Fs t None n) (end_text r Fs t None n)
      (found_map print_fs_end print_protein_edit (fs (optional_part s r)) (λ e. print_optional [] (optional_part s r) ++ (ascii "fs" ++ e)) (λ e. refl) (fs_found t n)))
      (λ h. refl)

  ext_planned : (r t : Part) (n : UncertainLengthChange) → plan_text s (plan_ext s r t n) ≡ map_o print_protein_edit (canon_protein_edit (protein_edit_content s (Pr.Ext r t n)))
  unfolding plan_ext
  ext_planned r t n =
      rw (ext_end (optional_part s t) n, map_next (ext (optional_part s r)) (later_end (optional_part s t) n) (canon_earlier (optional_part s t) n))
      (either s print_protein_edit (is_optional_part s r) _ _ _ _
      (λ h. next_pieces print_protein_edit (end_pieces r Ext t None n) (end_pieces r Ext t (Some (code "-")) n) (end_text r Ext t None n) (end_text r Ext t (Some (code "-")) n) (behind (later_found t n)) (behind (earlier_found t n)))
      (λ h. refl))
    where
      behind : {text : List ℕ} {b : Bool} {o : Option ExtEnd} → Found print_ext_end text b o → Found print_protein_edit (print_optional [] (optional_part s r) ++ (ascii "ext" ++ text)) b (map_o (ext (optional_part s r)) o)
      behind = found_map print_ext_end print_protein_edit (ext (optional_part s r)) (λ e. print_optional [] (optional_part s r) ++ (ascii "ext" ++ e)) (λ e. refl)

  subst_planned : (p : Span) → plan_text s (plan_subst s p) ≡ map_o print_protein_edit (canon_protein_edit (subst_v (part s p)))
  unfolding is_subst
  subst_planned p =
      found_pieces print_protein_edit (letters_edit p Empty no_span) (letters_text s p Empty no_span ∙ rw (no_part s, append-nil (part s p))) (subst_found (part s p))

  pub planned : (e : ProteinEdit) → plan_text s (plan_protein_edit s e) ≡ map_o print_protein_edit (canon_protein_edit (protein_edit_content s e))
  planned (Pr.Fs r t n) = fs_planned r t n
  planned (Pr.Ext r t n) = ext_planned r t n
  planned (Pr.Subst p) = subst_planned p
  planned (Pr.DelIns p) = edit_if_lem s print_protein_edit (is_residues (part s p)) _ (del_ins (part s p)) (word_text_lem s DelIns p)
  planned (Pr.Ins p) = edit_if_lem s print_protein_edit (is_residues (part s p)) _ (ins (part s p)) (word_text_lem s Ins p)
  planned Pr.Del = pieces_text s print_protein_edit _ del (word_alone_lem s Del)
  planned Pr.Dup = pieces_text s print_protein_edit _ dup (word_alone_lem s Dup)
  planned Pr.Ident = pieces_text s print_protein_edit _ equal (word_alone_lem s Equal)
