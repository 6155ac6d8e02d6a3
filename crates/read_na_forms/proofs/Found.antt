-- The answer for a tree, from what was counted.
use Prim.Native.Nat.{ℕ, ◌+◌}
use mathlib.Core.Path.{◌≡◌, refl, ap, ◌∙◌}
use mathlib.Core.List.{List, [], ◌∷◌, ◌++◌}
use mathlib.Core.Option.{some}
use mathlib.Core.Bool.{true, not}
use native.Mathlib.Omega.{arith}
use mir.Syntax.{w32}
use mir.Val.{to_z, of_z}
use lib.Dec.{eqb}
use lib.IntN.{ℤ}
use lib.ListN.{length, length-append}
use Rattle.texts.specs.Runs.{front}
use Rattle.alphabet.specs.Letters.{digit}
use Rattle.numerals.specs.Reading.{number_at}
use Rattle.numerals.specs.declared.Number.{Number}
use Rattle.numerals.specs.declared.Sign.TheVariants.{Unsigned}
use Rattle.record.specs.declared.Span.{Span}
use Rattle.record.specs.declared.NaEdit as D
use Rattle.record.specs.declared.NaEdit.TheVariants.{RefAlt, NumAlt}
use Rattle.grammar.specs.NucleotideEdits.{NaEditTree, NaEditTree.equal, NaEditTree.swap, NaEditTree.del_ins, NaEditTree.del_num_ins, print_na_edit}
use Rattle.grammar.specs.Meaning.{number}
use Rattle.grammar.specs.Records.{span, span_of, na_edit_at}
use Rattle.grammar.specs.Numbers.{Numeral.numeral, na_edit_numbers}
use Rattle.read_scan.specs.Faults.{faults, none, of_number, settled_if, settled_none}
use Rattle.read_scan.specs.Reading.{number_len, number_value, number_faults}
use Rattle.read_scan.specs.declared.Faults.{Faults}
use Rattle.lang_na_edits.specs.Settled.{settled_na_edit}
use Rattle.std.specs.Prelude.{Some}
use Rattle.read_scan.specs.Accounts.{answered, found, plain}
use Rattle.read_na_forms.specs.NaEditAnswers.{na_edit_answer}

module _ (k : ℕ) (t : NaEditTree) (r : D.NaEdit) (n : ℕ) (f : Faults) (er : r ≡ na_edit_at k t) (en : n ≡ length (print_na_edit t)) where
  found_with : f ≡ faults (na_edit_numbers k t) (settled_na_edit t) → found r n f ≡ na_edit_answer k (some t)
  unfolding answered
  found_with ef = rw (er, en, ef)

  -- a tree without numbers
  found_if : na_edit_numbers k t ≡ [] → f ≡ settled_if (settled_na_edit t) none → found r n f ≡ na_edit_answer k (some t)
  found_if e ef = found_with (rw e (ef ∙ settled_none (settled_na_edit t)))

module _ (k : ℕ) where
  found_plain : (t : NaEditTree) (r : D.NaEdit) (n : ℕ) → r ≡ na_edit_at k t → n ≡ length (print_na_edit t) → na_edit_numbers k t ≡ [] → settled_na_edit t ≡ true → Some (plain r n) ≡ na_edit_answer k (some t)
  found_plain t r n er en e es = found_if k t r n none er en e (rw es refl)

  pub found_equal : (m : ℕ) (a : List ℕ) (p : Span) → m ≡ length a → p ≡ span k m → Some (plain (RefAlt p p) (m + 1)) ≡ na_edit_answer k (some (equal a))
  found_equal m a p em ep =
      let h : p ≡ span_of k a = ep ∙ ap (span k) em in
      found_plain (equal a) (RefAlt p p) (m + 1) (rw h) (rw length-append (omega arith)) refl refl

  -- m letters a behind a word of three letters, and their span p
  pub found_word : (m : ℕ) (a : List ℕ) (p : Span) → m ≡ length a → p ≡ span (k + 3) m → (made : Span → D.NaEdit) (t : NaEditTree) (w : List ℕ) → length w ≡ 3 → print_na_edit t ≡ w ++ a → na_edit_at k t ≡ made (span_of (k + 3) a) → na_edit_numbers k t ≡ [] → settled_na_edit t ≡ true → Some (plain (made p) (3 + m)) ≡ na_edit_answer k (some t)
  found_word m a p em ep made t w l et er en es =
      let h : p ≡ span_of (k + 3) a = ep ∙ ap (span (k + 3)) em in
      found_plain t (made p) (3 + m) (rw (h, er)) (rw (et, length-append, l, em)) en es

  -- ---- settled where the two sides differ
  module _ (f : Faults) where
    pub found_swap : (x y : ℕ) (p q : Span) → p ≡ span k 1 → q ≡ span (k + 2) 1 → f ≡ settled_if (not (eqb x y)) none → found (RefAlt p q) 3 f ≡ na_edit_answer k (some (swap x y))
    found_swap x y p q ep eq ef = found_if k (swap x y) (RefAlt p q) 3 f (rw (ep, eq)) refl refl ef

    pub found_del_ins : (m : ℕ) (a : List ℕ) (p : Span) → m ≡ length a → p ≡ span (k + 3) m → (n : ℕ) (b : List ℕ) (q : Span) → n ≡ length b → q ≡ span (k + 3 + m + 3) n → f ≡ settled_if (not (eqb m n)) none → found (RefAlt p q) (3 + m + 3 + n) f ≡ na_edit_answer k (some (del_ins a b))
    found_del_ins m a p em ep n b q en eq ef =
        let h : p ≡ span_of (k + 3) a = ep ∙ ap (span (k + 3)) em in
        let i : q ≡ span_of (k + 3 + length a + 3) b = rw (eq, em, en) in
        let l : 3 + m + 3 + n ≡ length (print_na_edit (del_ins a b)) = simp length-append (omega arith) in
        found_if k (del_ins a b) (RefAlt p q) (3 + m + 3 + n) f (rw (h, i)) l refl (ef ∙ rw (em, en))

-- ---- the number n that stands at the front of s, behind a word of three letters
module _ (s : List ℕ) (n : Number) (e : n ≡ number_at Unsigned s) (k : ℕ) (f : Faults) (ef : f ≡ of_number n.fits n.plain (k + 3)) where
  faults_are : f ≡ faults (numeral (k + 3) Unsigned (front digit s) ∷ []) true
  faults_are = ef ∙ number_faults Unsigned s n e (k + 3)

  pub found_number : (made : ℤ → D.NaEdit) (t : NaEditTree) (w : List ℕ) → length w ≡ 3 → print_na_edit t ≡ w ++ front digit s → na_edit_at k t ≡ made (number Unsigned (front digit s)) → na_edit_numbers k t ≡ numeral (k + 3) Unsigned (front digit s) ∷ [] → settled_na_edit t ≡ true → found (made (to_z w32 (of_z w32 n.value))) (3 + n.len) f ≡ na_edit_answer k (some t)
  found_number made t w l et er en es =
      found_with k t (made (to_z w32 (of_z w32 n.value))) (3 + n.len) f (rw (number_value Unsigned s n e, er)) (rw (et, length-append, l, number_len Unsigned s n e)) (rw (en, es) faults_are)

  pub found_num_ins : (m : ℕ) (b : List ℕ) (q : Span) → m ≡ length b → q ≡ span (k + 3 + n.len + 3) m → found (NumAlt (to_z w32 (of_z w32 n.value)) q) (3 + n.len + 3 + m) f ≡ na_edit_answer k (some (del_num_ins (front digit s) b))
  found_num_ins m b q em eq =
      let h : q ≡ span_of (k + 3 + length (front digit s) + 3) b = rw (eq, number_len Unsigned s n e, em) in
      let l : 3 + n.len + 3 + m ≡ length (print_na_edit (del_num_ins (front digit s) b)) = simp length-append (omega (arith, number_len Unsigned s n e)) in
      found_with k (del_num_ins (front digit s) b) (NumAlt (to_z w32 (of_z w32 n.value)) q) (3 + n.len + 3 + m) f (rw (number_value Unsigned s n e, h)) l faults_are
