-- The tests against the canonical trees of what they test.
use Rattle.std.specs.Prelude.{ℕ, zero, suc, ◌≡◌, refl, List, Bool, true, false, cond, ◌||◌, ℤ, pos, negsuc, nat_abs}
use Rattle.std.proofs.Common.{sym, ap, ◌∙◌}
use Rattle.std.proofs.Math.Option.{Option, none, some}
use Rattle.texts.specs.Ascii.{ascii}
use Rattle.texts.specs.Words.{same}
use Rattle.texts.proofs.Words.{same_true}
use Rattle.numerals.specs.Digits.{dec}
use Rattle.numerals.specs.Written.{negated_digits}
use Rattle.residue.specs.Residues.{is_residue}
use Rattle.grammar.specs.ProteinEdits.{Terminal.ter, Terminal.x, Terminal.star, ProteinEditTree.subst, ProteinEditTree.subst_unknown, print_terminal, print_protein_edit}
use Rattle.grammar.specs.Values.{ProteinEditV.subst_v}
use Rattle.lang.specs.Canon.{map_o}
use Rattle.lang_protein_edits.specs.Canon.{canon_terminal, canon_protein_edit}
use Rattle.plan_protein_tests.specs.Tests.{is_negated, is_terminal}

-- where a test holds, a tree is found that prints as the text; else none
pub data Found {A : Type 0} (print : A → List ℕ) (text : List ℕ) : Bool → Option A → Type 0 where
  yes : (a : A) → print a ≡ text → Found print text true (some a)
  no : Found print text false none

pub found_if : {A : Type 0} (print : A → List ℕ) (b : Bool) (a : A) → Found print (print a) b (cond b (some a) none)
found_if print true a = yes a refl
found_if print false a = no

-- a larger tree, whose text has that of its part in it
module _ {A B : Type 0} (inner : A → List ℕ) (outer : B → List ℕ) (make : A → B) (around : List ℕ → List ℕ) (h : (a : A) → outer (make a) ≡ around (inner a)) where
  pub found_map : {text : List ℕ} {b : Bool} {o : Option A} → Found inner text b o → Found outer (around text) b (map_o make o)
  found_map (yes a e) = yes (make a) (h a ∙ ap around e)
  found_map no = no

pub terminal_found : (w : List ℕ) → Found print_terminal w (is_terminal w) (canon_terminal w)
unfolding is_terminal canon_terminal
terminal_found w = go (same w (ascii "Ter")) (same w (ascii "X")) (same w (ascii "*")) refl refl refl
  where
    go : (a b c : Bool) → same w (ascii "Ter") ≡ a → same w (ascii "X") ≡ b → same w (ascii "*") ≡ c → Found print_terminal w (is_terminal w) (canon_terminal w)
    go true b c e f g = rw (e, is_terminal, canon_terminal) (yes ter (sym (same_true w (ascii "Ter") e)))
    go false true c e f g = rw (e, f, is_terminal, canon_terminal) (yes x (sym (same_true w (ascii "X") f)))
    go false false true e f g = rw (e, f, g, is_terminal, canon_terminal) (yes star (sym (same_true w (ascii "*") g)))
    go false false false e f g = rw (e, f, g, is_terminal, canon_terminal) no

abbrev pub itself : List ℕ → List ℕ
itself t = t

pub negated_found : (z : ℤ) → Found itself (dec (nat_abs z)) (is_negated z) (negated_digits z)
negated_found (pos zero) = yes (dec 0) refl
negated_found (pos (suc v)) = no
negated_found (negsuc v) = found_if itself (is_negated (negsuc v)) (dec (suc v))

pub subst_found : (a : List ℕ) → Found print_protein_edit a (is_residue a || same a (ascii "?")) (canon_protein_edit (subst_v a))
subst_found a = go (is_residue a) (same a (ascii "?")) refl refl
  where
    go : (b c : Bool) → is_residue a ≡ b → same a (ascii "?") ≡ c → Found print_protein_edit a (is_residue a || same a (ascii "?")) (canon_protein_edit (subst_v a))
    go true c e f = rw e (yes (subst a) refl)
    go false true e f = rw (e, f) (yes subst_unknown (sym (same_true a (ascii "?") f)))
    go false false e f = rw (e, f) no
