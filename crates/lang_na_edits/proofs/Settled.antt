-- Edits that are written as they stand: with a plainly spelled number that fits, each is the one that canon gives for its value.
use Rattle.std.specs.Prelude.{ℕ, ◌+◌, ◌≡◌, List, [], ◌∷◌, Bool, true, false, not, eqb, length}
use Rattle.std.proofs.Common.{sym, ap, ◌∙◌, le-leb, eq-eqb, eqb-true}
use Rattle.std.proofs.Math.Option.{some}
use Rattle.std.proofs.lemmas.Bool.{not-true}
use Rattle.texts.proofs.Tests.{clash, never, and-true}
use Rattle.texts.proofs.Runs.{one_every}
use Rattle.texts.specs.Words.{same, one_each}
use Rattle.texts.proofs.Words.{same_true, same_refl}
use Rattle.numerals.specs.declared.Sign.TheVariants.{Unsigned}
use Rattle.numerals.specs.Written.{unsigned_digits}
use Rattle.numerals.proofs.Plain.{unsigned_plain}
use Rattle.grammar.specs.Positions.{Digits}
use Rattle.grammar.specs.Shapes.{Mu, Mu.certain, Mu.uncertain, WfMu}
use Rattle.grammar.specs.NucleotideEdits.{NaEditTree, NaEditTree.equal, NaEditTree.swap, NaEditTree.del_ins, NaEditTree.del_num_ins, NaEditTree.del_num, NaEditTree.del, NaEditTree.ins, NaEditTree.dup, NaEditTree.inv_num, NaEditTree.inv, WfNaEdit}
use Rattle.grammar.specs.Meaning.{number, map_mu, meaning_na_edit}
use Rattle.grammar.specs.Numbers.{Numeral.numeral, Faultless, na_edit_numbers, mu_numbers}
use Rattle.grammar.specs.NumberLaws.{all_plain}
use Rattle.grammar.proofs.NumberLaws.{one_fits, one_plain}
use Rattle.lang.specs.MuCanon.{settled_mu}
use Rattle.lang_na_edits.specs.Alphabet.{Alphabet}
use Rattle.lang_na_edits.specs.Canon.{canon_na_edit}
use Rattle.lang_na_edits.proofs.Canonical.{letters_some, mu_na_edit_canon}
use Rattle.lang_na_edits.specs.Settled.{settled_na_edit}

-- a count
counted : (k : ℕ) (ds : List ℕ) → Digits ds → Faultless (numeral k Unsigned ds ∷ []) → all_plain (numeral k Unsigned ds ∷ []) ≡ true → unsigned_digits (number Unsigned ds) ≡ some ds
counted k ds d f p = unsigned_plain ds d (one_fits k Unsigned ds f) (one_plain k Unsigned ds p)

letters_differ : (x y : ℕ) → not (eqb x y) ≡ true → same (x ∷ []) (y ∷ []) ≡ false
unfolding same
letters_differ x y e = rw (not-true (eqb x y) e)

-- sequences of different lengths
module _ (a b : List ℕ) (e : not (eqb (length a) (length b)) ≡ true) where
  lengths_differ : length a ≡ length b → ⊥
  lengths_differ l = clash (eq-eqb (length a) (length b) l) (not-true (eqb (length a) (length b)) e)

  not_same : same a b ≡ false
  not_same = never (same a b) (λ h. lengths_differ (ap length (same_true a b h)))

  not_one_each : one_each a b ≡ false
  not_one_each = never (one_each a b) (λ h.
      let o = and-true (eqb (length a) 1) (eqb (length b) 1) h in
      lengths_differ (eqb-true (length a) 1 o.0 ∙ sym (eqb-true (length b) 1 o.1)))

module _ (na : ℕ → Bool) (al : Alphabet na) where
  settled_edit : (k : ℕ) (t : NaEditTree) → WfNaEdit na t → Faultless (na_edit_numbers k t) → all_plain (na_edit_numbers k t) ≡ true → settled_na_edit t ≡ true → canon_na_edit na (meaning_na_edit t) ≡ some t
  settled_edit k (equal seq) w f p e = rw (w, same_refl seq)
  settled_edit k (swap a b) w f p e = rw (one_every na a w.0, one_every na b w.1, letters_differ a b e)
  settled_edit k (del_ins seq seq1) w f p e = rw (w.0, w.1.all, not_same seq seq1 e, not_one_each seq seq1 e, le-leb 1 (length seq1) w.1.some)
  settled_edit k (del_num_ins ds seq1) w f p e = rw (letters_some na al seq1 w.1, counted (k + 3) ds w.0 f p)
  settled_edit k (del_num ds) w f p e = rw (counted (k + 3) ds w f p)
  settled_edit k (del seq) w f p e = rw w
  settled_edit k (ins seq1) w f p e = rw (letters_some na al seq1 w)
  settled_edit k (dup seq) w f p e = rw w
  settled_edit k (inv_num ds) w f p e = rw (counted (k + 3) ds w f p)
  settled_edit k (inv seq) w f p e = rw w

  pub settled_na_edit_lem : (k : ℕ) (t : Mu NaEditTree) → WfMu (WfNaEdit na) t → Faultless (mu_numbers na_edit_numbers k t) → all_plain (mu_numbers na_edit_numbers k t) ≡ true → settled_mu settled_na_edit t ≡ true
      → (mu_na_edit_canon na al).canon (map_mu meaning_na_edit t) ≡ some t
  settled_na_edit_lem k (certain t) w f p e = rw (settled_edit k t w f p e)
  settled_na_edit_lem k (uncertain t) w f p e = rw (settled_edit (k + 1) t w f p e)
