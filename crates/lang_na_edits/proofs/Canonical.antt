-- The tree that canon gives is one of the value, its text is best among all trees of the value, and where it gives none there is none.
use Rattle.std.specs.Prelude.{ℕ, ◌+◌, ◌<◌, ◌≡◌, refl, List, [], ◌∷◌, Bool, true, false, ◌&&◌, leb, length, get_or}
use Rattle.std.proofs.Common.{ap, arith, length-append, le-leb, leb-true}
use Rattle.std.proofs.Math.Option.{some}
use Rattle.texts.specs.Ascii.{ascii}
use Rattle.texts.specs.Best.{Best.shorter}
use Rattle.texts.proofs.Best.{best_refl, best_append, best_behind}
use Rattle.texts.proofs.Tests.{and-true, none_some, cond_some}
use Rattle.texts.specs.Runs.{every, Some}
use Rattle.texts.proofs.Runs.{every_one, one_every}
use Rattle.texts.specs.Words.{same, one_each}
use Rattle.texts.proofs.Words.{same_true, same_refl, one_each_lem}
use Rattle.numerals.specs.Digits.{val, dec}
use Rattle.numerals.proofs.Decimals.{dec_best}
use Rattle.numerals.specs.Written.{unsigned_digits}
use Rattle.numerals.proofs.Written.{unsigned_written, unsigned_found}
use Rattle.numerals.specs.declared.Sign.TheVariants.{Unsigned}
use Rattle.grammar.specs.Shapes.{Mu, Mu.certain, Mu.uncertain, WfMu}
use Rattle.grammar.specs.NucleotideEdits.{NaEditTree, NaEditTree.equal, NaEditTree.swap, NaEditTree.del_ins, NaEditTree.del_num_ins, NaEditTree.del_num, NaEditTree.del, NaEditTree.ins, NaEditTree.dup, NaEditTree.inv_num, NaEditTree.inv, print_na_edit, WfNaEdit}
use Rattle.grammar.specs.Values as Values
use Rattle.grammar.specs.Values.{NaEditV, NaEditV.ref_alt, NaEditV.num_alt, NaEditV.del_ref, NaEditV.ins_v, NaEditV.dup_v, NaEditV.inv_ref}
use Rattle.grammar.specs.Meaning.{number, meaning_na_edit}
use Rattle.grammar.specs.Numbers.{Numeral.numeral, Faultless, na_edit_numbers, mu_numbers}
use Rattle.grammar.proofs.NumberLaws.{one_fits, none_faultless, written_faultless, one_anywhere}
use Rattle.lang.specs.Canon.{Canon, Right, Covered, map_o}
use Rattle.lang.proofs.Canon.{map_some}
use Rattle.lang.proofs.MuCanon.{mu_canon}
use Rattle.lang_na_edits.specs.Alphabet.{Alphabet}
use Rattle.lang_na_edits.proofs.Choice.{if_holds}
use Rattle.lang_na_edits.proofs.Sound.{na_edit_lang}
use Rattle.lang_na_edits.proofs.Bracketing.{brackets, mu_na_edit_lang}
use Rattle.lang_na_edits.specs.Canon.{canon_ref_alt, canon_na_edit}
use Rattle.lang_na_edits.specs.Canonical.{FitsNaEdit}

-- whether an edit's number fits does not depend on where the edit stands
pub fits_anywhere : (j k : ℕ) (t : NaEditTree) → Faultless (na_edit_numbers j t) → Faultless (na_edit_numbers k t)
fits_anywhere j k (equal seq) e = none_faultless
fits_anywhere j k (swap a b) e = none_faultless
fits_anywhere j k (del_ins seq seq1) e = none_faultless
fits_anywhere j k (del_num_ins ds seq1) e = one_anywhere (j + 3) (k + 3) Unsigned ds e
fits_anywhere j k (del_num ds) e = one_anywhere (j + 3) (k + 3) Unsigned ds e
fits_anywhere j k (del seq) e = none_faultless
fits_anywhere j k (ins seq1) e = none_faultless
fits_anywhere j k (dup seq) e = none_faultless
fits_anywhere j k (inv_num ds) e = one_anywhere (j + 3) (k + 3) Unsigned ds e
fits_anywhere j k (inv seq) e = none_faultless

-- the tree of a count that fits is found with its decimal text
counted : (f : List ℕ → NaEditTree) (k : ℕ) (ds : List ℕ) → Faultless (numeral k Unsigned ds ∷ []) → map_o f (unsigned_digits (number Unsigned ds)) ≡ some (f (dec (val ds)))
counted f k ds e = ap (map_o f) (unsigned_found (val ds) (one_fits k Unsigned ds e))

module _ (na : ℕ → Bool) (al : Alphabet na) where
  abbrev RightEdit : NaEditV → NaEditTree → Type 0
  RightEdit = Right (na_edit_lang na al) meaning_na_edit FitsNaEdit

  abbrev CoveredEdit : NaEditTree → Type 0
  CoveredEdit t = Covered (na_edit_lang na al) (canon_na_edit na) (meaning_na_edit t) t

  -- ---- the tree is one of the value
  right_ref_alt : (a b : List ℕ) (t : NaEditTree) → every na a ≡ true → every na b ≡ true → canon_ref_alt a b ≡ some t → RightEdit (ref_alt a b) t
  right_ref_alt a b t ha hb e = go (same a b) (one_each a b) (leb 1 (length b)) refl refl refl
    where
      go : (x y z : Bool) → same a b ≡ x → one_each a b ≡ y → leb 1 (length b) ≡ z → RightEdit (ref_alt a b) t
      go true y z p q r =
          let h : some (equal a) ≡ some t = rw p at e in
          let i : equal a ≡ t = cc in
          let j = same_true a b p in
          rw (← i) (record { wf = ha; fits = none_faultless; means = cc })
      go false true z p q r =
          let h : some (swap (get_or a 0 0) (get_or b 0 0)) ≡ some t = rw (p, q) at e in
          let i : swap (get_or a 0 0) (get_or b 0 0) ≡ t = cc in
          let ja = (one_each_lem a b q).0 in
          let jb = (one_each_lem a b q).1 in
          rw (← i) (record { wf = (every_one na _ (rw ja at ha), every_one na _ (rw jb at hb)); fits = none_faultless; means = cc })
      go false false true p q r =
          let h : some (del_ins a b) ≡ some t = rw (p, q, r) at e in
          let i : del_ins a b ≡ t = cc in
          rw (← i) (record { wf = (ha, record { some = leb-true _ _ r; all = hb }); fits = none_faultless; means = refl })
      go false false false p q r = absurd (none_some (rw (p, q, r) at e))

  -- one or more letters
  some_letters : (b : List ℕ) → every na b && leb 1 (length b) ≡ true → Some na b
  some_letters b e = let h = and-true (every na b) (leb 1 (length b)) e in record { some = leb-true _ _ h.1; all = h.0 }

  pub letters_some : (b : List ℕ) → Some na b → every na b && leb 1 (length b) ≡ true
  letters_some b w = rw w.all (le-leb 1 (length b) w.some)

  pub right : (v : NaEditV) (t : NaEditTree) → canon_na_edit na v ≡ some t → RightEdit v t
  right (ref_alt a b) t e =
      let h = cond_some (every na a && every na b) (canon_ref_alt a b) t e in
      let w = and-true (every na a) (every na b) h.0 in
      right_ref_alt a b t w.0 w.1 h.1
  right (num_alt n b) t e =
      let h = cond_some (every na b && leb 1 (length b)) (map_o (λ ds. del_num_ins ds b) (unsigned_digits n)) t e in
      let m = map_some (λ ds. del_num_ins ds b) (unsigned_digits n) t h.1 in
      let w = unsigned_written n m.0 m.1.0 in
      rw (← m.1.1) (record { wf = (w.digits, some_letters b h.0); fits = written_faultless 3 w; means = rw w.value })
  right (del_ref a) t e = if_holds (RightEdit (del_ref a)) (every na a) (del a) t e (λ h. record { wf = h; fits = none_faultless; means = refl })
  right (Values.NaEditV.del_num n) t e =
      let m = map_some del_num (unsigned_digits n) t e in
      let w = unsigned_written n m.0 m.1.0 in
      rw (← m.1.1) (record { wf = w.digits; fits = written_faultless 3 w; means = rw w.value })
  right (ins_v b) t e = if_holds (RightEdit (ins_v b)) (every na b && leb 1 (length b)) (ins b) t e (λ h. record { wf = some_letters b h; fits = none_faultless; means = refl })
  right (dup_v a) t e = if_holds (RightEdit (dup_v a)) (every na a) (dup a) t e (λ h. record { wf = h; fits = none_faultless; means = refl })
  right (inv_ref a) t e = if_holds (RightEdit (inv_ref a)) (every na a) (inv a) t e (λ h. record { wf = h; fits = none_faultless; means = refl })
  right (Values.NaEditV.inv_num n) t e =
      let m = map_some inv_num (unsigned_digits n) t e in
      let w = unsigned_written n m.0 m.1.0 in
      rw (← m.1.1) (record { wf = w.digits; fits = written_faultless 3 w; means = rw w.value })

  -- ---- and no tree of the value has a better text
  covers_del_ins : (a b : List ℕ) → every na a ≡ true → Some na b → CoveredEdit (del_ins a b)
  covers_del_ins a b ha hb = go (same a b) (one_each a b) refl refl
    where
      go : (x y : Bool) → same a b ≡ x → one_each a b ≡ y → CoveredEdit (del_ins a b)
      go true y p q =
          let l : length (print_na_edit (equal a)) < length (print_na_edit (del_ins a b)) = simp length-append (omega arith) in
          record { tree = equal a; found = rw (ha, hb.all, p); best = shorter l }
      go false true p q =
          let l : 3 < length (print_na_edit (del_ins a b)) = simp length-append (omega (arith, hb.some)) in
          let m : length (print_na_edit (swap (get_or a 0 0) (get_or b 0 0))) < length (print_na_edit (del_ins a b)) = l in
          record { tree = swap (get_or a 0 0) (get_or b 0 0); found = rw (ha, hb.all, p, q); best = shorter m }
      go false false p q = record { tree = del_ins a b; found = rw (ha, hb.all, p, q, le-leb 1 (length b) hb.some); best = best_refl }

  covers_swap : (x y : ℕ) → na x ≡ true → na y ≡ true → CoveredEdit (swap x y)
  covers_swap x y hx hy = go (same (x ∷ []) (y ∷ [])) refl
    where
      go : (t : Bool) → same (x ∷ []) (y ∷ []) ≡ t → CoveredEdit (swap x y)
      go true p =
          let l : length (print_na_edit (equal (x ∷ []))) < length (print_na_edit (swap x y)) = omega arith in
          record { tree = equal (x ∷ []); found = rw (one_every na x hx, one_every na y hy, p); best = shorter l }
      go false p = record { tree = swap x y; found = rw (one_every na x hx, one_every na y hy, p); best = best_refl }

  pub covers : (u : NaEditTree) → WfNaEdit na u → FitsNaEdit u → CoveredEdit u
  covers (equal seq) w f = record { tree = equal seq; found = rw (w, same_refl seq); best = best_refl }
  covers (swap a b) w f = covers_swap a b w.0 w.1
  covers (del_ins seq seq1) w f = covers_del_ins seq seq1 w.0 w.1
  covers (del_num_ins ds seq1) w f = record {
    tree = del_num_ins (dec (val ds)) seq1;
    found = rw (letters_some seq1 w.1) (counted (λ ds. del_num_ins ds seq1) 3 ds f);
    best = best_behind (ascii "del") (best_append (dec_best w.0 refl) best_refl);
  }
  covers (del_num ds) w f = record { tree = del_num (dec (val ds)); found = counted del_num 3 ds f; best = best_behind (ascii "del") (dec_best w refl) }
  covers (del seq) w f = record { tree = del seq; found = rw w; best = best_refl }
  covers (ins seq1) w f = record { tree = ins seq1; found = rw (letters_some seq1 w); best = best_refl }
  covers (dup seq) w f = record { tree = dup seq; found = rw w; best = best_refl }
  covers (inv_num ds) w f = record { tree = inv_num (dec (val ds)); found = counted inv_num 3 ds f; best = best_behind (ascii "inv") (dec_best w refl) }
  covers (inv seq) w f = record { tree = inv seq; found = rw w; best = best_refl }

  abbrev pub na_edit_canon : Canon (na_edit_lang na al)
  na_edit_canon = record { Value = NaEditV; meaning = meaning_na_edit; Fits = FitsNaEdit; canon = canon_na_edit na; right = right; covers = covers }

  -- ---- in brackets or not
  abbrev pub mu_na_edit_canon : Canon (mu_na_edit_lang na al)
  mu_na_edit_canon = mu_canon (na_edit_lang na al) (brackets na al) na_edit_canon

-- its fit is that of its numbers, wherever it stands
pub mu_fits : (k : ℕ) (t : Mu NaEditTree) → WfMu FitsNaEdit t → Faultless (mu_numbers na_edit_numbers k t)
mu_fits k (certain e) f = fits_anywhere 0 k e f
mu_fits k (uncertain e) f = fits_anywhere 0 (k + 1) e f

pub fits_mu : (k : ℕ) (t : Mu NaEditTree) → Faultless (mu_numbers na_edit_numbers k t) → WfMu FitsNaEdit t
fits_mu k (certain e) f = fits_anywhere k 0 e f
fits_mu k (uncertain e) f = fits_anywhere (k + 1) 0 e f
