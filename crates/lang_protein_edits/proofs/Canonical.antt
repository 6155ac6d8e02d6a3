-- The tree that canon gives is one of the value, its text is best among all trees of the value, and where it gives none there is none.
use Rattle.std.specs.Prelude.{ℕ, ◌+◌, ◌≡◌, refl, List, [], Bool, true, false, cond, length}
use Rattle.std.proofs.Common.{sym, ap, ◌∙◌}
use Rattle.std.proofs.Math.Option.{Option, none, some}
use Rattle.texts.specs.Ascii.{ascii}
use Rattle.texts.proofs.Best.{best_refl, best_behind}
use Rattle.texts.proofs.Tests.{cond_some}
use Rattle.texts.specs.Words.{same}
use Rattle.texts.proofs.Words.{same_true}
use Rattle.numerals.specs.Reading.{fits}
use Rattle.numerals.specs.declared.Sign.TheVariants.{Unsigned, Negated}
use Rattle.alphabet.specs.Letters.{residue}
use Rattle.residue_rows.specs.Rows.{rows}
use Rattle.residue.specs.Residues.{one_of, is_three, is_one, is_residue, is_residues}
use Rattle.grammar.specs.Optional.{print_optional}
use Rattle.grammar.specs.ProteinEdits.{Length, Length.counted, Length.unknown, Length.unsaid, Stop, Stop.stop, ExtEnd, ExtEnd.nothing, ExtEnd.later, ExtEnd.earlier, ProteinEditTree, ProteinEditTree.subst, ProteinEditTree.subst_unknown, ProteinEditTree.equal, ProteinEditTree.del, ProteinEditTree.dup, ProteinEditTree.ins, ProteinEditTree.del_ins, ProteinEditTree.fs, ProteinEditTree.ext, print_terminal, WfProteinEdit}
use Rattle.grammar.specs.Values.{ProteinEditV, ProteinEditV.fs_v, ProteinEditV.ext_v, ProteinEditV.subst_v, ProteinEditV.del_ins_v, ProteinEditV.ins_pv, ProteinEditV.del_v, ProteinEditV.dup_pv, ProteinEditV.ident_v}
use Rattle.grammar.specs.Meaning.{meaning_fs, meaning_ext, meaning_protein_edit}
use Rattle.grammar.specs.Numbers.{Faultless, length_numbers, stop_numbers, fs_numbers, ext_numbers, protein_edit_numbers}
use Rattle.grammar.proofs.NumberLaws.{none_faultless, one_anywhere}
use Rattle.lang.specs.Canon.{Canon, Right, Covered, map_o}
use Rattle.lang.proofs.Canon.{map_some}
use Rattle.lang_protein_edits.proofs.Instance.{protein_edit_lang}
use Rattle.lang_protein_edits.specs.Canon.{canon_fs_end, is_optional, canon_ext_end, canon_protein_edit}
use Rattle.lang_protein_edits.specs.CanonEnds.{fs_canon, ext_canon}
use Rattle.lang_protein_edits.proofs.CanonEnds.{fs_right, fs_covers, optional_wf, wf_optional, ext_right, ext_covers}
use Rattle.lang_protein_edits.specs.Canonical.{FitsProteinEdit}

-- ---- whether an edit's number fits does not depend on where the edit stands
length_anywhere : (j k : ℕ) (n : Length) → Faultless (length_numbers j n) → Faultless (length_numbers k n)
length_anywhere j k (counted ds) e = one_anywhere j k Unsigned ds e
length_anywhere j k unknown e = none_faultless
length_anywhere j k unsaid e = none_faultless

stop_anywhere : (j k : ℕ) (e : Stop) → Faultless (stop_numbers j e) → Faultless (stop_numbers k e)
stop_anywhere j k (stop t n) h = length_anywhere (j + length (print_terminal t)) (k + length (print_terminal t)) n h

fs_anywhere : (j k : ℕ) (e : Option Stop) → Faultless (fs_numbers j e) → Faultless (fs_numbers k e)
fs_anywhere j k none h = none_faultless
fs_anywhere j k (some e) h = stop_anywhere j k e h

ext_anywhere : (j k : ℕ) (e : ExtEnd) → Faultless (ext_numbers j e) → Faultless (ext_numbers k e)
ext_anywhere j k nothing h = none_faultless
ext_anywhere j k (later e) h = stop_anywhere j k e h
ext_anywhere j k (earlier q ds) h = one_anywhere (j + length (print_optional [] q) + 1) (k + length (print_optional [] q) + 1) Negated ds h

pub fits_anywhere : (j k : ℕ) (t : ProteinEditTree) → Faultless (protein_edit_numbers j t) → Faultless (protein_edit_numbers k t)
fits_anywhere j k (subst r) h = none_faultless
fits_anywhere j k subst_unknown h = none_faultless
fits_anywhere j k equal h = none_faultless
fits_anywhere j k del h = none_faultless
fits_anywhere j k dup h = none_faultless
fits_anywhere j k (ins rs) h = none_faultless
fits_anywhere j k (del_ins rs) h = none_faultless
fits_anywhere j k (fs r e) h = fs_anywhere (j + length (print_optional [] r) + 2) (k + length (print_optional [] r) + 2) e h
fits_anywhere j k (ext r e) h = ext_anywhere (j + length (print_optional [] r) + 3) (k + length (print_optional [] r) + 3) e h

-- ---- the tree is one of the value
abbrev RightEdit : ProteinEditV → ProteinEditTree → Type 0
RightEdit = Right protein_edit_lang meaning_protein_edit FitsProteinEdit

-- a tree without numbers that a test lets through
plain_right : (v : ProteinEditV) (u t : ProteinEditTree) (b : Bool) → cond b (some u) none ≡ some t → (b ≡ true → WfProteinEdit u) → protein_edit_numbers 0 u ≡ [] → meaning_protein_edit u ≡ v → RightEdit v t
plain_right v u t b e w n m =
    let c = cond_some b (some u) t e in
    let i : u ≡ t = cc c.1 in
    rw (← i) (record { wf = w c.0; fits = rw n none_faultless; means = m })

pub right : (v : ProteinEditV) (t : ProteinEditTree) → canon_protein_edit v ≡ some t → RightEdit v t
right (fs_v r w n) t e =
    let c = cond_some (is_optional r) (map_o (fs r) (canon_fs_end w n)) t e in
    let m = map_some (fs r) (canon_fs_end w n) t c.1 in
    let p = fs_right r w n m.0 m.1.0 in
    rw (← m.1.1) (record { wf = (optional_wf r c.0, p.wf); fits = p.fit (0 + length (print_optional [] r) + 2); means = p.means })
right (ext_v r w n) t e =
    let c = cond_some (is_optional r) (map_o (ext r) (canon_ext_end w n)) t e in
    let m = map_some (ext r) (canon_ext_end w n) t c.1 in
    let p = ext_right r w n m.0 m.1.0 in
    rw (← m.1.1) (record { wf = (optional_wf r c.0, p.wf); fits = p.fit (0 + length (print_optional [] r) + 3); means = p.means })
right (subst_v r) t e = go (is_residue r) refl
  where
    go : (b : Bool) → is_residue r ≡ b → RightEdit (subst_v r) t
    go true q = plain_right (subst_v r) (subst r) t true (rw q at e) (λ h. q) refl refl
    go false q =
        let s : cond (same r (ascii "?")) (some subst_unknown) none ≡ some t = rw q at e in
        let c = cond_some (same r (ascii "?")) (some subst_unknown) t s in
        plain_right (subst_v r) subst_unknown t (same r (ascii "?")) s (λ h. tt) refl (ap subst_v (sym (same_true r (ascii "?") c.0)))
right (del_ins_v rs) t e = plain_right (del_ins_v rs) (del_ins rs) t (is_residues rs) e (λ h. h) refl refl
right (ins_pv rs) t e = plain_right (ins_pv rs) (ins rs) t (is_residues rs) e (λ h. h) refl refl
right del_v t e = plain_right del_v del t true e (λ h. tt) refl refl
right dup_pv t e = plain_right dup_pv dup t true e (λ h. tt) refl refl
right ident_v t e = plain_right ident_v equal t true e (λ h. tt) refl refl

-- ---- and no tree of the value has a better text
abbrev CoveredEdit : ProteinEditTree → Type 0
CoveredEdit t = Covered protein_edit_lang canon_protein_edit (meaning_protein_edit t) t

-- the value of a tree with its end
pub fs_canon_lem : (r : Option (List ℕ)) (e : Option Stop) → canon_protein_edit (meaning_fs r e) ≡ cond (is_optional r) (map_o (fs r) (fs_canon e)) none
fs_canon_lem r none = refl
fs_canon_lem r (some (stop t n)) = refl

pub ext_canon_lem : (r : Option (List ℕ)) (e : ExtEnd) → canon_protein_edit (meaning_ext r e) ≡ cond (is_optional r) (map_o (ext r) (ext_canon e)) none
ext_canon_lem r nothing = refl
ext_canon_lem r (later (stop t n)) = refl
ext_canon_lem r (earlier q ds) = refl

unknown_found : canon_protein_edit (subst_v (ascii "?")) ≡ some subst_unknown
unfolding is_residue is_three is_one one_of rows residue same
unknown_found = refl

pub covers : (u : ProteinEditTree) → WfProteinEdit u → FitsProteinEdit u → CoveredEdit u
covers (subst r) w f = record { tree = subst r; found = rw w; best = best_refl }
covers subst_unknown w f = record { tree = subst_unknown; found = unknown_found; best = best_refl }
covers equal w f = record { tree = equal; found = refl; best = best_refl }
covers del w f = record { tree = del; found = refl; best = best_refl }
covers dup w f = record { tree = dup; found = refl; best = best_refl }
covers (ins rs) w f = record { tree = ins rs; found = rw w; best = best_refl }
covers (del_ins rs) w f = record { tree = del_ins rs; found = rw w; best = best_refl }
covers (fs r e) w f =
    let c = fs_covers (0 + length (print_optional [] r) + 2) e w.1 f in
    record { tree = fs r c.tree; found = fs_canon_lem r e ∙ rw (wf_optional r w.0, c.is); best = best_behind (print_optional [] r) (best_behind (ascii "fs") c.best) }
covers (ext r e) w f =
    let c = ext_covers (0 + length (print_optional [] r) + 3) e w.1 f in
    record { tree = ext r c.tree; found = ext_canon_lem r e ∙ rw (wf_optional r w.0, c.is); best = best_behind (print_optional [] r) (best_behind (ascii "ext") c.best) }

abbrev pub protein_edit_canon : Canon protein_edit_lang
protein_edit_canon = record { Value = ProteinEditV; meaning = meaning_protein_edit; Fits = FitsProteinEdit; canon = canon_protein_edit; right = right; covers = covers }
