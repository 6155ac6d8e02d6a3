-- The parser finds the positions of the grammar, each followed by what does not continue it, and no others.
use Rattle.std.specs.Prelude.{ℕ, ◌≡◌, refl, List, [], ◌++◌, Bool, true, false, cond, eqb, length, take, drop}
use Prim.Native.Char.{code}
use Rattle.std.proofs.Common.{sym, ap, ◌∙◌, append_assoc, arith, take-append-drop, eqb-true, eq-eqb, ne_eqb}
use Rattle.std.proofs.Math.Option.{Option, none, some}
use Rattle.std.proofs.Math.Seq.{take-append_seam, drop-append_seam}
use Rattle.std.proofs.lemmas.Bool.{eqb-false}
use Rattle.texts.specs.Ascii.{ascii}
use Rattle.texts.proofs.Tests.{none_some, cond_some, clash}
use Rattle.texts.specs.Runs.{run, front, behind}
use Rattle.texts.proofs.Runs.{run_is, front_is, behind_is, front_some, front_behind}
use Rattle.texts.specs.Words.{starts}
use Rattle.texts.proofs.Words.{starts_append, starts_split, starts_other}
use Rattle.alphabet.specs.Letters.{digit}
use Rattle.residue.specs.Residues.{is_residue}
use Rattle.residue.specs.Reading.{residue_len}
use Rattle.residue.proofs.ResiduesRead.{residue_complete, residue_sound, residue_some, continues_digits}
use Rattle.record.specs.declared.Kind.{Kind}
use Rattle.record.specs.declared.Kind.TheVariants.{Cds, Genome, Mt, Tx, Prot, Rna}
use Rattle.grammar.specs.Positions.{Mark, Mark.bare, Mark.plus, Mark.minus, Mark.star, OffsetTree, OffsetTree.absent, OffsetTree.ahead, OffsetTree.back, Based, Based.based, Genomic, Genomic.known, Genomic.unknown, Residual, Residual.residual, PositionTree, print_mark, print_offset, print_based, print_genomic, print_residual, print_position, Digits, WfOffset, WfBased, WfUnstarred, WfGenomic, WfResidual, WfPosition}
use Rattle.lang.specs.Lang.{Front}
use Rattle.lang_locations.specs.Parse.{on_digits, parse_mark, parse_offset, parse_based, parse_unstarred, parse_genomic, parse_residual, parse_position}
use Rattle.lang_locations.specs.Sound.{Follows}

-- ---- the digits at the front
module _ {A : Type 0} (other : A) (made : List ℕ → A) where
  pub digits_none : (s : List ℕ) → run digit s ≡ 0 → on_digits other made s ≡ other
  unfolding on_digits
  digits_none s z = rw (eq-eqb (run digit s) 0 z)

  pub digits_some : (s : List ℕ) → (run digit s ≡ 0 → ⊥) → on_digits other made s ≡ made (front digit s)
  unfolding on_digits
  digits_some s n = rw (ne_eqb (run digit s) 0 n)

  digits_is : (ds r : List ℕ) → Digits ds → run digit r ≡ 0 → on_digits other made (ds ++ r) ≡ made ds
  digits_is ds r w stop =
      digits_some (ds ++ r) (λ z. omega (arith, w.some, run_is digit ds r w.all stop)) ∙ ap made (front_is digit ds r w.all stop)

  -- by which of the two it came
  digits_cases : {B : Type 0} (s : List ℕ) (x : A) → on_digits other made s ≡ x → (other ≡ x → B) → (Digits (front digit s) → made (front digit s) ≡ x → B) → B
  digits_cases {B} s x h f g = go (eqb (run digit s) 0) refl
    where
      go : (t : Bool) → eqb (run digit s) 0 ≡ t → B
      go true e = f (sym (digits_none s (eqb-true _ _ e)) ∙ h)
      go false e = g (front_some digit s (eqb-false _ _ e)) (sym (digits_some s (eqb-false _ _ e)) ∙ h)

-- ---- marks
mark_is : (m : Mark) (ds x : List ℕ) → Digits ds → parse_mark (print_mark m ++ (ds ++ x)) ≡ m
unfolding parse_mark starts digit
mark_is bare ds x w = rw (starts_other digit (code "+") [] ds x refl w, starts_other digit (code "-") [] ds x refl w, starts_other digit (code "*") [] ds x refl w)
mark_is plus ds x w = refl
mark_is minus ds x w = refl
mark_is star ds x w = refl

pub mark_split : (s : List ℕ) → print_mark (parse_mark s) ++ drop (length (print_mark (parse_mark s))) s ≡ s
unfolding parse_mark
mark_split s = go (starts (ascii "+") s) (starts (ascii "-") s) (starts (ascii "*") s) refl refl refl
  where
    go : (p m e : Bool) → starts (ascii "+") s ≡ p → starts (ascii "-") s ≡ m → starts (ascii "*") s ≡ e → print_mark (parse_mark s) ++ drop (length (print_mark (parse_mark s))) s ≡ s
    go true m e hp hm he = rw (hp, parse_mark) (starts_split (ascii "+") s hp)
    go false true e hp hm he = rw (hp, hm, parse_mark) (starts_split (ascii "-") s hm)
    go false false true hp hm he = rw (hp, hm, he, parse_mark) (starts_split (ascii "*") s he)
    go false false false hp hm he = rw (hp, hm, he, parse_mark)

-- ---- offsets
offset_is : (o : OffsetTree) (r : List ℕ) → WfOffset o → Follows r → parse_offset (print_offset o ++ r) ≡ o
unfolding parse_offset starts
offset_is absent r w st = st.no_offset
offset_is (ahead ds) r w st = digits_is absent ahead ds r w st.no_digit
offset_is (back ds) r w st = digits_is absent back ds r w st.no_digit

-- behind the digits no digit follows
offset_stop : (o : OffsetTree) (r : List ℕ) → run digit r ≡ 0 → run digit (print_offset o ++ r) ≡ 0
unfolding run digit
offset_stop absent r h = h
offset_stop (ahead ds) r h = refl
offset_stop (back ds) r h = refl

signed_sound : (word : List ℕ) (by : List ℕ → OffsetTree) → ((ds : List ℕ) → print_offset (by ds) ≡ word ++ ds) → ((ds : List ℕ) → Digits ds → WfOffset (by ds))
    → (s : List ℕ) → starts word s ≡ true → (o : OffsetTree) → on_digits absent by (drop (length word) s) ≡ o → Front print_offset WfOffset s o
signed_sound word by print wf s st o h = digits_cases absent by y o h (λ e. rw (← e) (record { wf = tt; after = s; text = refl })) (λ w e. rw (← e) (found w))
  where
    y : List ℕ
    y = drop (length word) s

    found : Digits (front digit y) → Front print_offset WfOffset s (by (front digit y))
    found w = record {
      wf = wf (front digit y) w;
      after = behind digit y;
      text = rw (print (front digit y), append_assoc word (front digit y) (behind digit y), front_behind digit y) (starts_split word s st);
    }

pub offset_sound : (s : List ℕ) → Front print_offset WfOffset s (parse_offset s)
unfolding parse_offset
offset_sound s = go (starts (ascii "+") s) (starts (ascii "-") s) refl refl
  where
    go : (p m : Bool) → starts (ascii "+") s ≡ p → starts (ascii "-") s ≡ m → Front print_offset WfOffset s (parse_offset s)
    go true m hp hm = rw (hp, parse_offset) (signed_sound (ascii "+") ahead (λ ds. refl) (λ ds w. w) s hp _ refl)
    go false true hp hm = rw (hp, hm, parse_offset) (signed_sound (ascii "-") back (λ ds. refl) (λ ds w. w) s hm _ refl)
    go false false hp hm = rw (hp, hm, parse_offset) (record { wf = tt; after = s; text = refl })

-- ---- c, n, r
complete_based : (t : Based) (r : List ℕ) → WfBased t → Follows r → parse_based (print_based t ++ r) ≡ some t
unfolding parse_based
complete_based (based m ds o) r w st =
    let y : List ℕ = print_offset o ++ r in
    let e : print_based (based m ds o) ++ r ≡ print_mark m ++ (ds ++ y) = simp append_assoc in
    let stop : run digit y ≡ 0 = offset_stop o r st.no_digit in
    rw (e, mark_is m ds y w.0, drop-append_seam (print_mark m) (ds ++ y), digits_is none (λ x. some (based m x (parse_offset (behind digit (ds ++ y))))) ds y w.0 stop, behind_is digit ds y w.0.all stop, offset_is o r w.1 st)

sound_based : (s : List ℕ) (t : Based) → parse_based s ≡ some t → Front print_based WfBased s t
unfolding parse_based
sound_based s t h = digits_cases none made y (some t) h (λ e. absurd (none_some e)) (λ w e. let j : based m (front digit y) (parse_offset (behind digit y)) ≡ t = cc in rw (← j) (found w))
  where
    m : Mark
    m = parse_mark s

    y : List ℕ
    y = drop (length (print_mark m)) s

    made : List ℕ → Option Based
    made ds = some (based m ds (parse_offset (behind digit y)))

    found : Digits (front digit y) → Front print_based WfBased s (based m (front digit y) (parse_offset (behind digit y)))
    found w =
        let o = offset_sound (behind digit y) in
        record { wf = (w, o.wf); after = o.after; text = simp append_assoc (rw (o.text, front_behind digit y) (mark_split s)) }

-- without `*`
unstarred_start : (t : Based) (r : List ℕ) → WfUnstarred t → starts (ascii "*") (print_based t ++ r) ≡ false
unfolding starts digit
unstarred_start (based bare ds o) r w = rw (append_assoc ds (print_offset o) r) (starts_other digit (code "*") [] ds (print_offset o ++ r) refl w.1.0)
unstarred_start (based plus ds o) r w = refl
unstarred_start (based minus ds o) r w = refl
unstarred_start (based star ds o) r w = absurd w.0

complete_unstarred : (t : Based) (r : List ℕ) → WfUnstarred t → Follows r → parse_unstarred (print_based t ++ r) ≡ some t
unfolding parse_unstarred
complete_unstarred (based m ds o) r w st = rw (unstarred_start (based m ds o) r w) (complete_based (based m ds o) r w.1 st)

sound_unstarred : (s : List ℕ) (t : Based) → parse_unstarred s ≡ some t → Front print_based WfUnstarred s t
unfolding parse_unstarred
sound_unstarred s t h = go (starts (ascii "*") s) refl
  where
    unstarred : (t : Based) → Front print_based WfBased s t → starts (ascii "*") s ≡ false → Front print_based WfUnstarred s t
    unstarred (based bare ds o) f e = record { wf = (tt, f.wf); after = f.after; text = f.text }
    unstarred (based plus ds o) f e = record { wf = (tt, f.wf); after = f.after; text = f.text }
    unstarred (based minus ds o) f e = record { wf = (tt, f.wf); after = f.after; text = f.text }
    unstarred (based star ds o) f e = absurd (clash (rw (← f.text) (starts_append (ascii "*") _)) e)

    go : (b : Bool) → starts (ascii "*") s ≡ b → Front print_based WfUnstarred s t
    go true e = absurd (none_some (rw (e, parse_unstarred) at h))
    go false e = unstarred t (sound_based s t (rw (e, parse_unstarred) at h)) e

-- ---- g, m
complete_genomic : (t : Genomic) (r : List ℕ) → WfGenomic t → Follows r → parse_genomic (print_genomic t ++ r) ≡ some t
unfolding parse_genomic starts run digit
complete_genomic (known ds) r w st = digits_is _ (λ x. some (known x)) ds r w st.no_digit
complete_genomic unknown r w st = digits_none _ (λ x. some (known x)) (print_genomic unknown ++ r) refl

sound_genomic : (s : List ℕ) (t : Genomic) → parse_genomic s ≡ some t → Front print_genomic WfGenomic s t
unfolding parse_genomic
sound_genomic s t h = digits_cases _ (λ x. some (known x)) s (some t) h mark digits
  where
    mark : cond (starts (ascii "?") s) (some unknown) none ≡ some t → Front print_genomic WfGenomic s t
    mark e =
        let q = cond_some (starts (ascii "?") s) (some unknown) t e in
        let j : unknown ≡ t = cc q.1 in
        rw (← j) (record { wf = tt; after = drop 1 s; text = starts_split (ascii "?") s q.0 })

    digits : Digits (front digit s) → some (known (front digit s)) ≡ some t → Front print_genomic WfGenomic s t
    digits w e =
        let j : known (front digit s) ≡ t = cc in
        rw (← j) (record { wf = w; after = behind digit s; text = front_behind digit s })

-- ---- p
complete_residual : (t : Residual) (r : List ℕ) → WfResidual t → Follows r → parse_residual (print_residual t ++ r) ≡ some t
unfolding parse_residual
complete_residual (residual a ds) r w st =
    let e : (a ++ ds) ++ r ≡ a ++ (ds ++ r) = append_assoc a ds r in
    let l : residue_len (a ++ (ds ++ r)) ≡ length a = residue_complete a (ds ++ r) w.0 (continues_digits ds r w.1) in
    rw (e, l, ne_eqb (length a) 0 (λ z. omega (arith, residue_some a w.0)), take-append_seam a (ds ++ r), drop-append_seam a (ds ++ r)) (digits_is none (λ x. some (residual a x)) ds r w.1 st.no_digit)

sound_residual : (s : List ℕ) (t : Residual) → parse_residual s ≡ some t → Front print_residual WfResidual s t
unfolding parse_residual
sound_residual s t h = go (eqb (residue_len s) 0) refl
  where
    a : List ℕ
    a = take (residue_len s) s

    y : List ℕ
    y = drop (residue_len s) s

    found : is_residue a ≡ true → Digits (front digit y) → Front print_residual WfResidual s (residual a (front digit y))
    found i w = record { wf = (i, w); after = behind digit y; text = rw (append_assoc a (front digit y) (behind digit y), front_behind digit y) (take-append-drop (residue_len s) s) }

    go : (b : Bool) → eqb (residue_len s) 0 ≡ b → Front print_residual WfResidual s t
    go true e = absurd (none_some (rw (e, parse_residual) at h))
    go false e = digits_cases none (λ x. some (residual a x)) y (some t) (rw (e, parse_residual) at h) (λ n. absurd (none_some n)) (λ w q. let j : residual a (front digit y) ≡ t = cc in rw (← j) (found (residue_sound s (eqb-false _ _ e)) w))

-- ---- every kind
pub complete_position : (k : Kind) (t : PositionTree k) (r : List ℕ) → WfPosition k t → Follows r → parse_position k (print_position k t ++ r) ≡ some t
complete_position Cds = complete_based
complete_position Genome = complete_genomic
complete_position Mt = complete_genomic
complete_position Tx = complete_unstarred
complete_position Prot = complete_residual
complete_position Rna = complete_unstarred

pub sound_position : (k : Kind) (s : List ℕ) (t : PositionTree k) → parse_position k s ≡ some t → Front (print_position k) (WfPosition k) s t
sound_position Cds = sound_based
sound_position Genome = sound_genomic
sound_position Mt = sound_genomic
sound_position Tx = sound_unstarred
sound_position Prot = sound_residual
sound_position Rna = sound_unstarred
