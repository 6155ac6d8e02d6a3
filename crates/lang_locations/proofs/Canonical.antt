-- The position that canon gives is one of the value, its text is best among all positions of the value, and where it gives none there is none.
use Rattle.std.specs.Prelude.{ℕ, zero, suc, ◌+◌, ◌≤◌, ◌≡◌, refl, List, [], ◌∷◌, ◌++◌, ℤ, pos, negsuc, length, None, Some}
use Prim.Native.Char.{code}
use Rattle.std.proofs.Common.{ap, ◌∙◌, append_assoc, arith, lit<, le-leb}
use Rattle.std.proofs.Math.Option.{Option, none, some}
use Rattle.texts.specs.Ascii.{ascii}
use Rattle.texts.specs.Best.{Best}
use Rattle.texts.proofs.Best.{best_refl, best_append, best_behind, best_less, best_more}
use Rattle.texts.proofs.Tests.{cond_some}
use Rattle.numerals.specs.declared.Sign.TheVariants.{Unsigned, Plus, Minus}
use Rattle.numerals.specs.Digits.{val, dec}
use Rattle.numerals.proofs.Decimals.{dec_best}
use Rattle.numerals.specs.Reading.{signed, most, fits}
use Rattle.numerals.proofs.Signs.{or_zero_fit}
use Rattle.numerals.specs.Written.{Written, digits_of, unsigned_digits}
use Rattle.numerals.proofs.Written.{digits_written, unsigned_written, digits_found, unsigned_found}
use Rattle.residue.specs.Residues.{is_residue}
use Rattle.record.specs.declared.Kind.{Kind}
use Rattle.record.specs.declared.Kind.TheVariants.{Cds, Genome, Mt, Tx, Prot, Rna}
use Rattle.record.specs.Named as Declared
use Rattle.record.specs.declared.CdsFrom.{CdsFrom}
use Rattle.record.specs.declared.CdsFrom.TheVariants.{Start, End}
use Rattle.record.specs.declared.CdsPos.{CdsPos}
use Rattle.record.specs.Named.{TxPos, RnaPos}
use Rattle.grammar.specs.Positions.{Mark, Mark.bare, Mark.plus, Mark.minus, Mark.star, OffsetTree, OffsetTree.absent, OffsetTree.ahead, OffsetTree.back, Based, Based.based, Genomic, Genomic.known, Genomic.unknown, Residual.residual, PositionTree, print_mark, print_offset, print_based, print_genomic, Digits, WfOffset, WfBased, Unstarred, WfUnstarred, WfGenomic, WfPosition}
use Rattle.grammar.specs.Values.{ProtPosV.prot_pos_v, PositionV}
use Rattle.grammar.specs.Meaning.{number, sign_of, from_of, offset_of, meaning_cds, meaning_genome, meaning_mt, meaning_position}
use Rattle.grammar.specs.Numbers.{Numeral.numeral, Faultless, offset_numbers, based_numbers, genomic_numbers}
use Rattle.grammar.proofs.NumberLaws.{one_fits, none_faultless, written_faultless, faultless_both, both_faultless}
use Rattle.lang.specs.Canon.{Canon, Right, Covered}
use Rattle.lang.proofs.Canon.{map_some, both_some}
use Rattle.lang.proofs.IntervalCanon.{interval_canon}
use Rattle.lang.proofs.MuCanon.{mu_canon}
use Rattle.lang_locations.proofs.Languages.{pos_lang, may_join, ends_lang, brackets, location_lang}
use Rattle.lang_locations.specs.Equal.{eq_position}
use Rattle.lang_locations.proofs.Equal.{eq_true, eq_refl}
use Rattle.lang_locations.specs.Canon.{canon_offset, marked, canon_base, canon_based, canon_genomic, canon_position}
use Rattle.lang_locations.specs.Canonical.{FitsPosition}

-- ---- offsets
record OffsetRight (v : Declared.Offset) (o : OffsetTree) : Type 0 where
  wf : WfOffset o
  fit : (k : ℕ) → Faultless (offset_numbers k o)
  means : offset_of o ≡ v

offset_right : (v : Declared.Offset) (o : OffsetTree) → canon_offset v ≡ some o → OffsetRight v o
offset_right None o e = let j : absent ≡ o = cc in rw (← j) (record { wf = tt; fit = λ k. none_faultless; means = refl })
offset_right (Some (pos v)) o e =
    let h = map_some ahead (digits_of Unsigned v) o e in
    let w = digits_written Unsigned v h.0 h.1.0 in
    rw (← h.1.1) (record { wf = w.digits; fit = λ k. written_faultless (k + 1) w; means = ap Some w.value })
offset_right (Some (negsuc v)) o e =
    let h = map_some back (digits_of Minus (suc v)) o e in
    let w = digits_written Minus (suc v) h.0 h.1.0 in
    rw (← h.1.1) (record { wf = w.digits; fit = λ k. written_faultless (k + 1) w; means = ap Some w.value })

record OffsetCovered (v : Declared.Offset) (u : OffsetTree) : Type 0 where
  tree : OffsetTree
  found : canon_offset v ≡ some tree
  best : Best (print_offset tree) (print_offset u)

back_covers : (ds : List ℕ) (v : ℕ) → Digits ds → val ds ≡ v → v ≤ most Minus → OffsetCovered (Some (signed Minus v)) (back ds)
back_covers ds zero w e h = record { tree = ahead (dec 0); found = refl; best = best_less (lit< tt) (dec_best w e) }
back_covers ds (suc v) w e h = record { tree = back (dec (suc v)); found = rw (le-leb (suc v) (most Minus) h); best = best_behind (ascii "-") (dec_best w e) }

offset_covers : (u : OffsetTree) → WfOffset u → (k : ℕ) → Faultless (offset_numbers k u) → OffsetCovered (offset_of u) u
offset_covers absent w k f = record { tree = absent; found = refl; best = best_refl }
offset_covers (ahead ds) w k f =
    let h = one_fits (k + 1) Unsigned ds f in
    record { tree = ahead (dec (val ds)); found = rw (or_zero_fit Unsigned (val ds) h, digits_found Unsigned (val ds) h); best = best_behind (ascii "+") (dec_best w refl) }
offset_covers (back ds) w k f =
    let h = one_fits (k + 1) Minus ds f in
    rw (or_zero_fit Minus (val ds) h) (back_covers ds (val ds) w refl h)

-- ---- c, n, r
record BaseRight (from : CdsFrom) (z : ℤ) (base : OffsetTree → Based) : Type 0 where
  mark : Mark
  text : List ℕ
  is : marked mark text ≡ base
  written : Written (sign_of mark) z text
  side : from_of mark ≡ from

base_right : (from : CdsFrom) (z : ℤ) (base : OffsetTree → Based) → canon_base from z ≡ some base → BaseRight from z base
base_right Start (pos v) base e =
    let h = map_some (marked bare) (digits_of Unsigned v) base e in
    record { mark = bare; text = h.0; is = h.1.1; written = digits_written Unsigned v h.0 h.1.0; side = refl }
base_right Start (negsuc v) base e =
    let h = map_some (marked minus) (digits_of Minus (suc v)) base e in
    record { mark = minus; text = h.0; is = h.1.1; written = digits_written Minus (suc v) h.0 h.1.0; side = refl }
base_right End z base e =
    let h = map_some (marked star) (unsigned_digits z) base e in
    record { mark = star; text = h.0; is = h.1.1; written = unsigned_written z h.0 h.1.0; side = refl }

record BasedRight (from : CdsFrom) (z : ℤ) (v : Declared.Offset) (t : Based) : Type 0 where
  wf : WfBased t
  fit : Faultless (based_numbers 0 t)
  means : meaning_cds t ≡ record { base = z; offset = v; cds_from = from }

based_right : (from : CdsFrom) (z : ℤ) (v : Declared.Offset) (t : Based) → canon_based from z v ≡ some t → BasedRight from z v t
based_right from z v t e =
    let h = both_some (λ (base : OffsetTree → Based) (o : OffsetTree). base o) (canon_base from z) (canon_offset v) t e in
    let b = base_right from z h.0 h.1.1.0 in
    let o = offset_right v h.1.0 h.1.1.1.0 in
    let j : based b.mark b.text h.1.0 ≡ t = ap (λ (base : OffsetTree → Based). base h.1.0) b.is ∙ h.1.1.1.1 in
    rw (← j) (record { wf = (b.written.digits, o.wf); fit = both_faultless (numeral (0 + length (print_mark b.mark)) (sign_of b.mark) b.text ∷ []) (offset_numbers (0 + length (print_mark b.mark) + length b.text) h.1.0) (written_faultless _ b.written) (o.fit _); means = means_of b.written.value o.means b.side })
  where
    means_of : {x : ℤ} {w : Declared.Offset} {g : CdsFrom} → x ≡ z → w ≡ v → g ≡ from → ◌≡◌ {A = CdsPos} (record { base = x; offset = w; cds_from = g }) (record { base = z; offset = v; cds_from = from })
    means_of p q r = rw (p, q, r)

record BaseCovered (from : CdsFrom) (z : ℤ) (m : Mark) (ds : List ℕ) : Type 0 where
  mark : Mark
  text : List ℕ
  found : canon_base from z ≡ some (marked mark text)
  best : Best (print_mark mark ++ text) (print_mark m ++ ds)

minus_covers : (ds : List ℕ) (v : ℕ) → Digits ds → val ds ≡ v → v ≤ most Minus → BaseCovered Start (signed Minus v) minus ds
minus_covers ds zero w e h = record { mark = bare; text = dec 0; found = refl; best = best_more (code "-") (dec_best w e) }
minus_covers ds (suc v) w e h = record { mark = minus; text = dec (suc v); found = rw (le-leb (suc v) (most Minus) h); best = best_behind (ascii "-") (dec_best w e) }

base_covers : (m : Mark) (ds : List ℕ) → Digits ds → val ds ≤ most (sign_of m) → BaseCovered (from_of m) (number (sign_of m) ds) m ds
base_covers bare ds w h = record { mark = bare; text = dec (val ds); found = rw (or_zero_fit Unsigned (val ds) h, digits_found Unsigned (val ds) h); best = dec_best w refl }
base_covers plus ds w h = record { mark = bare; text = dec (val ds); found = rw (or_zero_fit Plus (val ds) h, digits_found Unsigned (val ds) h); best = best_more (code "+") (dec_best w refl) }
base_covers minus ds w h = rw (or_zero_fit Minus (val ds) h) (minus_covers ds (val ds) w refl h)
base_covers star ds w h = record { mark = star; text = dec (val ds); found = rw (unsigned_found (val ds) h); best = best_behind (ascii "*") (dec_best w refl) }

record BasedCovered (p : CdsPos) (u : Based) : Type 0 where
  tree : Based
  found : canon_based p.cds_from p.base p.offset ≡ some tree
  best : Best (print_based tree) (print_based u)

based_covers : (u : Based) → WfBased u → Faultless (based_numbers 0 u) → BasedCovered (meaning_cds u) u
based_covers (based m ds o) w f =
    let k = 0 + length (print_mark m) in
    let h = faultless_both (numeral k (sign_of m) ds ∷ []) (offset_numbers (k + length ds) o) f in
    let b = base_covers m ds w.0 (one_fits k (sign_of m) ds h.0) in
    let c = offset_covers o w.1 (k + length ds) h.1 in
    record {
      tree = based b.mark b.text c.tree;
      found = rw (b.found, c.found);
      best = rw (← append_assoc (print_mark b.mark) b.text (print_offset c.tree), ← append_assoc (print_mark m) ds (print_offset o)) (best_append b.best c.best);
    }

-- from the start: without `*`, in whatever record has a base and an offset
record UnstarredRight {A : Type 0} (made : ℤ → Declared.Offset → A) (z : ℤ) (v : Declared.Offset) (t : Based) : Type 0 where
  wf : WfUnstarred t
  fit : Faultless (based_numbers 0 t)
  means : made (meaning_cds t).base (meaning_cds t).offset ≡ made z v

unstarred : (t : Based) → WfBased t → (meaning_cds t).cds_from ≡ Start → WfUnstarred t
unstarred (based bare ds o) w e = (tt, w)
unstarred (based plus ds o) w e = (tt, w)
unstarred (based minus ds o) w e = (tt, w)
unstarred (based star ds o) w e = absurd (let z : ◌≡◌ {A = ℕ} 0 1 = cc in omega arith)

unstarred_right : {A : Type 0} (made : ℤ → Declared.Offset → A) (z : ℤ) (v : Declared.Offset) (t : Based) → canon_based Start z v ≡ some t → UnstarredRight made z v t
unstarred_right made z v t e =
    let r = based_right Start z v t e in
    record { wf = unstarred t r.wf (ap (λ (p : CdsPos). p.cds_from) r.means); fit = r.fit; means = ap (λ (p : CdsPos). made p.base p.offset) r.means }

pub unstarred_from : (m : Mark) → Unstarred m → from_of m ≡ Start
unstarred_from bare w = refl
unstarred_from plus w = refl
unstarred_from minus w = refl
unstarred_from star w = absurd w

unstarred_covers : (m : Mark) (ds : List ℕ) (o : OffsetTree) → WfUnstarred (based m ds o) → Faultless (based_numbers 0 (based m ds o))
    → BasedCovered (record { base = number (sign_of m) ds; offset = offset_of o; cds_from = Start }) (based m ds o)
unstarred_covers m ds o w f = rw (unstarred_from m w.0) at (based_covers (based m ds o) w.1 f)

-- ---- g, m: the number, where it is known
abbrev number_in : Genomic → Option ℤ
number_in (known ds) = some (number Unsigned ds)
number_in unknown = none

record GenomicRight (v : Option ℤ) (t : Genomic) : Type 0 where
  wf : WfGenomic t
  fit : Faultless (genomic_numbers 0 t)
  means : number_in t ≡ v

genomic_right : (v : Option ℤ) (t : Genomic) → canon_genomic v ≡ some t → GenomicRight v t
genomic_right none t e = let j : unknown ≡ t = cc in rw (← j) (record { wf = tt; fit = none_faultless; means = refl })
genomic_right (some z) t e =
    let h = map_some known (unsigned_digits z) t e in
    let w = unsigned_written z h.0 h.1.0 in
    rw (← h.1.1) (record { wf = w.digits; fit = written_faultless 0 w; means = ap some w.value })

record GenomicCovered (v : Option ℤ) (u : Genomic) : Type 0 where
  tree : Genomic
  found : canon_genomic v ≡ some tree
  best : Best (print_genomic tree) (print_genomic u)

genomic_covers : (u : Genomic) → WfGenomic u → Faultless (genomic_numbers 0 u) → GenomicCovered (number_in u) u
genomic_covers (known ds) w f = record { tree = known (dec (val ds)); found = rw (unsigned_found (val ds) (one_fits 0 Unsigned ds f)); best = dec_best w refl }
genomic_covers unknown w f = record { tree = unknown; found = refl; best = best_refl }

-- in whatever record is unknown or has a number
abbrev numbered : {A : Type 0} → A → (ℤ → A) → Option ℤ → A
numbered hidden at none = hidden
numbered hidden at (some z) = at z

genome_means : (t : Genomic) → meaning_genome t ≡ numbered None Some (number_in t)
genome_means (known ds) = refl
genome_means unknown = refl

mt_means : (t : Genomic) → meaning_mt t ≡ numbered None Some (number_in t)
mt_means (known ds) = refl
mt_means unknown = refl

abbrev RightPosition : (k : Kind) → PositionV k → PositionTree k → Type 0
RightPosition k = Right (pos_lang k) (meaning_position k) (FitsPosition k)

abbrev CoveredPosition : (k : Kind) → PositionTree k → Type 0
CoveredPosition k u = Covered (pos_lang k) (canon_position k) (meaning_position k u) u

right_genome : (o : Option ℤ) (t : Genomic) → canon_genomic o ≡ some t → RightPosition Genome (numbered None Some o) t
right_genome o t e = let r = genomic_right o t e in record { wf = r.wf; fits = r.fit; means = genome_means t ∙ ap (numbered None Some) r.means }

right_mt : (o : Option ℤ) (t : Genomic) → canon_genomic o ≡ some t → RightPosition Mt (numbered None Some o) t
right_mt o t e = let r = genomic_right o t e in record { wf = r.wf; fits = r.fit; means = mt_means t ∙ ap (numbered None Some) r.means }

pub right_position : (k : Kind) (v : PositionV k) (t : PositionTree k) → canon_position k v ≡ some t → RightPosition k v t
right_position Cds v t e = let r = based_right v.cds_from v.base v.offset t e in record { wf = r.wf; fits = r.fit; means = r.means }
right_position Genome None t e = right_genome none t e
right_position Genome (Some z) t e = right_genome (some z) t e
right_position Mt None t e = right_mt none t e
right_position Mt (Some z) t e = right_mt (some z) t e
right_position Tx v (based m ds o) e =
    let r = unstarred_right {A = TxPos} (λ z x. record { base = z; offset = x }) v.base v.offset (based m ds o) e in
    record { wf = r.wf; fits = r.fit; means = r.means }
right_position Prot (prot_pos_v r z) t e =
    let h = cond_some (is_residue r) _ t e in
    let g = map_some (residual r) (unsigned_digits z) t h.1 in
    let w = unsigned_written z g.0 g.1.0 in
    rw (← g.1.1) (record { wf = (h.0, w.digits); fits = written_faultless (0 + length r) w; means = ap (prot_pos_v r) w.value })
right_position Rna v (based m ds o) e =
    let r = unstarred_right {A = RnaPos} (λ z x. record { base = z; offset = x }) v.base v.offset (based m ds o) e in
    record { wf = r.wf; fits = r.fit; means = r.means }

pub covers_position : (k : Kind) (u : PositionTree k) → WfPosition k u → FitsPosition k u → CoveredPosition k u
covers_position Cds (based m ds o) w f = let c = based_covers (based m ds o) w f in record { tree = c.tree; found = c.found; best = c.best }
covers_position Genome (known ds) w f = let c = genomic_covers (known ds) w f in record { tree = c.tree; found = c.found; best = c.best }
covers_position Genome unknown w f = let c = genomic_covers unknown w f in record { tree = c.tree; found = c.found; best = c.best }
covers_position Mt (known ds) w f = let c = genomic_covers (known ds) w f in record { tree = c.tree; found = c.found; best = c.best }
covers_position Mt unknown w f = let c = genomic_covers unknown w f in record { tree = c.tree; found = c.found; best = c.best }
covers_position Tx (based m ds o) w f = let c = unstarred_covers m ds o w f in record { tree = c.tree; found = c.found; best = c.best }
covers_position Prot (residual r ds) w f =
    record { tree = residual r (dec (val ds)); found = rw (w.0, unsigned_found (val ds) (one_fits (0 + length r) Unsigned ds f)); best = best_behind r (dec_best w.1 refl) }
covers_position Rna (based m ds o) w f = let c = unstarred_covers m ds o w f in record { tree = c.tree; found = c.found; best = c.best }

abbrev pub pos_canon : (k : Kind) → Canon (pos_lang k)
pos_canon k = record { Value = PositionV k; meaning = meaning_position k; Fits = FitsPosition k; canon = canon_position k; right = right_position k; covers = covers_position k }

abbrev pub ends_canon : (k : Kind) → Canon (ends_lang k)
ends_canon k = interval_canon (pos_lang k) may_join (pos_canon k) (eq_position k) (eq_true k) (eq_refl k)

abbrev pub location_canon : (k : Kind) → Canon (location_lang k)
location_canon k = mu_canon (ends_lang k) (brackets k) (ends_canon k)
