-- What is planned for a location is its canonical text; and nothing where it has none.
use Rattle.std.specs.Prelude.{ℕ, suc, ◌≡◌, Bool, ◌&&◌, ℤ, pos, negsuc, nat_abs, None, Some}
use Prim.Native.Char.{code}
use Rattle.std.proofs.Math.Path.{refl, ap}
use Rattle.std.proofs.Common.{sym, ◌∙◌}
use mathlib.Core.List.{List, [], ◌∷◌, ◌++◌, append-nil, append_assoc}
use Rattle.std.proofs.Math.Option.{Option, none, some}
use Rattle.std.proofs.Math.Bool.{true, false, cond}
use Rattle.texts.specs.Ascii.{ascii}
use Rattle.texts.proofs.Tests.{none_some}
use Rattle.numerals.specs.declared.Sign.{Sign}
use Rattle.numerals.specs.declared.Sign.TheVariants.{Unsigned, Minus}
use Rattle.numerals.specs.Digits.{dec}
use Rattle.numerals.specs.Reading.{fits}
use Rattle.numerals.specs.Signs.{written_sign}
use Rattle.residue.specs.Residues.{is_residue}
use Rattle.record.specs.declared.Span.{Span}
use Rattle.record.specs.declared.Kind.{Kind}
use Rattle.record.specs.declared.Kind.TheVariants.{Cds, Genome, Mt, Tx, Prot, Rna}
use Rattle.record.specs.Named as Declared
use Rattle.record.specs.declared.CdsFrom.{CdsFrom}
use Rattle.record.specs.declared.CdsFrom.TheVariants.{Start, End}
use Rattle.grammar.specs.Positions as G
use Rattle.grammar.specs.Positions.{Mark.bare, Mark.minus, Mark.star, OffsetTree, Genomic.known, Residual.residual, print_mark, print_offset, print_based, print_genomic, print_residual, print_position}
use Rattle.grammar.specs.Shapes.{Interval, Interval.one, Interval.two, Mu, Mu.certain, Mu.uncertain, Both.both, print_interval, print_mu}
use Rattle.grammar.specs.Bodies.{print_location}
use Rattle.grammar.specs.Spans.{part}
use Rattle.grammar.specs.Values.{ProtPosV.prot_pos_v, PositionV}
use Rattle.grammar.specs.Records.{PositionR, MuIntervalR}
use Rattle.grammar.specs.Contents.{position_content, location_content}
use Rattle.lang.specs.Canon.{map_o, both_o}
use Rattle.lang_locations.specs.Equal.{eq_position}
use Rattle.numerals.specs.Written.{digits_of, unsigned_digits}
use Rattle.lang_locations.specs.Canon.{canon_offset, marked, canon_based, canon_genomic, canon_position}
use Rattle.lang_locations.proofs.Canonical.{location_canon}
use Rattle.any_location.specs.declared.Position.{Position}
use Rattle.any_location.specs.declared.Location.{Location}
use Rattle.any_location.specs.OfRecord.{any_location}
use Rattle.any_location.specs.ToRecord.{position_for, mu_for, location_for}
use Rattle.any_location.proofs.ToRecord.{any_location_lem}
use Rattle.any_location_same.specs.Same.{same_position}
use Rattle.emit_piece.specs.Texts.{byte_text, amount_text, no_span}
use Rattle.emit_location.specs.Texts.{position_text, location_text, no_end}
use Rattle.emit_piece.specs.PartLengths.{no_part}
use Rattle.emit_location.specs.LocationLengths.{no_end_lem}
use Rattle.emit_piece.specs.Named as Emit
use Rattle.plan_location.specs.Named.{PositionPlan, LocationPlan}
use Rattle.plan_location.specs.Plan.{held, held_offset, offset_sign, offset_amount, end_plan, unsigned_plan, based_plan, unknown_end, genomic_plan, residual_plan, position_plan, bracket_mark, location_plan, plan_location}

module _ (s : List ℕ) where
  abbrev pub end_plan_text : PositionPlan → Option (List ℕ)
  end_plan_text None = none
  end_plan_text (Some e) = some (position_text s e)

  abbrev pub plan_text : LocationPlan → Option (List ℕ)
  plan_text None = none
  plan_text (Some p) = some (location_text s p)

-- ---- offsets
abbrev offset_text : Declared.Offset → List ℕ
offset_text o = byte_text (offset_sign o) ++ amount_text (offset_amount o)

-- the text of what canon gives, behind a text x
offset_canon : (x : List ℕ) (o : Declared.Offset) → map_o (λ (t : OffsetTree). x ++ print_offset t) (canon_offset o) ≡ cond (held_offset o) (some (x ++ offset_text o)) none
unfolding held written_sign
offset_canon x None = refl
offset_canon x (Some (pos v)) = go (fits Unsigned v) refl
  where
    go : (t : Bool) → fits Unsigned v ≡ t → map_o (λ (o : OffsetTree). x ++ print_offset o) (canon_offset (Some (pos v))) ≡ cond (held_offset (Some (pos v))) (some (x ++ offset_text (Some (pos v)))) none
    go true e = rw e
    go false e = rw e
offset_canon x (Some (negsuc v)) = go (fits Minus (suc v)) refl
  where
    go : (t : Bool) → fits Minus (suc v) ≡ t → map_o (λ (o : OffsetTree). x ++ print_offset o) (canon_offset (Some (negsuc v))) ≡ cond (held_offset (Some (negsuc v))) (some (x ++ offset_text (Some (negsuc v)))) none
    go true e = rw e
    go false e = rw e

-- ---- positions: r is nothing where there is no residue
module _ (s : List ℕ) where
  end_text : (r : Span) (m : Emit.OneByte) (z : ℤ) (o : Declared.Offset)
      → end_plan_text s (end_plan r m z o) ≡ cond (held z && held_offset o) (some (part s r ++ (byte_text m ++ (dec (nat_abs z) ++ offset_text o)))) none
  unfolding end_plan position_text
  end_text r m z o = go (held z && held_offset o) refl
    where
      go : (t : Bool) → held z && held_offset o ≡ t → end_plan_text s (end_plan r m z o) ≡ cond (held z && held_offset o) (some (part s r ++ (byte_text m ++ (dec (nat_abs z) ++ offset_text o)))) none
      go true e = rw (e, end_plan)
      go false e = rw (e, end_plan)

  -- a mark, digits, an offset
  based_text : (m : G.Mark) (e : Emit.OneByte) → print_mark m ≡ byte_text e → (sign : Sign) (z : ℤ) → held z ≡ fits sign (nat_abs z) → (o : Declared.Offset)
      → end_plan_text s (end_plan no_span e z o) ≡ map_o print_based (both_o (λ base offset. base offset) (map_o (marked m) (digits_of sign (nat_abs z))) (canon_offset o))
  based_text m e p sign z h o = end_text no_span e z o ∙ rw (no_part s, h, ← p) (go (fits sign (nat_abs z)) refl)
    where
      joined : (c : Option OffsetTree) → map_o print_based (map_o (marked m (dec (nat_abs z))) c) ≡ map_o (λ (t : OffsetTree). (print_mark m ++ dec (nat_abs z)) ++ print_offset t) c
      joined none = refl
      joined (some t) = ap some (sym (append_assoc (print_mark m) (dec (nat_abs z)) (print_offset t)))

      go : (t : Bool) → fits sign (nat_abs z) ≡ t
          → cond (fits sign (nat_abs z) && held_offset o) (some (print_mark m ++ (dec (nat_abs z) ++ offset_text o))) none ≡ map_o print_based (both_o (λ base offset. base offset) (map_o (marked m) (digits_of sign (nat_abs z))) (canon_offset o))
      go true q =
          rw (q, joined (canon_offset o), offset_canon (print_mark m ++ dec (nat_abs z)) o, append_assoc (print_mark m) (dec (nat_abs z)) (offset_text o))
      go false q = rw q

  start_text : (z : ℤ) (o : Declared.Offset) → end_plan_text s (based_plan Start z o) ≡ map_o print_based (canon_based Start z o)
  unfolding held written_sign
  start_text (pos v) o = based_text bare None refl Unsigned (pos v) refl o
  start_text (negsuc v) o = based_text minus (Some (code "-")) refl Minus (negsuc v) refl o

  from_text : (from : CdsFrom) (z : ℤ) (o : Declared.Offset) → end_plan_text s (based_plan from z o) ≡ map_o print_based (canon_based from z o)
  unfolding held written_sign
  from_text Start z o = start_text z o
  from_text End (pos v) o = based_text star (Some (code "*")) refl Unsigned (pos v) refl o
  from_text End (negsuc v) o = refl

  -- an unsigned number behind a residue or nothing
  unsigned_text : {A : Type 0} (tree : List ℕ → A) (print : A → List ℕ) (r : Span) → ((ds : List ℕ) → print (tree ds) ≡ part s r ++ ds)
      → (z : ℤ) → end_plan_text s (unsigned_plan r None z None) ≡ map_o print (map_o tree (unsigned_digits z))
  unfolding held written_sign
  unsigned_text tree print r p (negsuc v) = refl
  unsigned_text tree print r p (pos v) = end_text r None (pos v) None ∙ go (fits Unsigned v) refl
    where
      go : (t : Bool) → fits Unsigned v ≡ t → cond (fits Unsigned v && true) (some (part s r ++ (dec v ++ []))) none ≡ map_o print (map_o tree (unsigned_digits (pos v)))
      go true q = rw (q, p (dec v), append-nil (dec v))
      go false q = rw q

  known_text : (z : ℤ) → end_plan_text s (unsigned_plan no_span None z None) ≡ map_o print_genomic (canon_genomic (some z))
  known_text = unsigned_text known print_genomic no_span (λ ds. rw (no_part s))

  unknown_text : end_plan_text s (Some unknown_end) ≡ some (ascii "?")
  unfolding position_text
  unknown_text = rw (no_part s)

  residual_text : (aa : Span) (z : ℤ) → end_plan_text s (residual_plan s aa z) ≡ map_o (print_position Prot) (canon_position Prot (prot_pos_v (part s aa) z))
  residual_text aa z = go (is_residue (part s aa)) refl
    where
      go : (t : Bool) → is_residue (part s aa) ≡ t → end_plan_text s (residual_plan s aa z) ≡ map_o (print_position Prot) (canon_position Prot (prot_pos_v (part s aa) z))
      go true e = rw e (unsigned_text (residual (part s aa)) print_residual aa (λ ds. refl) z)
      go false e = rw e

  genome_text : (t : Bool) (z : ℤ) → end_plan_text s (genomic_plan t z) ≡ map_o print_genomic (canon_position Genome (cond t None (Some z)))
  genome_text true z = unknown_text
  genome_text false z = known_text z

  mt_text : (t : Bool) (z : ℤ) → end_plan_text s (genomic_plan t z) ≡ map_o print_genomic (canon_position Mt (cond t None (Some z)))
  mt_text true z = unknown_text
  mt_text false z = known_text z

  pub position_text_lem : (k : Kind) (p : Position) → end_plan_text s (position_plan s k p) ≡ map_o (print_position k) (canon_position k (position_content s k (position_for k p)))
  position_text_lem Cds p = from_text p.cds_from p.number p.offset
  position_text_lem Genome p = genome_text p.unknown p.number
  position_text_lem Mt p = mt_text p.unknown p.number
  position_text_lem Tx p = from_text Start p.number p.offset
  position_text_lem Prot p = residual_text p.aa p.number
  position_text_lem Rna p = from_text Start p.number p.offset

-- ---- locations: over whatever positions, with plans for both ends and what canon gives for them
abbrev pub mu_of : {A : Type 0} → Bool → A → Mu A
mu_of true a = certain a
mu_of false a = uncertain a

module _ (s : List ℕ) {A : Type 0} (print : A → List ℕ) (is_certain : Bool) where
  abbrev canon_text : Option (Interval A) → Option (List ℕ)
  canon_text o = map_o (print_mu (print_interval print)) (map_o (mu_of is_certain) o)

  one_text : (x : PositionPlan) (o : Option A) → end_plan_text s x ≡ map_o print o → plan_text s (location_plan is_certain x None (Some no_end)) ≡ canon_text (map_o one o)
  unfolding location_text
  one_text None none e = refl
  one_text None (some a) e = absurd (none_some e)
  one_text (Some x) none e = absurd (none_some (sym e))
  one_text (Some x) (some a) e = let j : position_text s x ≡ print a = cc in rw (no_end_lem s, j) (ap some (go is_certain))
    where
      go : (t : Bool) → byte_text (bracket_mark t (code "(")) ++ (print a ++ byte_text (bracket_mark t (code ")"))) ≡ print_mu (print_interval print) (mu_of t (one a))
      go true = append-nil (print a)
      go false = refl

  two_text : (x y : PositionPlan) (o u : Option A) → end_plan_text s x ≡ map_o print o → end_plan_text s y ≡ map_o print u
      → plan_text s (location_plan is_certain x (Some (code "_")) y) ≡ canon_text (both_o two o u)
  unfolding location_text
  two_text None y none u e f = refl
  two_text None y (some a) u e f = absurd (none_some e)
  two_text (Some x) y none u e f = absurd (none_some (sym e))
  two_text (Some x) None (some a) none e f = refl
  two_text (Some x) None (some a) (some b) e f = absurd (none_some f)
  two_text (Some x) (Some y) (some a) none e f = absurd (none_some (sym f))
  two_text (Some x) (Some y) (some a) (some b) e f =
      let i : position_text s x ≡ print a = cc in
      let j : position_text s y ≡ print b = cc in
      rw (i, j) (ap some (go is_certain))
    where
      go : (t : Bool) → byte_text (bracket_mark t (code "(")) ++ (print a ++ (code "_" ∷ (print b ++ byte_text (bracket_mark t (code ")"))))) ≡ print_mu (print_interval print) (mu_of t (two a b))
      go true = rw (append-nil (print b))
      go false = ap (λ (x : List ℕ). code "(" ∷ x) (sym (append_assoc (print a) (ascii "_" ++ print b) (ascii ")")))

  ends_text : (is_one : Bool) (x y : PositionPlan) (o u : Option A) → end_plan_text s x ≡ map_o print o → end_plan_text s y ≡ map_o print u
      → plan_text s (cond is_one (location_plan is_certain x None (Some no_end)) (location_plan is_certain x (Some (code "_")) y)) ≡ canon_text (cond is_one (map_o one o) (both_o two o u))
  ends_text true x y o u e f = one_text x o e
  ends_text false x y o u e f = two_text x y o u e f

module _ (s : List ℕ) where
  location_content_lem : (k : Kind) (t : Bool) (a b : PositionR k) → location_content s k (mu_for k t a b) ≡ mu_of t (both (position_content s k a) (position_content s k b))
  location_content_lem Cds true a b = refl
  location_content_lem Cds false a b = refl
  location_content_lem Genome true a b = refl
  location_content_lem Genome false a b = refl
  location_content_lem Mt true a b = refl
  location_content_lem Mt false a b = refl
  location_content_lem Tx true a b = refl
  location_content_lem Tx false a b = refl
  location_content_lem Prot true a b = refl
  location_content_lem Prot false a b = refl
  location_content_lem Rna true a b = refl
  location_content_lem Rna false a b = refl

  location_canon_lem : (k : Kind) (t : Bool) (v w : PositionV k)
      → (location_canon k).canon (mu_of t (both v w)) ≡ map_o (mu_of t) (cond (eq_position k v w) (map_o one (canon_position k v)) (both_o two (canon_position k v) (canon_position k w)))
  location_canon_lem k true v w = refl
  location_canon_lem k false v w = refl

  -- what is planned is the canonical text
  pub planned : (k : Kind) (l : Location) → plan_text s (plan_location s k l) ≡ map_o (print_location k) ((location_canon k).canon (location_content s k (location_for k l)))
  unfolding plan_location same_position
  planned k l =
      let v = position_content s k (position_for k l.start) in
      let w = position_content s k (position_for k l.end) in
      rw (location_content_lem k l.certain (position_for k l.start) (position_for k l.end), location_canon_lem k l.certain v w)
      (ends_text s (print_position k) l.certain (eq_position k v w) (position_plan s k l.start) (position_plan s k l.end) (canon_position k v) (canon_position k w) (position_text_lem s k l.start) (position_text_lem s k l.end))

  -- and of a record's location
  pub planned_record : (k : Kind) (l : MuIntervalR k) → plan_text s (plan_location s k (any_location k l)) ≡ map_o (print_location k) ((location_canon k).canon (location_content s k l))
  planned_record k l = planned k (any_location k l) ∙ rw (any_location_lem k l)
