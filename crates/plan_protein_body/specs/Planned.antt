-- The text of a planned protein body is that of its canonical tree; and there is none where it has none.
use Rattle.std.specs.Prelude.{ℕ, ◌≡◌, Bool, ◌&&◌, None, Some}
use Rattle.std.proofs.Math.Path.{refl}
use Rattle.std.proofs.Common.{sym, ap, ◌∙◌}
use mathlib.Core.List.{List, [], ◌++◌, append-nil, append_assoc}
use Rattle.std.proofs.Math.Option.{Option, none, some}
use Rattle.std.proofs.Math.Bool.{true, false}
use Rattle.texts.specs.Ascii.{ascii}
use Rattle.texts.proofs.Tests.{none_some, and-true}
use Rattle.texts.specs.Words.{same}
use Rattle.texts.proofs.Words.{same_true}
use Rattle.numerals.specs.Digits.{dec_up_to}
use Rattle.record.specs.declared.Span.{Span}
use Rattle.record.specs.declared.Kind.TheVariants.{Prot}
use Rattle.record.specs.declared.ProteinEdit.{ProteinEdit}
use Rattle.record.specs.declared.MuProteinEdit.TheVariants as MuPr
use Rattle.record.specs.declared.MuProtInterval.TheVariants as MuProt
use Rattle.record.specs.declared.ProtLocEdit.{ProtLocEdit}
use Rattle.record.specs.declared.ProtLocEdit.TheVariants as Bodies
use Rattle.grammar.specs.Spans.{part}
use Rattle.grammar.specs.Shapes.{Mu.certain, Both.both}
use Rattle.grammar.specs.ProteinEdits as Tree
use Rattle.grammar.specs.ProteinEdits.{ProteinEditTree.subst_unknown, print_protein_edit}
use Rattle.grammar.specs.Bodies.{Ends, print_ends, print_location, print_protein_body}
use Rattle.grammar.specs.Values.{ProtPosV, ProtPosV.prot_pos_v, EndsV, ProteinEditV}
use Rattle.grammar.specs.Contents.{protein_edit_content, prot_body_content}
use Rattle.lang.specs.Canon.{map_o, both_o}
use Rattle.lang_locations.proofs.Canonical.{ends_canon}
use Rattle.lang_protein_edits.proofs.Canonical.{protein_edit_canon}
use Rattle.lang_canon.specs.ProteinBodyCanon.{barred, is_met1, inner, joined, met01, canon_ordinary, canon_protein_body}
use Rattle.any_location.specs.declared.Position.{Position}
use Rattle.any_location.specs.declared.Location.{Location}
use Rattle.any_location.specs.OfRecord.{any_location}
use Rattle.emit_piece.specs.Texts.{byte_text}
use Rattle.emit_location.specs.Texts.{position_text, location_text}
use Rattle.emit_edit.specs.Texts.{edit_text}
use Rattle.emit_location.specs.LocationLengths.{no_end_lem}
use Rattle.emit_word.specs.declared.Word.{Word}
use Rattle.emit_word.specs.declared.Word.TheVariants.{Equal, Question, Met1, NoProtein, NoProteinUncertain, NoChangeUncertain}
use Rattle.emit_piece.specs.Named.{OneByte}
use Rattle.emit_location.specs.declared.LocationPieces.{LocationPieces}
use Rattle.emit_edit.specs.declared.EditPieces.{EditPieces}
use Rattle.emit_word.specs.Words.{word_text}
use Rattle.plan_edits.specs.EditPlans as R
use Rattle.plan_edits.specs.EditPlans.{word_alone}
use Rattle.plan_edits.specs.PlanTexts.{word_alone_lem}
use Rattle.plan_edits.specs.Named.{EditPlan}
use Rattle.emit_draft.specs.Texts.{body_text}
use Rattle.any_location_same.specs.Same.{same_position}
use Rattle.plan_location.specs.Named.{PositionPlan, LocationPlan}
use Rattle.plan_location.specs.Plan.{location_plan, position_plan, plan_location}
use Rattle.plan_location.specs.Planned as L
use Rattle.plan_location.specs.Planned.{mu_of}
use Rattle.plan_protein_edit.specs.Plan.{plan_protein_edit}
use Rattle.plan_protein_edit.specs.Planned as E
use Rattle.plan_na_body.specs.Planned.{plan_text}
use Rattle.plan_met1.specs.Met1.{met01_location, is_alike, is_met_one, is_unknown_edit, is_barred}
use Rattle.plan_protein_body.specs.Plan.{body_of, together_plan, word_body, plan_ordinary, plan_protein_body}

-- ---- lists: the parts of a body one behind the other
flat : (x y z r : List ℕ) → (x ++ (y ++ (z ++ []))) ++ (r ++ []) ≡ (x ++ (y ++ z)) ++ r
flat x y z r = simp (append-nil, append_assoc) refl

flat_edit : (x y z r : List ℕ) → (x ++ (y ++ (z ++ []))) ++ (ascii "(" ++ (r ++ ascii ")")) ≡ (x ++ (y ++ z)) ++ (ascii "(" ++ (r ++ ascii ")"))
flat_edit x y z r = simp (append-nil, append_assoc) refl

flat_location : (x y z r : List ℕ) → (ascii "(" ++ (x ++ (y ++ (z ++ ascii ")")))) ++ (r ++ []) ≡ (ascii "(" ++ ((x ++ (y ++ z)) ++ ascii ")")) ++ r
flat_location x y z r = simp (append-nil, append_assoc) refl

flat_both : (x y z r : List ℕ) → (ascii "(" ++ (x ++ (y ++ (z ++ [])))) ++ (r ++ ascii ")") ≡ ascii "(" ++ (((x ++ (y ++ z)) ++ r) ++ ascii ")")
flat_both x y z r = simp (append-nil, append_assoc) refl

module _ (s : List ℕ) where
  -- ---- location and edit
  abbrev bare_text : LocationPieces → List ℕ
  bare_text p = position_text s p.start ++ (byte_text p.joint ++ position_text s p.end)

  body_text_lem : (isLocated is_certain : Bool) (p : LocationPieces) (pieces : EditPieces) (i : EndsV Prot) (v : ProteinEditV) (a : Ends Prot) (b : Tree.ProteinEditTree) → bare_text p ≡ print_ends Prot a → edit_text s pieces ≡ print_protein_edit b
      → body_text s (body_of isLocated is_certain p pieces) ≡ print_protein_body (joined (mu_of isLocated i) (mu_of is_certain v) a b)
  unfolding body_text location_text
  body_text_lem true true p pieces i v a b e f = rw (← e, ← f) (flat (position_text s p.start) (byte_text p.joint) (position_text s p.end) (edit_text s pieces))
  body_text_lem true false p pieces i v a b e f = rw (← e, ← f) (flat_edit (position_text s p.start) (byte_text p.joint) (position_text s p.end) (edit_text s pieces))
  body_text_lem false true p pieces i v a b e f = rw (← e, ← f) (flat_location (position_text s p.start) (byte_text p.joint) (position_text s p.end) (edit_text s pieces))
  body_text_lem false false p pieces i v a b e f = rw (← e, ← f) (flat_both (position_text s p.start) (byte_text p.joint) (position_text s p.end) (edit_text s pieces))

  -- ---- the ends of a location, without its brackets
  abbrev plan_bare : LocationPlan → Option (List ℕ)
  plan_bare None = none
  plan_bare (Some p) = some (bare_text p)

  bare_location : (is_certain : Bool) (x : PositionPlan) (m : OneByte) (y : PositionPlan) → plan_bare (location_plan is_certain x m y) ≡ L.plan_text s (location_plan true x m y)
  unfolding location_text
  bare_location is_certain None m y = refl
  bare_location is_certain (Some e) m None = refl
  bare_location is_certain (Some e) m (Some f) = rw (append-nil (position_text s f))

  abbrev surely : Location → Location
  surely l = record { certain = true; start = l.start; end = l.end }

  bare_certain : (l : Location) → plan_bare (plan_location s Prot l) ≡ L.plan_text s (plan_location s Prot (surely l))
  unfolding plan_location
  bare_certain l = go (same_position s Prot l.start l.end) refl
    where
      go : (t : Bool) → same_position s Prot l.start l.end ≡ t → plan_bare (plan_location s Prot l) ≡ L.plan_text s (plan_location s Prot (surely l))
      go true e = rw (e, plan_location) (bare_location l.certain (position_plan s Prot l.start) _ _)
      go false e = rw (e, plan_location) (bare_location l.certain (position_plan s Prot l.start) _ (position_plan s Prot l.end))

  abbrev residue_at : Position → ProtPosV
  residue_at p = prot_pos_v (part s p.aa) p.number

  abbrev ends_of : Location → EndsV Prot
  ends_of l = both (residue_at l.start) (residue_at l.end)

  without_brackets : (o : Option (Ends Prot)) → map_o (print_location Prot) (map_o certain o) ≡ map_o (print_ends Prot) o
  without_brackets none = refl
  without_brackets (some a) = refl

  bare_planned : (l : Location) → plan_bare (plan_location s Prot l) ≡ map_o (print_ends Prot) ((ends_canon Prot).canon (ends_of l))
  bare_planned l = bare_certain l ∙ L.planned s Prot (surely l) ∙ without_brackets ((ends_canon Prot).canon (ends_of l))

  together_text : (isLocated is_certain : Bool) (i : EndsV Prot) (v : ProteinEditV) (x : LocationPlan) (y : EditPlan) (o : Option (Ends Prot)) (u : Option Tree.ProteinEditTree) → plan_bare x ≡ map_o (print_ends Prot) o → R.plan_text s y ≡ map_o print_protein_edit u
      → plan_text s (together_plan isLocated is_certain x y) ≡ map_o print_protein_body (both_o (joined (mu_of isLocated i) (mu_of is_certain v)) o u)
  together_text l c i v None y none u e f = refl
  together_text l c i v None y (some a) u e f = absurd (none_some e)
  together_text l c i v (Some p) y none u e f = absurd (none_some (sym e))
  together_text l c i v (Some p) None (some a) none e f = refl
  together_text l c i v (Some p) None (some a) (some b) e f = absurd (none_some f)
  together_text l c i v (Some p) (Some pieces) (some a) none e f = absurd (none_some (sym f))
  together_text l c i v (Some p) (Some pieces) (some a) (some b) e f =
      let g : bare_text p ≡ print_ends Prot a = cc in
      let h : edit_text s pieces ≡ print_protein_edit b = cc in
      ap some (body_text_lem l c p pieces i v a b g h)

  -- ---- the Met-1 `?` record
  barred_is : (isLocated is_certain : Bool) (i : EndsV Prot) (v : ProteinEditV) → barred (mu_of isLocated i) (mu_of is_certain v) ≡ is_alike isLocated is_certain && is_met1 i v
  barred_is true true i v = refl
  barred_is true false i v = refl
  barred_is false true i v = refl
  barred_is false false i v = refl

  inner_is : {A : Type 0} (is_certain : Bool) (a : A) → inner (mu_of is_certain a) ≡ a
  inner_is true a = refl
  inner_is false a = refl

  barred_met : (l : Location) (is_certain : Bool) (e : ProteinEdit) → barred (mu_of l.certain (ends_of l)) (mu_of is_certain (protein_edit_content s e)) ≡ is_barred s l is_certain e
  unfolding is_barred
  barred_met l t e = barred_is l.certain t (ends_of l) (protein_edit_content s e)

  met01_text : (aa : Span) → part s aa ≡ ascii "Met" → bare_text (met01_location aa) ≡ print_ends Prot met01
  unfolding position_text dec_up_to
  met01_text aa e = rw (no_end_lem s, e)

  met_residue : (l : Location) (is_certain : Bool) (e : ProteinEdit) → is_barred s l is_certain e ≡ true → part s l.start.aa ≡ ascii "Met"
  unfolding is_barred
  met_residue l t e h =
      let a = and-true (is_alike l.certain t) (is_met_one s l.start && (is_met_one s l.end && is_unknown_edit s e)) h in
      let b = and-true (is_met_one s l.start) (is_met_one s l.end && is_unknown_edit s e) a.1 in
      let c = and-true (same (part s l.start.aa) (ascii "Met")) _ b.0 in
      same_true (part s l.start.aa) (ascii "Met") c.0

  ordinary_planned : (l : Location) (is_certain : Bool) (e : ProteinEdit)
      → plan_text s (plan_ordinary s l is_certain e) ≡ map_o print_protein_body (canon_ordinary (mu_of l.certain (ends_of l)) (mu_of is_certain (protein_edit_content s e)))
  unfolding plan_ordinary
  ordinary_planned l t e = go (is_barred s l t e) refl
    where
      i : EndsV Prot
      i = ends_of l

      v : ProteinEditV
      v = protein_edit_content s e

      go : (b : Bool) → is_barred s l t e ≡ b → plan_text s (plan_ordinary s l t e) ≡ map_o print_protein_body (canon_ordinary (mu_of l.certain i) (mu_of t v))
      go true h = rw (h, plan_ordinary, barred_met l t e ∙ h)
          (ap some (body_text_lem l.certain t (met01_location l.start.aa) (word_alone Question) i v met01 subst_unknown (met01_text l.start.aa (met_residue l t e h)) (word_alone_lem s Question)))
      go false h = rw (h, plan_ordinary, barred_met l t e ∙ h, inner_is l.certain i, inner_is t v)
          (together_text l.certain t i v (plan_location s Prot l) (plan_protein_edit s e) ((ends_canon Prot).canon i) (protein_edit_canon.canon v) (bare_planned l) (E.planned s e))

  -- ---- bodies
  word_body_lem : (word : Word) → plan_text s (word_body word) ≡ some (word_text word)
  unfolding body_text location_text
  word_body_lem word = rw (no_end_lem s, word_alone_lem s word, append-nil (word_text word))

  pub planned_protein : (b : ProtLocEdit) → plan_text s (plan_protein_body s b) ≡ map_o print_protein_body (canon_protein_body (prot_body_content s b))
  planned_protein (Bodies.Ordinary (MuProt.Certain i) (MuPr.Certain e)) = ordinary_planned (any_location Prot (MuProt.Certain i)) true e
  planned_protein (Bodies.Ordinary (MuProt.Certain i) (MuPr.Uncertain e)) = ordinary_planned (any_location Prot (MuProt.Certain i)) false e
  planned_protein (Bodies.Ordinary (MuProt.Uncertain i) (MuPr.Certain e)) = ordinary_planned (any_location Prot (MuProt.Uncertain i)) true e
  planned_protein (Bodies.Ordinary (MuProt.Uncertain i) (MuPr.Uncertain e)) = ordinary_planned (any_location Prot (MuProt.Uncertain i)) false e
  planned_protein Bodies.NoChange = word_body_lem Equal
  planned_protein Bodies.NoChangeUncertain = word_body_lem NoChangeUncertain
  planned_protein Bodies.NoProtein = word_body_lem NoProtein
  planned_protein Bodies.NoProteinUncertain = word_body_lem NoProteinUncertain
  planned_protein Bodies.Unknown = word_body_lem Question
  planned_protein Bodies.InitiationUncertain = word_body_lem Met1
