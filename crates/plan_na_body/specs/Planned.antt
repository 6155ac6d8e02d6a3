-- The text of a planned nucleotide body: the canonical text of the changed body, where the body as it came has one.
use Rattle.std.specs.Prelude.{ℕ, ◌≡◌, Bool, true, false, None, Some}
use Prim.Native.Char.{code}
use Rattle.std.proofs.Math.Path.{refl}
use Rattle.std.proofs.Common.{sym, ap, ◌∙◌}
use mathlib.Core.List.{List, ◌++◌, append-nil}
use Rattle.std.proofs.Math.Option.{Option, none, some}
use Rattle.texts.specs.Ascii.{ascii}
use Rattle.texts.proofs.Tests.{none_some}
use Rattle.alphabet.specs.Letters.{nucleotide}
use Rattle.record.specs.declared.Kind.{Kind}
use Rattle.record.specs.declared.NaEdit.{NaEdit}
use Rattle.record.specs.declared.MuNaEdit.{MuNaEdit}
use Rattle.record.specs.declared.MuNaEdit.TheVariants as MuNa
use Rattle.record.specs.declared.Wording.{Wording}
use Rattle.record.specs.declared.Wording.TheVariants.{Shortest, NoRef}
use Rattle.grammar.specs.NucleotideEdits as Tree
use Rattle.grammar.specs.NucleotideEdits.{print_na_edit}
use Rattle.grammar.specs.Shapes.{Mu.certain, Mu.uncertain, Both.both}
use Rattle.grammar.specs.Bodies.{LocationTree, print_location, print_na_body}
use Rattle.grammar.specs.Records.{MuIntervalR}
use Rattle.grammar.specs.Contents.{location_content, na_edit_content, mu_na_edit_content}
use Rattle.lang.specs.Canon.{map_o, both_o, if_some}
use Rattle.lang.proofs.Canon.{if_same, if_map, if_both}
use Rattle.lang_locations.proofs.Canonical.{location_canon}
use Rattle.lang_na_edits.proofs.Alphabet.{nucleotides}
use Rattle.lang_na_edits.specs.Canon.{canon_na_edit}
use Rattle.any_location.specs.OfRecord.{any_location}
use Rattle.emit_piece.specs.Texts.{byte_text}
use Rattle.emit_edit.specs.Texts.{edit_text}
use Rattle.emit_location.specs.Texts.{location_text}
use Rattle.emit_edit.specs.declared.EditPieces.{EditPieces}
use Rattle.plan_edits.specs.Named.{EditPlan}
use Rattle.plan_edits.specs.EditPlans as R
use Rattle.emit_draft.specs.Texts.{body_text}
use Rattle.lang_canon.specs.Changes.{no_ref_na_edit, changed_na_edit}
use Rattle.lang_canon.proofs.NoRefCanon.{no_ref_edit_lem}
use Rattle.lang_canon.specs.Wording.{worded_na_edit, worded_na_body}
use Rattle.plan_location.specs.Named.{LocationPlan}
use Rattle.plan_location.specs.Plan.{bracket_mark, plan_location}
use Rattle.plan_location.specs.Planned as L
use Rattle.plan_location.specs.Planned.{mu_of}
use Rattle.plan_na_edit.specs.Plan.{plan_na_edit}
use Rattle.plan_no_ref.specs.NoRef.{no_ref_pieces, no_ref_text}
use Rattle.plan_na_edit.specs.Planned as E
use Rattle.plan_na_body.specs.Named.{BodyPlan}
use Rattle.plan_na_body.specs.Plan.{joined_plan, replaced_pieces, na_pieces, plan_na_body}

-- a text in brackets where it is not certain
abbrev pub wrapped : Bool → List ℕ → List ℕ
wrapped true t = t
wrapped false t = ascii "(" ++ (t ++ ascii ")")

bracketed : (is_certain : Bool) (t : List ℕ) → byte_text (bracket_mark is_certain (code "(")) ++ (t ++ byte_text (bracket_mark is_certain (code ")"))) ≡ wrapped is_certain t
bracketed true t = append-nil t
bracketed false t = refl

-- a body's text is that of its location and its edit
body_is : (is_certain : Bool) (k : Kind) (o : Option (LocationTree k)) (u : Option Tree.NaEditTree) → both_o (λ a b. print_location k a ++ wrapped is_certain (print_na_edit b)) o u ≡ map_o (print_na_body k) (both_o both o (map_o (mu_of is_certain) u))
body_is c k none u = refl
body_is c k (some a) none = refl
body_is true k (some a) (some b) = refl
body_is false k (some a) (some b) = refl

-- beside one location, the changed edit in its brackets
beside : {A B C : Type 0} (f : A → B → C) (g : Tree.NaEditTree → B) (x : Option A) (o u : Option Tree.NaEditTree) → if_some (both_o f x (map_o g o)) (both_o f x (map_o g u)) ≡ both_o f x (map_o g (if_some o u))
beside f g x o u = if_both f x (map_o g o) (map_o g u) ∙ ap (both_o f x) (if_map g o u)

module _ (s : List ℕ) where
  abbrev pub plan_text : BodyPlan → Option (List ℕ)
  plan_text None = none
  plan_text (Some b) = some (body_text s b)

  -- location beside edit, over whatever trees
  joined_text : {A B : Type 0} (f : A → List ℕ) (g : B → List ℕ) (is_certain : Bool) (x : LocationPlan) (y : EditPlan) (o : Option A) (u : Option B) → L.plan_text s x ≡ map_o f o → R.plan_text s y ≡ map_o g u
      → plan_text (joined_plan is_certain x y) ≡ both_o (λ a b. f a ++ wrapped is_certain (g b)) o u
  unfolding body_text
  joined_text f g t None y none u e h = refl
  joined_text f g t None y (some a) u e h = absurd (none_some e)
  joined_text f g t (Some p) y none u e h = absurd (none_some (sym e))
  joined_text f g t (Some p) None (some a) none e h = refl
  joined_text f g t (Some p) None (some a) (some b) e h = absurd (none_some h)
  joined_text f g t (Some p) (Some pieces) (some a) none e h = absurd (none_some (sym h))
  joined_text f g t (Some p) (Some pieces) (some a) (some b) e h =
      let i : location_text s p ≡ f a = cc in
      let j : edit_text s pieces ≡ g b = cc in
      rw (i, j) (ap (λ (w : List ℕ). some (f a ++ w)) (bracketed t (g b)))

  -- other pieces for an edit that has a text
  replaced_text : (planned : EditPlan) (pieces : EditPieces) (o u : Option Tree.NaEditTree) → R.plan_text s planned ≡ map_o print_na_edit o → ((t : Tree.NaEditTree) → o ≡ some t → map_o print_na_edit u ≡ some (edit_text s pieces)) → R.plan_text s (replaced_pieces planned pieces) ≡ map_o print_na_edit (if_some o u)
  replaced_text None pieces none u e h = refl
  replaced_text None pieces (some t) u e h = absurd (none_some e)
  replaced_text (Some planned) pieces none u e h = absurd (none_some (sym e))
  replaced_text (Some planned) pieces (some t) u e h = sym (h t refl)

  pieces_text : (w : Wording) (e : NaEdit) → R.plan_text s (na_pieces s w e) ≡ map_o print_na_edit (worded_na_edit nucleotide w (na_edit_content s e))
  unfolding na_pieces
  pieces_text Shortest e = rw (if_same (canon_na_edit nucleotide (na_edit_content s e))) (E.planned s e)
  pieces_text NoRef e =
      let v = na_edit_content s e in
      replaced_text (plan_na_edit s e) (no_ref_pieces s e) (canon_na_edit nucleotide v) (canon_na_edit nucleotide (no_ref_na_edit v)) (E.planned s e) (λ t q. rw (no_ref_text s e) (no_ref_edit_lem nucleotide v t q))

  body_text_lem : (w : Wording) (is_certain : Bool) (k : Kind) (l : MuIntervalR k) (e : NaEdit)
      → plan_text (joined_plan is_certain (plan_location s k (any_location k l)) (na_pieces s w e))
      ≡ map_o (print_na_body k) (both_o both ((location_canon k).canon (location_content s k l)) (map_o (mu_of is_certain) (worded_na_edit nucleotide w (na_edit_content s e))))
  body_text_lem w c k l e =
      let o = (location_canon k).canon (location_content s k l) in
      let u = worded_na_edit nucleotide w (na_edit_content s e) in
      joined_text (print_location k) print_na_edit c (plan_location s k (any_location k l)) (na_pieces s w e) o u (L.planned_record s k l) (pieces_text w e) ∙ body_is c k o u

  -- what is planned is the canonical text of the changed body; and nothing where the body as it came has none
  pub planned_na : (w : Wording) (k : Kind) (l : MuIntervalR k) (e : MuNaEdit)
      → plan_text (plan_na_body s w k (any_location k l) e) ≡ map_o (print_na_body k) (worded_na_body nucleotide nucleotides w k (both (location_content s k l) (mu_na_edit_content s e)))
  planned_na w k l (MuNa.Certain e) =
      let v = na_edit_content s e in
      rw (beside both certain ((location_canon k).canon (location_content s k l)) (canon_na_edit nucleotide v) (canon_na_edit nucleotide (changed_na_edit w v))) (body_text_lem w true k l e)
  planned_na w k l (MuNa.Uncertain e) =
      let v = na_edit_content s e in
      rw (beside both uncertain ((location_canon k).canon (location_content s k l)) (canon_na_edit nucleotide v) (canon_na_edit nucleotide (changed_na_edit w v))) (body_text_lem w false k l e)
