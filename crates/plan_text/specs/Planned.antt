-- What is planned for a record is the text that is wanted, the canonical text of its changed content; and nothing where no text reads as the record.
use Rattle.std.specs.Prelude.{ℕ, ◌≤◌, ◌≡◌, true, cond, length, None, Some, Ok, Err}
use Rattle.std.proofs.Math.Path.{refl, ap}
use Rattle.std.proofs.Common.{sym}
use mathlib.Core.List.{List, ◌++◌, append-nil, append_assoc}
use Rattle.std.proofs.Math.Option.{Option, none, some}
use Rattle.texts.specs.Ascii.{ascii}
use Rattle.texts.proofs.Tests.{none_some}
use Rattle.record.specs.declared.Span.{Span}
use Rattle.record.specs.Named.{Part}
use Rattle.record.specs.declared.Kind.{Kind}
use Rattle.record.specs.declared.Kind.TheVariants.{Cds, Genome, Mt, Tx, Prot, Rna}
use Rattle.record.specs.declared.Body as Declared
use Rattle.record.specs.declared.Body.TheVariants as Bo
use Rattle.record.specs.declared.ProtLocEdit.{ProtLocEdit}
use Rattle.record.specs.declared.HgvsVariant.{HgvsVariant}
use Rattle.record.specs.declared.Refusal.{Refusal}
use Rattle.record.specs.declared.Refusal.TheVariants.{NoText}
use Rattle.record.specs.declared.Wording.{Wording}
use Rattle.record.specs.declared.Wording.TheVariants.{Shortest, NoRef}
use Rattle.grammar.specs.Spans.{part, optional_part}
use Rattle.grammar.specs.Shapes.{Both.both}
use Rattle.grammar.specs.Header.{HeaderTree, print_gene, print_header, print_kind}
use Rattle.grammar.specs.Bodies.{BodyTree, print_body, print_protein_body}
use Rattle.grammar.specs.Texts.{Text, Text.text, print, all_letters}
use Rattle.grammar.specs.Values.{HeaderV, BodyV, Value.value}
use Rattle.grammar.specs.Contents.{location_content, mu_na_edit_content, prot_body_content, body_content, header_content, content, spans_inside}
use Rattle.lang.specs.Canon.{map_o, both_o}
use Rattle.lang.proofs.Canon.{map_some, if_same}
use Rattle.lang_na_edits.proofs.Alphabet.{alphabets}
use Rattle.lang_headers.proofs.Canonical.{canon_header}
use Rattle.promise.specs.Outcome.{limit}
use Rattle.promise.specs.Writing.{Sound, Unsound}
use Rattle.any_body.specs.AnyBodies.{any_body}
use Rattle.lang_canon.specs.ProteinBodyCanon.{canon_protein_body}
use Rattle.lang_canon.proofs.TextCanon.{text_some}
use Rattle.lang_canon.specs.Wording.{Wanted}
use Rattle.lang_canon.proofs.Wording.{worded_body, worded_text, text_parts, worded_some, worded_none}
use Rattle.emit_piece.specs.PartLengths.{no_part}
use Rattle.emit_draft.specs.declared.Heading.{Heading}
use Rattle.emit_draft.specs.declared.Draft.{Draft}
use Rattle.emit_draft.specs.Texts.{heading_text, body_text, draft_text}
use Rattle.plan_header.specs.HeaderText.{is_some, header_text}
use Rattle.plan_header.specs.Headings.{heading_with, heading_of}
use Rattle.plan_na_body.specs.Named.{BodyPlan}
use Rattle.plan_na_body.specs.Planned as BodyPlans
use Rattle.plan_na_body.specs.Planned.{planned_na}
use Rattle.plan_protein_body.specs.Plan.{plan_protein_body}
use Rattle.plan_protein_body.specs.Planned.{planned_protein}
use Rattle.plan_text.specs.Named.{TextPlan}
use Rattle.plan_text.specs.Plan.{any_kind, drafted_plan, plan_any, text_plan}

abbrev kind_of : Declared.Body → Kind
kind_of (Bo.Cds b) = Cds
kind_of (Bo.Genome b) = Genome
kind_of (Bo.Mt b) = Mt
kind_of (Bo.Tx b) = Tx
kind_of (Bo.Prot b) = Prot
kind_of (Bo.Rna b) = Rna

kind_is : (b : Declared.Body) → any_kind (any_body b) ≡ kind_of b
kind_is (Bo.Cds b) = refl
kind_is (Bo.Genome b) = refl
kind_is (Bo.Mt b) = refl
kind_is (Bo.Tx b) = refl
kind_is (Bo.Prot b) = refl
kind_is (Bo.Rna b) = refl

unprinted : (o : Option Text) → none ≡ map_o print o → o ≡ none
unprinted none e = refl
unprinted (some x) e = absurd (none_some e)

module _ (s : List ℕ) where
  -- ---- the heading
  gene_text : (a k : List ℕ) (gene : Part) (kind : Kind) → print_kind kind ≡ k → (p : Span) → part s p ≡ a → heading_text s (heading_with p gene kind) ≡ (a ++ print_gene (optional_part s gene)) ++ k
  unfolding heading_text
  gene_text a k None kind e p f = rw (no_part s, e, f, append-nil a)
  gene_text a k (Some g) kind e p f = rw (e, f) (go a (part s g) k)
    where
      go : (x y z : List ℕ) → x ++ (ascii "(" ++ (y ++ (ascii ")" ++ z))) ≡ (x ++ (ascii "(" ++ (y ++ ascii ")"))) ++ z
      go x y z = simp append_assoc refl

  -- ---- the body
  abbrev body_value : (b : Declared.Body) → BodyV (kind_of b)
  body_value (Bo.Cds b) = both (location_content s Cds b.loc) (mu_na_edit_content s b.edit)
  body_value (Bo.Genome b) = both (location_content s Genome b.loc) (mu_na_edit_content s b.edit)
  body_value (Bo.Mt b) = both (location_content s Mt b.loc) (mu_na_edit_content s b.edit)
  body_value (Bo.Tx b) = both (location_content s Tx b.loc) (mu_na_edit_content s b.edit)
  body_value (Bo.Prot b) = prot_body_content s b
  body_value (Bo.Rna b) = both (location_content s Rna b.loc) (mu_na_edit_content s b.edit)

  value_is : (h : HeaderV) (b : Declared.Body) → body_content s h b ≡ value h (kind_of b) (body_value b)
  value_is h (Bo.Cds b) = refl
  value_is h (Bo.Genome b) = refl
  value_is h (Bo.Mt b) = refl
  value_is h (Bo.Tx b) = refl
  value_is h (Bo.Prot b) = refl
  value_is h (Bo.Rna b) = refl

  protein_worded : (w : Wording) (b : ProtLocEdit) → BodyPlans.plan_text s (plan_protein_body s b) ≡ map_o print_protein_body (worded_body all_letters alphabets w Prot (prot_body_content s b))
  protein_worded Shortest b = rw (if_same (canon_protein_body (prot_body_content s b))) (planned_protein s b)
  protein_worded NoRef b = rw (if_same (canon_protein_body (prot_body_content s b))) (planned_protein s b)

  module _ (w : Wording) where
    planned_body : (b : Declared.Body) → BodyPlans.plan_text s (plan_any s w (any_body b)) ≡ map_o (print_body (kind_of b)) (worded_body all_letters alphabets w (kind_of b) (body_value b))
    planned_body (Bo.Cds b) = planned_na s w Cds b.loc b.edit
    planned_body (Bo.Genome b) = planned_na s w Genome b.loc b.edit
    planned_body (Bo.Mt b) = planned_na s w Mt b.loc b.edit
    planned_body (Bo.Tx b) = planned_na s w Tx b.loc b.edit
    planned_body (Bo.Prot b) = protein_worded w b
    planned_body (Bo.Rna b) = planned_na s w Rna b.loc b.edit

  -- ---- both
  abbrev plan_text : TextPlan → Option (List ℕ)
  plan_text (Err r) = none
  plan_text (Ok d) = some (draft_text s d)

  module _ (k : Kind) (a : List ℕ) (gene : Option (List ℕ)) (heading : Heading) where
    whole : (o : Option HeaderTree) (p : BodyPlan) (u : Option (BodyTree k)) → map_o print_header o ≡ cond (is_some o) (some (a ++ print_gene gene)) none → heading_text s heading ≡ (a ++ print_gene gene) ++ print_kind k → BodyPlans.plan_text s p ≡ map_o (print_body k) u
        → plan_text (cond (is_some o) (drafted_plan heading p) (Err NoText)) ≡ map_o print (both_o (λ x y. text x k y) o u)
    unfolding draft_text
    whole none p u g i j = refl
    whole (some x) None none g i j = refl
    whole (some x) None (some y) g i j = absurd (none_some j)
    whole (some x) (Some b) none g i j = absurd (none_some (sym j))
    whole (some x) (Some b) (some y) g i j =
        let m : print_header x ≡ a ++ print_gene gene = cc in
        let n : body_text s b ≡ print_body k y = cc in
        ap some (rw (i, n, m) (append_assoc (a ++ print_gene gene) (print_kind k) (print_body k y)))

  module _ (w : Wording) (v : HgvsVariant) where
    planned : plan_text (text_plan s w v.header (any_body v.body)) ≡ map_o print (worded_text all_letters alphabets w (content s v))
    unfolding text_plan
    planned =
        let h = header_content s v.header in
        let k = kind_of v.body in
        let accession = part s v.header.accession in
        let gene = optional_part s v.header.gene_symbol in
        rw (value_is h v.body, kind_is v.body, text_parts all_letters alphabets w h k (body_value v.body))
        (whole k accession gene (heading_of v.header k) (canon_header h) (plan_any s w (any_body v.body)) (worded_body all_letters alphabets w k (body_value v.body)) (header_text s v.header) (gene_text accession (print_kind k) v.header.gene_symbol k refl v.header.accession refl) (planned_body w v.body))

    -- the checks on source and record
    module _ (short : length s ≤ limit) (isIn : spans_inside (length s) v ≡ true) where
      pub unsound_plan : (r : Refusal) → text_plan s w v.header (any_body v.body) ≡ Err r → Unsound all_letters s v 5
      unsound_plan r e = Unsound.no_text short isIn (worded_none all_letters alphabets w (content s v) (unprinted (worded_text all_letters alphabets w (content s v)) (rw e at planned)))

      pub sound_plan : (d : Draft) → text_plan s w v.header (any_body v.body) ≡ Ok d → Sound all_letters s v × Wanted all_letters w (content s v) (draft_text s d)
      sound_plan d e =
          let m = map_some print (worded_text all_letters alphabets w (content s v)) (draft_text s d) (sym (rw e at planned)) in
          let f = worded_some all_letters alphabets w (content s v) m.0 m.1.0 in
          let best = text_some all_letters alphabets (content s v) f.0 f.1.0 in
          (record { short = short; inside = isIn; text = print f.0; reads = best.reads }, rw m.1.1 at f.1.1)
