-- What is to be written for a header and a body, where they have a text.
use Rattle.std.specs.Prelude.{ℕ, ◌≡◌, List, Bool, cond, None, Some, Ok, Err}
use Rattle.std.proofs.Math.Path.{refl, sym}
use Rattle.std.proofs.Common.{ap, ◌∙◌}
use Rattle.std.proofs.Math.Bool.{true, false}
use Rattle.record.specs.declared.Kind.{Kind}
use Rattle.record.specs.declared.Kind.TheVariants.{Prot}
use Rattle.record.specs.declared.Header.{Header}
use Rattle.record.specs.declared.Refusal.{Refusal}
use Rattle.record.specs.declared.Refusal.TheVariants as Refusals
use Rattle.record.specs.declared.Wording.{Wording}
use Rattle.grammar.specs.Contents.{header_content}
use Rattle.lang_headers.proofs.Canonical.{canon_header}
use Rattle.any_body.specs.declared.AnyBody.{AnyBody}
use Rattle.any_body.specs.declared.AnyBody.TheVariants.{Nucleotide, Protein}
use Rattle.emit_draft.specs.declared.Heading.{Heading}
use Rattle.plan_header.specs.HeaderText.{is_some}
use Rattle.plan_header.specs.Headings.{heading_of}
use Rattle.plan_na_body.specs.Named.{BodyPlan}
use Rattle.plan_na_body.specs.Plan.{plan_na_body}
use Rattle.plan_protein_body.specs.Plan.{plan_protein_body}
use Rattle.plan_text.specs.Named.{TextPlan}

abbrev pub any_kind : AnyBody → Kind
any_kind (Nucleotide k l e) = k
any_kind (Protein b) = Prot

abbrev pub drafted_plan : Heading → BodyPlan → TextPlan
drafted_plan h None = Err Refusals.NoText
drafted_plan h (Some b) = Ok (record { heading = h; body = b })

module _ (s : List ℕ) (w : Wording) where
  abbrev pub plan_any : AnyBody → BodyPlan
  plan_any (Nucleotide k l e) = plan_na_body s w k l e
  plan_any (Protein b) = plan_protein_body s b

  unfoldable pub text_plan : Header → AnyBody → TextPlan
  text_plan h b =
      cond (is_some (canon_header (header_content s h)))
      (drafted_plan (heading_of h (any_kind b)) (plan_any b))
      (Err Refusals.NoText)

  -- the one refusal that is planned
  refusal_of : TextPlan → Refusal
  refusal_of (Err r) = r
  refusal_of (Ok d) = Refusals.NoText

  pub refuses_no_text : (h : Header) (b : AnyBody) (r : Refusal) → text_plan h b ≡ Err r → r ≡ Refusals.NoText
  unfolding text_plan refusal_of
  refuses_no_text h b r e = sym (ap refusal_of e) ∙ go (is_some (canon_header (header_content s h))) (plan_any b)
    where
      go : (x : Bool) (p : BodyPlan) → refusal_of (cond x (drafted_plan (heading_of h (any_kind b)) p) (Err Refusals.NoText)) ≡ Refusals.NoText
      go true None = refl
      go true (Some t) = refl
      go false p = refl
