-- Which bodies of any kind have every span in a source of n bytes, and that a record has them there where its header and its body have.
use Rattle.std.specs.Prelude.{ℕ, ◌≡◌, refl, Bool, ◌&&◌}
use Rattle.record.specs.declared.Header.{Header}
use Rattle.record.specs.declared.Body.{Body}
use Rattle.record.specs.declared.Body.TheVariants as Bo
use Rattle.record.specs.declared.HgvsVariant.{HgvsVariant}
use Rattle.grammar.specs.Spans.{inside, inside_optional}
use Rattle.grammar.specs.Contents.{mu_na_edit_inside, prot_body_inside, body_inside, spans_inside}
use Rattle.any_body.specs.declared.AnyBody.{AnyBody}
use Rattle.any_body.specs.declared.AnyBody.TheVariants.{Nucleotide, Protein}
use Rattle.any_body.specs.AnyBodies.{any_body}

module _ (n : ℕ) where
  abbrev pub header_inside : Header → Bool
  header_inside h = inside n h.accession && inside_optional n h.gene_symbol

  abbrev pub any_inside : AnyBody → Bool
  any_inside (Nucleotide k l e) = mu_na_edit_inside n e
  any_inside (Protein p) = prot_body_inside n p

  any_inside_lem : (b : Body) → any_inside (any_body b) ≡ body_inside n b
  any_inside_lem (Bo.Cds b) = refl
  any_inside_lem (Bo.Genome b) = refl
  any_inside_lem (Bo.Mt b) = refl
  any_inside_lem (Bo.Tx b) = refl
  any_inside_lem (Bo.Prot b) = refl
  any_inside_lem (Bo.Rna b) = refl

  pub spans_inside_lem : (v : HgvsVariant) → header_inside v.header && any_inside (any_body v.body) ≡ spans_inside n v
  spans_inside_lem v = rw (any_inside_lem v.body)
