-- The pieces to be written for a protein edit: the cases of its canonical tree, with spans for residues and terminals.
use Rattle.std.specs.Prelude.{ℕ, List, Some}
use Rattle.residue.specs.Residues.{is_residues}
use Rattle.record.specs.declared.Span.{Span}
use Rattle.record.specs.declared.ProteinEdit.{ProteinEdit}
use Rattle.record.specs.declared.ProteinEdit.TheVariants as Pr
use Rattle.grammar.specs.Spans.{part}
use Rattle.emit_word.specs.declared.Word.{Word}
use Rattle.emit_word.specs.declared.Word.TheVariants.{Empty, Del, Ins, DelIns, Dup, Equal}
use Rattle.emit_piece.specs.Texts.{no_span}
use Rattle.plan_edits.specs.Named.{EditPlan}
use Rattle.plan_edits.specs.EditPlans.{edit_if, letters_edit, word_edit, word_alone}
use Rattle.plan_protein_tests.specs.Tests.{is_subst}
use Rattle.plan_protein_ends.specs.EndPlans.{plan_fs, plan_ext}

module _ (s : List ℕ) where
  abbrev pub plan_subst : Span → EditPlan
  plan_subst p = edit_if (is_subst s p) (letters_edit p Empty no_span)

  abbrev pub plan_residues : Word → Span → EditPlan
  plan_residues word p = edit_if (is_residues (part s p)) (word_edit word p)

  abbrev pub plan_protein_edit : ProteinEdit → EditPlan
  plan_protein_edit (Pr.Fs r t n) = plan_fs s r t n
  plan_protein_edit (Pr.Ext r t n) = plan_ext s r t n
  plan_protein_edit (Pr.Subst p) = plan_subst p
  plan_protein_edit (Pr.DelIns p) = plan_residues DelIns p
  plan_protein_edit (Pr.Ins p) = plan_residues Ins p
  plan_protein_edit Pr.Del = Some (word_alone Del)
  plan_protein_edit Pr.Dup = Some (word_alone Dup)
  plan_protein_edit Pr.Ident = Some (word_alone Equal)
