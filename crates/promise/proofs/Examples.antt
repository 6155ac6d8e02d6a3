-- Document 01's tables row by row: the number and place of each answer, reference-free edits, widths at the edges.
use Rattle.std.specs.Prelude.{ℕ, refl, List, [], ◌∷◌, Ok}
use Rattle.texts.specs.Words.{same}
use Rattle.texts.specs.Tables.{Each}
use Rattle.texts.proofs.Tables.{Agree, agreed}
use Rattle.record.specs.declared.MuCdsInterval.TheVariants as MuCds
use Rattle.record.specs.declared.MuGenomeInterval.TheVariants as MuGenome
use Rattle.record.specs.declared.MuMtInterval.TheVariants as MuMt
use Rattle.record.specs.declared.MuTxInterval.TheVariants as MuTx
use Rattle.record.specs.declared.MuRnaInterval.TheVariants as MuRna
use Rattle.record.specs.declared.MuProtInterval.TheVariants as MuProt
use Rattle.record.specs.declared.MuNaEdit.TheVariants as MuNa
use Rattle.record.specs.declared.MuProteinEdit.TheVariants as MuPr
use Rattle.record.specs.declared.Body.TheVariants as Bo
use Rattle.record.specs.declared.HgvsVariant.{HgvsVariant}
use Rattle.record.specs.declared.Refusal.{Refusal}
use Rattle.record.specs.declared.Refusal.TheVariants.{TooLong, NotInGrammar, DoesNotFit, BadSpan, NoText, NoRoom, NoWidth, BadLine}
use Rattle.promise.specs.Outcome.{refusal_outcome, read_outcome, write_outcome, width_outcome}
use Rattle.promise.specs.Width.{width_between}
use Rattle.promise.specs.Examples.{told, values, no_refs, widths}

-- of an accepted record v, and a misfit at a place
module _ (v : HgvsVariant) (place : ℕ) where
  abbrev refused_with : Refusal → ℕ × ℕ
  refused_with r = told {A = HgvsVariant} (refusal_outcome r)

  abbrev pub outcomes : List ((ℕ × ℕ) × (ℕ × ℕ))
  outcomes =
      (told (read_outcome (Ok v)), (0, 0)) ∷
      (told (write_outcome (Ok 15)), (0, 0)) ∷
      (told (width_outcome (Ok 3)), (0, 0)) ∷
      (refused_with TooLong, (1, 0)) ∷
      (refused_with NotInGrammar, (2, 0)) ∷
      (refused_with (DoesNotFit place), (3, place)) ∷
      (refused_with BadSpan, (4, 0)) ∷
      (refused_with NoText, (5, 0)) ∷
      (refused_with NoRoom, (6, 0)) ∷
      (refused_with NoWidth, (7, 0)) ∷
      (refused_with BadLine, (8, 0)) ∷
      []

  pub outcomes_agree : Each Agree outcomes
  outcomes_agree = agreed outcomes refl

pub values_agree : Each Agree values
values_agree = agreed values refl

pub no_refs_agree : Each Agree no_refs
unfolding same
no_refs_agree = agreed no_refs refl

pub widths_agree : Each Agree widths
unfolding width_between
widths_agree = agreed widths refl
