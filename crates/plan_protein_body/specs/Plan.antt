-- What is to be written for a protein body, where it has a text.
use Rattle.std.specs.Prelude.{ℕ, List, Bool, true, false, cond, not, ◌||◌, None, Some}
use Prim.Native.Char.{code}
use Rattle.record.specs.declared.Kind.TheVariants.{Prot}
use Rattle.record.specs.declared.ProteinEdit.{ProteinEdit}
use Rattle.record.specs.declared.MuProteinEdit.{MuProteinEdit}
use Rattle.record.specs.declared.MuProteinEdit.TheVariants as MuPr
use Rattle.record.specs.declared.ProtLocEdit.{ProtLocEdit}
use Rattle.record.specs.declared.ProtLocEdit.TheVariants as Bodies
use Rattle.any_location.specs.declared.Location.{Location}
use Rattle.any_location.specs.OfRecord.{any_location}
use Rattle.emit_location.specs.Texts.{no_end}
use Rattle.emit_word.specs.declared.Word.{Word}
use Rattle.emit_word.specs.declared.Word.TheVariants.{Equal, Question, Met1, NoProtein, NoProteinUncertain, NoChangeUncertain}
use Rattle.emit_location.specs.declared.LocationPieces.{LocationPieces}
use Rattle.emit_edit.specs.declared.EditPieces.{EditPieces}
use Rattle.plan_edits.specs.EditPlans.{word_alone}
use Rattle.plan_edits.specs.Named.{EditPlan}
use Rattle.emit_draft.specs.declared.BodyPieces.{BodyPieces}
use Rattle.plan_location.specs.Named.{LocationPlan}
use Rattle.plan_location.specs.Plan.{bracket_mark, plan_location}
use Rattle.plan_protein_edit.specs.Plan.{plan_protein_edit}
use Rattle.plan_met1.specs.Met1.{lone_location, met01_location, is_barred}
use Rattle.plan_na_body.specs.Named.{BodyPlan}

-- ---- location and edit, in one pair of brackets where both are uncertain
abbrev pub body_of : Bool → Bool → LocationPieces → EditPieces → BodyPieces
body_of isLocated is_certain p pieces = record {
  location = record { opening = bracket_mark isLocated (code "("); start = p.start; joint = p.joint; end = p.end; closing = bracket_mark (isLocated || not is_certain) (code ")") };
  opening = bracket_mark (is_certain || not isLocated) (code "(");
  edit = pieces;
  closing = bracket_mark is_certain (code ")");
}

abbrev pub together_plan : Bool → Bool → LocationPlan → EditPlan → BodyPlan
together_plan isLocated is_certain (Some p) (Some pieces) = Some (body_of isLocated is_certain p pieces)
together_plan isLocated is_certain (Some p) None = None
together_plan isLocated is_certain None pieces = None

-- a word and nothing else
abbrev pub word_body : Word → BodyPlan
word_body word = Some (record { location = lone_location no_end; opening = None; edit = word_alone word; closing = None })

module _ (s : List ℕ) where
  unfoldable pub plan_ordinary : Location → Bool → ProteinEdit → BodyPlan
  plan_ordinary l is_certain e =
      cond (is_barred s l is_certain e)
      (Some (body_of l.certain is_certain (met01_location l.start.aa) (word_alone Question)))
      (together_plan l.certain is_certain (plan_location s Prot l) (plan_protein_edit s e))

  abbrev pub plan_mu_protein : Location → MuProteinEdit → BodyPlan
  plan_mu_protein l (MuPr.Certain e) = plan_ordinary l true e
  plan_mu_protein l (MuPr.Uncertain e) = plan_ordinary l false e

  abbrev pub plan_protein_body : ProtLocEdit → BodyPlan
  plan_protein_body (Bodies.Ordinary l e) = plan_mu_protein (any_location Prot l) e
  plan_protein_body Bodies.NoChange = word_body Equal
  plan_protein_body Bodies.NoChangeUncertain = word_body NoChangeUncertain
  plan_protein_body Bodies.NoProtein = word_body NoProtein
  plan_protein_body Bodies.NoProteinUncertain = word_body NoProteinUncertain
  plan_protein_body Bodies.Unknown = word_body Question
  plan_protein_body Bodies.InitiationUncertain = word_body Met1
