-- What is to be written for a nucleotide body, where it has a text.
use Rattle.std.specs.Prelude.{ℕ, List, Bool, true, false, None, Some}
use Prim.Native.Char.{code}
use Rattle.record.specs.declared.Kind.{Kind}
use Rattle.record.specs.declared.NaEdit.{NaEdit}
use Rattle.record.specs.declared.MuNaEdit.{MuNaEdit}
use Rattle.record.specs.declared.MuNaEdit.TheVariants as MuNa
use Rattle.record.specs.declared.Wording.{Wording}
use Rattle.record.specs.declared.Wording.TheVariants.{Shortest, NoRef}
use Rattle.any_location.specs.declared.Location.{Location}
use Rattle.emit_location.specs.declared.LocationPieces.{LocationPieces}
use Rattle.emit_edit.specs.declared.EditPieces.{EditPieces}
use Rattle.plan_edits.specs.Named.{EditPlan}
use Rattle.emit_draft.specs.declared.BodyPieces.{BodyPieces}
use Rattle.plan_location.specs.Named.{LocationPlan}
use Rattle.plan_location.specs.Plan.{bracket_mark, plan_location}
use Rattle.plan_na_edit.specs.Plan.{plan_na_edit}
use Rattle.plan_no_ref.specs.NoRef.{no_ref_pieces}
use Rattle.plan_na_body.specs.Named.{BodyPlan}

-- an edit in brackets where it is not certain
abbrev pub beside_body : LocationPieces → Bool → EditPieces → BodyPieces
beside_body p sure pieces = record { location = p; opening = bracket_mark sure (code "("); edit = pieces; closing = bracket_mark sure (code ")") }

abbrev pub joined_plan : Bool → LocationPlan → EditPlan → BodyPlan
joined_plan sure (Some p) (Some pieces) = Some (beside_body p sure pieces)
joined_plan sure (Some p) None = None
joined_plan sure None pieces = None

-- other pieces for an edit that has a text
abbrev pub replaced_pieces : EditPlan → EditPieces → EditPlan
replaced_pieces None pieces = None
replaced_pieces (Some planned) pieces = Some pieces

abbrev pub is_certain : MuNaEdit → Bool
is_certain (MuNa.Certain e) = true
is_certain (MuNa.Uncertain e) = false

abbrev pub edit_of : MuNaEdit → NaEdit
edit_of (MuNa.Certain e) = e
edit_of (MuNa.Uncertain e) = e

module _ (s : List ℕ) where
  unfoldable pub na_pieces : Wording → NaEdit → EditPlan
  na_pieces Shortest e = plan_na_edit s e
  na_pieces NoRef e = replaced_pieces (plan_na_edit s e) (no_ref_pieces s e)

  abbrev pub plan_na_body : Wording → Kind → Location → MuNaEdit → BodyPlan
  plan_na_body w k l e = joined_plan (is_certain e) (plan_location s k l) (na_pieces w (edit_of e))
