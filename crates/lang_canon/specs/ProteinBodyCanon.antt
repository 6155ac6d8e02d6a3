-- The canonical text of a protein body. Location and edit are composed; where that would give one of the barred texts `Met1?` and `(Met1?)`, the text with `Met01` is best.
use Rattle.std.specs.Prelude.{ℕ, List, Bool, false, cond, ◌&&◌, pos}
use Rattle.std.proofs.Math.Option.{Option, some}
use Rattle.texts.specs.Ascii.{ascii}
use Rattle.texts.specs.Words.{same}
use Rattle.record.specs.declared.Kind.TheVariants.{Prot}
use Rattle.grammar.specs.Shapes.{Interval.one, Mu, Mu.certain, Mu.uncertain, Both.both}
use Rattle.grammar.specs.Positions.{Residual.residual}
use Rattle.grammar.specs.ProteinEdits.{ProteinEditTree, ProteinEditTree.subst_unknown}
use Rattle.grammar.specs.Bodies.{Ends, ProteinBody, ProteinBody.met1, ProteinBody.no_protein_uncertain, ProteinBody.no_protein, ProteinBody.no_change_uncertain, ProteinBody.no_change, ProteinBody.unknown, ProteinBody.change, ProteinBody.bracketed}
use Rattle.grammar.specs.Values.{ProtPosV, ProtPosV.prot_pos_v, EndsV, ProteinEditV, ProteinEditV.fs_v, ProteinEditV.ext_v, ProteinEditV.subst_v, ProteinEditV.del_ins_v, ProteinEditV.ins_pv, ProteinEditV.del_v, ProteinEditV.dup_pv, ProteinEditV.ident_v, ProteinBodyV, ProteinBodyV.ordinary, ProteinBodyV.no_change_v, ProteinBodyV.no_change_uncertain_v, ProteinBodyV.no_protein_v, ProteinBodyV.no_protein_uncertain_v, ProteinBodyV.unknown_v, ProteinBodyV.initiation_uncertain}
use Rattle.grammar.specs.Numbers.{Faultless, protein_body_numbers}
use Rattle.lang.specs.Canon.{both_o}
use Rattle.lang_locations.specs.Equal.{eq_position}
use Rattle.lang_locations.proofs.Canonical.{ends_canon}
use Rattle.lang_protein_edits.proofs.Canonical.{protein_edit_canon}

-- ---- the Met-1 `?` record: location and edit of the barred texts
abbrev pub met_one : ProtPosV
met_one = prot_pos_v (ascii "Met") (pos 1)

abbrev pub is_unknown : ProteinEditV → Bool
is_unknown (fs_v r w n) = false
is_unknown (ext_v r w n) = false
is_unknown (subst_v r) = same r (ascii "?")
is_unknown (del_ins_v rs) = false
is_unknown (ins_pv rs) = false
is_unknown del_v = false
is_unknown dup_pv = false
is_unknown ident_v = false

abbrev pub is_met1 : EndsV Prot → ProteinEditV → Bool
is_met1 (both p q) e = eq_position Prot p met_one && (eq_position Prot q met_one && is_unknown e)

-- both certain, or both uncertain
abbrev pub barred : Mu (EndsV Prot) → Mu ProteinEditV → Bool
barred (certain i) (certain e) = is_met1 i e
barred (certain i) (uncertain e) = false
barred (uncertain i) (certain e) = false
barred (uncertain i) (uncertain e) = is_met1 i e

-- ---- the tree to be written
abbrev pub inner : {A : Type 0} → Mu A → A
inner (certain a) = a
inner (uncertain a) = a

-- location and edit as certain as those of the value, in one pair of brackets where both are uncertain
abbrev pub joined : Mu (EndsV Prot) → Mu ProteinEditV → Ends Prot → ProteinEditTree → ProteinBody
joined (certain i) (certain e) a b = change (both (certain a) (certain b))
joined (certain i) (uncertain e) a b = change (both (certain a) (uncertain b))
joined (uncertain i) (certain e) a b = change (both (uncertain a) (certain b))
joined (uncertain i) (uncertain e) a b = bracketed (both a b)

-- the next best digits of value 1
abbrev pub zero_one : List ℕ
zero_one = ascii "01"

abbrev pub met01 : Ends Prot
met01 = one (residual (ascii "Met") zero_one)

abbrev pub canon_ordinary : Mu (EndsV Prot) → Mu ProteinEditV → Option ProteinBody
canon_ordinary l e = cond (barred l e) (some (joined l e met01 subst_unknown)) (both_o (joined l e) ((ends_canon Prot).canon (inner l)) (protein_edit_canon.canon (inner e)))

abbrev pub canon_protein_body : ProteinBodyV → Option ProteinBody
canon_protein_body (ordinary (both l e)) = canon_ordinary l e
canon_protein_body no_change_v = some no_change
canon_protein_body no_change_uncertain_v = some no_change_uncertain
canon_protein_body no_protein_v = some no_protein
canon_protein_body no_protein_uncertain_v = some no_protein_uncertain
canon_protein_body unknown_v = some unknown
canon_protein_body initiation_uncertain = some met1

abbrev pub FitsProteinBody : ProteinBody → Type 0
FitsProteinBody t = Faultless (protein_body_numbers 0 t)
