-- The parser of protein bodies finds the well_formed trees of a whole text, and no others.
use Rattle.record.specs.declared.Kind.TheVariants.{Prot}
use Rattle.grammar.specs.Shapes.{Both.both, WfMu}
use Rattle.grammar.specs.ProteinEdits.{WfProteinEdit}
use Rattle.grammar.specs.Bodies.{WfEnds, WfLocation, ProteinBody, ProteinBody.met1, ProteinBody.bracketed_met1, ProteinBody.no_protein_uncertain, ProteinBody.no_protein, ProteinBody.no_change_uncertain, ProteinBody.no_change, ProteinBody.unknown, ProteinBody.change, ProteinBody.bracketed}

-- location and edit, without the bar on the two texts of Met1
abbrev pub WfOrdinary : ProteinBody → Type 0
WfOrdinary met1 = ⊥
WfOrdinary bracketed_met1 = ⊥
WfOrdinary no_protein_uncertain = ⊥
WfOrdinary no_protein = ⊥
WfOrdinary no_change_uncertain = ⊥
WfOrdinary no_change = ⊥
WfOrdinary unknown = ⊥
WfOrdinary (change (both l e)) = WfLocation Prot l × WfMu WfProteinEdit e
WfOrdinary (bracketed (both i e)) = WfEnds Prot i × WfProteinEdit e
