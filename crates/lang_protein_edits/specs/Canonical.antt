-- The tree that canon gives is one of the value, its text is best among all trees of the value, and where it gives none there is none.
use Rattle.grammar.specs.ProteinEdits.{ProteinEditTree}
use Rattle.grammar.specs.Numbers.{Faultless, protein_edit_numbers}

abbrev pub FitsProteinEdit : ProteinEditTree → Type 0
FitsProteinEdit t = Faultless (protein_edit_numbers 0 t)
