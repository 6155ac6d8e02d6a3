-- The tree that canon gives is one of the value, its text is best among all trees of the value, and where it gives none there is none.
use Rattle.grammar.specs.NucleotideEdits.{NaEditTree}
use Rattle.grammar.specs.Values as Values
use Rattle.grammar.specs.Numbers.{Faultless, na_edit_numbers}

-- ---- numbers that fit
abbrev pub FitsNaEdit : NaEditTree → Type 0
FitsNaEdit t = Faultless (na_edit_numbers 0 t)
