-- What canon gives behind `fs` and `ext` is what the value says, and its text is best.
use Rattle.std.specs.Prelude.{ℕ, ◌≡◌, List}
use Rattle.std.proofs.Math.Option.{Option, none, some}
use Rattle.texts.specs.Best.{Best}
use Rattle.numerals.specs.declared.Sign.TheVariants.{Negated}
use Rattle.record.specs.declared.UncertainLengthChange.TheVariants.{None, Known}
use Rattle.grammar.specs.ProteinEdits.{Stop, Stop.stop, ExtEnd, ExtEnd.nothing, ExtEnd.later, ExtEnd.earlier, print_terminal}
use Rattle.grammar.specs.Meaning.{number, length_of}
use Rattle.grammar.specs.Numbers.{Numeral, Faultless}
use Rattle.lang_protein_edits.specs.Canon.{canon_fs_end, canon_ext_end}

-- a part of an edit that is what the value says
pub record PartRight {Tree Value : Type 0} (Wf : Tree → Type 0) (numbers : ℕ → Tree → List Numeral) (meaning : Tree → Value) (v : Value) (t : Tree) : Type 0 where
  pub wf : Wf t
  pub fit : (k : ℕ) → Faultless (numbers k t)
  pub means : meaning t ≡ v

-- what was found has a text as good as u's
pub record PartCovered {Tree : Type 0} (print : Tree → List ℕ) (found : Option Tree) (u : Tree) : Type 0 where
  pub tree : Tree
  pub is : found ≡ some tree
  pub best : Best (print tree) (print u)

abbrev pub fs_canon : Option Stop → Option (Option Stop)
fs_canon none = canon_fs_end none None
fs_canon (some (stop t n)) = canon_fs_end (some (print_terminal t)) (length_of n)

abbrev pub ext_canon : ExtEnd → Option ExtEnd
ext_canon nothing = canon_ext_end none None
ext_canon (later (stop t n)) = canon_ext_end (some (print_terminal t)) (length_of n)
ext_canon (earlier q ds) = canon_ext_end q (Known (number Negated ds))
