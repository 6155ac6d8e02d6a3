-- Some trees: the texts that they print as, what they mean, and their numbers with their places.
use Rattle.std.specs.Prelude.{refl}
use Rattle.texts.specs.Words.{starts}
use Rattle.texts.specs.Tables.{Each}
use Rattle.texts.proofs.Tables.{Agree, agreed}
use Rattle.numerals.specs.Digits.{val_from}
use Rattle.numerals.specs.Reading.{or_zero}
use Rattle.grammar.specs.ProteinEdits as P
use Rattle.grammar.specs.Bodies as B
use Rattle.grammar.specs.Values as Values
use Rattle.grammar.specs.Examples.{prints, edit_values, cds_values, protein_values, body_values, values, numbers, misfits, unplains}

pub prints_agree : Each Agree prints
prints_agree = agreed prints refl

pub edit_values_agree : Each Agree edit_values
unfolding val_from or_zero
edit_values_agree = agreed edit_values refl

pub cds_values_agree : Each Agree cds_values
unfolding val_from or_zero
cds_values_agree = agreed cds_values refl

pub protein_values_agree : Each Agree protein_values
unfolding val_from or_zero
protein_values_agree = agreed protein_values refl

pub body_values_agree : Each Agree body_values
body_values_agree = agreed body_values refl

pub values_agree : Each Agree values
unfolding val_from or_zero
values_agree = agreed values refl

pub numbers_agree : Each Agree numbers
numbers_agree = agreed numbers refl

pub misfits_agree : Each Agree misfits
unfolding val_from
misfits_agree = agreed misfits refl

pub unplains_agree : Each Agree unplains
unfolding starts
unplains_agree = agreed unplains refl
