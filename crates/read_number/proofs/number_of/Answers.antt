use mir.Syntax.{w32}
use borrow.Author.Rules.{sfits_of}
use borrow.Author.Tests.{le-leb, lt-leb}
use mir.Facts.{to_z-of_z}
use Rattle.numerals.specs.Reading.{most}
use Rattle.numerals.proofs.Numbers.{number_fit, number_misfit}
use Rattle.read_number.proofs.number_of.Goals as goal

pub returns-then-fits : goal.returns-then-fits
returns-then-fits c =
    let a = c.args in
    let h = rw c.limit.ensures at c.if-fits.true in
    rw (to_z-of_z {w = w32} (sfits_of c.with_sign.type_inv), c.with_sign.ensures, c.is_plain-plain.ensures, c.limit.ensures, le-leb a.v (most a.sign) h) (number_fit a.len a.sign a.v a.zero h)

pub returns-else-fits : goal.returns-else-fits
returns-else-fits c =
    let a = c.args in
    let h = rw c.limit.ensures at c.if-fits.false in
    rw (c.is_plain-plain.ensures, c.limit.ensures, lt-leb a.v (most a.sign) h) (number_misfit a.len a.sign a.v a.zero h)
