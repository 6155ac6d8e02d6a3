-- Which numbers fit, and which are plainly spelled, at the edges.
use Rattle.std.specs.Prelude.{refl}
use Rattle.texts.specs.Words.{starts}
use Rattle.texts.specs.Tables.{Each}
use Rattle.texts.proofs.Tables.{Agree, agreed}
use Rattle.numerals.specs.Examples.{bounds, spellings}

pub bounds_agree : Each Agree bounds
bounds_agree = agreed bounds refl

pub spellings_agree : Each Agree spellings
unfolding starts
spellings_agree = agreed spellings refl
