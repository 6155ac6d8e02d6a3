-- Where the library finds the first LF, the run ends.
use Prim.Native.Nat.{◌-◌}
use mathlib.Core.Path.{◌≡◌, sym, ap, ◌∙◌}
use mathlib.Core.Bool.{true, false}
use native.Mathlib.Omega.{arith}
use lib.ListN.{length, take, drop}
use borrow.Author.Tests.{tests}
use Rattle.std.proofs.Common.{rules}
use Rattle.std.proofs.lemmas.Iterator.{YieldsList-from_slice, IsFirst-from_position}
use Rattle.texts.specs.Runs.{run}
use Rattle.texts.proofs.Slices.{tail_part}
use Rattle.lines.specs.Taking.{in_line}
use Rattle.line_take.proofs.TakingParts.{run_from_first}
use Rattle.line_take.proofs.before_end.Goals as goal

pub returns : goal.returns
returns c =
    let piece = c.args.piece.now in
    let passed = c.whole_blocks-passed.result in
    let rest = take (length piece - passed) (drop passed piece) in
    let first = IsFirst-from_position _ _ _ (λ b. in_line b ≡ false) (λ b. in_line b ≡ true) c.position.ensures.ran (YieldsList-from_slice rest c.iter.ensures.rest) (λ x q k. search (rules, tests)) (λ x q k. search (rules, tests)) in
    let behind : c.unwrap_or.result ≡ run in_line (drop passed piece) = c.unwrap_or.ensures ∙ sym (run_from_first in_line rest c.position.result first) ∙ ap (run in_line) (tail_part passed piece) in
    omega (arith, c.whole_blocks-passed.ensures)
