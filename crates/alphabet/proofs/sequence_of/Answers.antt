use Prim.Native.Nat.{◌+◌}
use mathlib.Core.Path.{◌≡◌, ap}
use native.Mathlib.Omega.{arith}
use Rattle.texts.specs.Runs.{run}
use Rattle.texts.proofs.Runs.{run_le}
use Rattle.texts.proofs.Slices.{tail_part}
use Rattle.alphabet.specs.Classes.{member}
use Rattle.alphabet.specs.declared.Class.TheVariants.{Nucleotide}
use Rattle.alphabet.proofs.sequence_of.Goals as goal

pub overflow_add-result : goal.overflow_add-result
overflow_add-result c =
    let s = c.args.s.now in
    let whole : c.fours-counted.result + c.run_of.result ≡ run (member Nucleotide) s =
    omega (arith, c.run_of.ensures, c.fours-counted.ensures, ap (run (member Nucleotide)) (tail_part c.fours-counted.result s)) in
    omega (arith, whole, run_le (member Nucleotide) s)
