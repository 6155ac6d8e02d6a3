use Rattle.std.proofs.Common.{◌≡◌, ◌+◌, ◌≤◌, length, drop, ◌-◌}
use Rattle.texts.specs.Runs.{run}
use Rattle.alphabet.specs.Classes.{member}
use Rattle.alphabet.specs.declared.Class.TheVariants.{Nucleotide}
use Rattle.alphabet.proofs.fours.Given as goal

abbrev pub invariant-loop-rest : goal.invariant-loop-rest
invariant-loop-rest l =
    (length l.rest ≤ length l.s) × (l.rest ≡ drop (length l.s - length l.rest) l.s) ×
    (run (member Nucleotide) l.s + length l.rest ≡ length l.s + run (member Nucleotide) l.rest)

abbrev pub decreases-loop-rest : goal.decreases-loop-rest
decreases-loop-rest l = length l.rest
