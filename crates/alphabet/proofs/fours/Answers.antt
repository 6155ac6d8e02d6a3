-- Eight letters more: what is left is still the text's end, and as many letters are counted as bytes are passed.
use Rattle.std.proofs.Common.{ℕ, ◌≡◌, ◌+◌, ◌-◌, ◌≤◌, ap, ◌∙◌, List, length, length-drop, drop-drop, arith}
use mathlib.Core.Bool.{true, ◌&&◌}
use lib.ListN.{take, drop, get_or}
use Rattle.texts.specs.Runs.{run}
use Rattle.texts.proofs.Runs.{run_four_more}
use Rattle.texts.proofs.Slices.{tail_part}
use Rattle.alphabet.specs.Classes.{member}
use Rattle.alphabet.specs.declared.Class.TheVariants.{Nucleotide}
use Rattle.alphabet.proofs.Flags.{four_flags, both_odd}
use Rattle.alphabet.proofs.fours.Goals as goal

abbrev Counted : List ℕ → List ℕ → Type 0
Counted s rest = (length rest ≤ length s) × (rest ≡ drop (length s - length rest) s) × (run (member Nucleotide) s + length rest ≡ length s + run (member Nucleotide) rest)

abbrev letter_at : List ℕ → ℕ → mathlib.Core.Bool.Bool
letter_at r k = member Nucleotide (get_or r k 0)

-- the four bytes from k on are letters
abbrev letters_at : List ℕ → ℕ → mathlib.Core.Bool.Bool
letters_at r k = ((letter_at r k && letter_at r (k + 1)) && letter_at r (k + 2)) && letter_at r (k + 3)

eight_more : (s rest : List ℕ) → Counted s rest → 8 ≤ length rest → letters_at rest 0 ≡ true → letters_at rest 4 ≡ true → Counted s (take (length rest - 8) (drop 8 rest))
eight_more s rest h l front back =
    let i = length s - length rest in
    let size : length (drop 8 rest) ≡ length rest - 8 = length-drop 8 rest in
    let place : i + 8 ≡ length s - (length rest - 8) = omega (arith, h.0) in
    let none : run (member Nucleotide) rest ≡ 0 + run (member Nucleotide) rest = omega arith in
    let more : run (member Nucleotide) rest ≡ 8 + run (member Nucleotide) (drop 8 rest) =
    none ∙ run_four_more (member Nucleotide) rest 0 (omega (arith, l)) front ∙ run_four_more (member Nucleotide) rest 4 l back in
    rw (tail_part 8 rest, size)
    (omega (arith, h.0), ap (drop 8) h.1 ∙ drop-drop 8 i s ∙ ap (λ (k : ℕ). drop k s) place, omega (arith, h.2, more))

pub loop-rest-preserved : goal.loop-rest-preserved
loop-rest-preserved c =
    let odd = both_odd _ _ c.if-front-back-eq0.false in
    eight_more c.args.s.now c.loop-rest.rest.now c.loop-rest.invariant c.in-len8-up.len_at_least
    (four_flags _ _ _ _ _ _ _ _ c.number_of.ensures.1.odd c.number_of-in-len8-up.ensures.1.odd c.number_of-in-len8-up-2.ensures.1.odd c.number_of-in-len8-up-3.ensures.1.odd odd.0)
    (four_flags _ _ _ _ _ _ _ _ c.number_of-in-len8-up-4.ensures.1.odd c.number_of-in-len8-up-5.ensures.1.odd c.number_of-in-len8-up-6.ensures.1.odd c.number_of-in-len8-up-7.ensures.1.odd odd.1)
