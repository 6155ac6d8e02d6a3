-- A number that was read at the front of a text: how long it is, its value, and its faults.
use Rattle.std.specs.Prelude.{ℕ, ◌≤◌, ◌≡◌, List, [], ◌∷◌, true, length}
use Rattle.std.proofs.Common.{sym, ◌∙◌, arith, to_z, of_z}
use Rattle.std.specs.Int.{w32}
use Rattle.texts.specs.Runs.{run, front}
use Rattle.texts.proofs.Runs.{run_le, front_length}
use Rattle.alphabet.specs.Letters.{digit}
use Rattle.numerals.specs.Digits.{val}
use Rattle.numerals.specs.Reading.{number_of, number_at}
use Rattle.numerals.proofs.Signs.{or_zero_held}
use Rattle.numerals.specs.declared.Sign.{Sign}
use Rattle.numerals.specs.declared.Number.{Number}
use Rattle.grammar.specs.Meaning.{number}
use Rattle.grammar.specs.Numbers.{Numeral.numeral}
use Rattle.read_scan.specs.Faults.{faults, of_number, faults_one}

module _ (sign : Sign) (s : List ℕ) (n : Number) (e : n ≡ number_at sign s) where
  pub number_run : n.len ≡ run digit s
  unfolding number_at number_of
  number_run = rw e

  pub number_len : n.len ≡ length (front digit s)
  number_len = number_run ∙ sym (front_length digit s)

  pub number_le : n.len ≤ length s
  number_le = omega (arith, number_run, run_le digit s)

  -- as the machine holds it
  pub number_value : to_z w32 (of_z w32 n.value) ≡ number sign (front digit s)
  unfolding number_at number_of
  number_value = rw e (or_zero_held sign (val (front digit s)))

  pub number_faults : (k : ℕ) → of_number n.fits n.plain k ≡ faults (numeral k sign (front digit s) ∷ []) true
  unfolding number_at number_of
  number_faults k = rw (e, faults_one k sign (front digit s), front_length digit s)
