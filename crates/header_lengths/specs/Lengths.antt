-- How many bytes at the front of a text are an accession, or a word with bytes of a class behind it.
use Rattle.std.specs.Prelude.{ℕ, ◌≤◌, ◌≡◌, refl, List, Bool, length}
use Rattle.std.proofs.Math.Option.{Option, none, some}
use Rattle.std.proofs.Common.{arith}
use Rattle.grammar.specs.Optional.{print_optional}
use Rattle.grammar.specs.Header.{Accession, print_accession}
use Rattle.lang.proofs.Lang.{front_within, within}
use Rattle.lang_headers.specs.Optionals.{parse_optional}
use Rattle.lang_headers.proofs.Optionals.{optional_front}
use Rattle.lang_headers.specs.Parse.{parse_accession}
use Rattle.lang_headers.proofs.Sound.{accession_lang}

-- 0 where nothing was found
abbrev pub optional_length : List ℕ → Option (List ℕ) → ℕ
optional_length word o = length (print_optional word o)

abbrev pub accession_length : Option Accession → ℕ
accession_length none = 0
accession_length (some a) = length (print_accession a)

-- ---- they lie within the text
pub optional_le : (word : List ℕ) (p : ℕ → Bool) (s : List ℕ) {n : ℕ} → n ≡ optional_length word (parse_optional word p s) → n ≤ length s
optional_le word p s e = rw e (front_within (optional_front word p s))

pub accession_le : (s : List ℕ) {n : ℕ} → n ≡ accession_length (parse_accession s) → n ≤ length s
accession_le s {n} e = go (parse_accession s) refl e
  where
    go : (o : Option Accession) → parse_accession s ≡ o → n ≡ accession_length o → n ≤ length s
    go none q k = omega arith
    go (some t) q k = omega (arith, within accession_lang s t q)
