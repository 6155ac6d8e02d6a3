-- What the grammar of nucleotide edits needs of an alphabet: its letters are ASCII letters, and none of those that tell the words from letters.
use Rattle.std.specs.Prelude.{ℕ, ◌≡◌, refl, Bool, true, false}
use Prim.Native.Char.{code}
use Rattle.texts.proofs.Tests.{never, clash}
use Rattle.alphabet.specs.Letters.{letter, digit, nucleotide}
use Rattle.alphabet.proofs.Apart.{letter_no_digit, nucleotide_letter}
use Rattle.record.specs.declared.Kind.{Kind}
use Rattle.grammar.specs.Texts.{all_letters}
use Rattle.lang_na_edits.specs.Alphabet.{Alphabet}

module _ (na : ℕ → Bool) (al : Alphabet na) (b : ℕ) where
  -- what is no letter is in no alphabet
  pub outside : letter b ≡ false → na b ≡ false
  outside e = never (na b) (λ h. clash (al.letters b h) e)

  pub no_digit : na b ≡ true → digit b ≡ false
  no_digit h = letter_no_digit b (al.letters b h)

-- every part of the nucleotide letters will do, and so will all of them
pub narrower : (na : ℕ → Bool) → ((b : ℕ) → na b ≡ true → nucleotide b ≡ true) → Alphabet na
unfolding nucleotide
narrower na h = record {
  letters = λ b e. nucleotide_letter b (h b e);
  no_e = never (na (code "e")) (λ e. clash (h (code "e") e) refl);
  no_i = never (na (code "i")) (λ e. clash (h (code "i") e) refl);
  no_p = never (na (code "p")) (λ e. clash (h (code "p") e) refl);
}

pub nucleotides : Alphabet nucleotide
nucleotides = narrower nucleotide (λ b h. h)

-- those of every kind
abbrev pub alphabets : (k : Kind) → Alphabet (all_letters k)
alphabets k = nucleotides
