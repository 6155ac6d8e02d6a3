-- What may follow a protein edit: the end of the text, or a byte with which no edit goes on.
use Rattle.std.specs.Prelude.{ℕ, ◌≡◌, refl, List, [], ◌∷◌, ◌++◌, true, false, ◌||◌}
use Prim.Native.Char.{code}
use Rattle.texts.specs.Ascii.{ascii}
use Rattle.texts.proofs.Tests.{left_or, right_or, never, clash}
use Rattle.texts.specs.Runs.{every, run}
use Rattle.texts.proofs.Runs.{run_nil, run_first, run_head, run_narrower}
use Rattle.texts.specs.Words.{starts}
use Rattle.texts.proofs.Words.{starts_none}
use Rattle.alphabet.specs.Letters.{among, digit, residue}
use Rattle.alphabet.proofs.Apart.{among_every}
use Rattle.residue.specs.Reading.{continues}
use Rattle.residue.proofs.ResiduesRead.{continues_nil, continues_first}
use Rattle.lang_protein_edits.specs.Follow.{goes_on, Follows}

pub follows_nil : Follows []
follows_nil = record { ends = run_nil goes_on }

pub follows_first : (b : ℕ) (r : List ℕ) → goes_on b ≡ false → Follows (b ∷ r)
follows_first b r h = record { ends = run_first goes_on b r h }

pub follows_close : (r : List ℕ) → Follows (ascii ")" ++ r)
unfolding goes_on residue digit
follows_close r = follows_first (code ")") r refl

-- ---- so nothing of an edit follows
module _ (r : List ℕ) (st : Follows r) where
  pub no_residue : run residue r ≡ 0
  unfolding goes_on
  no_residue = run_narrower residue goes_on (λ b h. left_or (digit b || among b (ascii "aefhilrsy?-")) h) r st.ends

  pub no_digit : run digit r ≡ 0
  unfolding goes_on
  no_digit = run_narrower digit goes_on (λ b h. right_or (residue b) (left_or (among b (ascii "aefhilrsy?-")) h)) r st.ends

pub no_word : (c : ℕ) (w r : List ℕ) → goes_on c ≡ true → Follows r → starts (c ∷ w) r ≡ false
no_word c w r h st = starts_none goes_on c w r h st.ends

pub no_continues : (r : List ℕ) → Follows r → continues r ≡ false
unfolding goes_on residue digit every
no_continues [] st = continues_nil
no_continues (b ∷ r) st =
    continues_first b r (never (among b (ascii "aehilrsy")) (λ q. clash (among_every goes_on b (ascii "aehilrsy") refl q) (run_head goes_on b r st.ends)))
