-- What an answer says: which tree was parsed, and that the answer is the tree's.
use Rattle.std.specs.Prelude.{ℕ, ◌≡◌, refl, List, None, Some}
use Rattle.std.proofs.Math.Option.{none}
use Rattle.alphabet.specs.Letters.{nucleotide}
use Rattle.record.specs.declared.NaEdit as Declared
use Rattle.record.specs.declared.MuNaEdit.{MuNaEdit}
use Rattle.record.specs.declared.MuNaEdit.TheVariants.{Certain, Uncertain}
use Rattle.grammar.specs.Records.{na_edit_at, mu_na_edit_at}
use Rattle.grammar.specs.Numbers.{na_edit_numbers}
use Rattle.read_scan.specs.declared.Found.{Found}
use Rattle.read_scan.specs.Accounts.{Told, told, unread}
use Rattle.read_scan.specs.MuAccounts.{Bracketed}
use Rattle.lang_na_edits.specs.Settled.{settled_na_edit}
use Rattle.lang_na_edits.proofs.Alphabet.{nucleotides}
use Rattle.lang_na_edits.proofs.Sound.{na_edit_lang}
use Rattle.lang_na_edits.proofs.Bracketing.{mu_na_edit_lang}
use Rattle.read_na_edit.specs.MuNaEditAnswers.{mu_na_edits, mu_na_edit_answer}

abbrev pub bracketed : Bracketed (na_edit_lang nucleotide nucleotides)
bracketed =
    record {
      Value = Declared.NaEdit;
      MuValue = MuNaEdit;
      read_at = na_edit_at;
      numbers_at = na_edit_numbers;
      settled = settled_na_edit;
      mu_read_at = mu_na_edit_at;
      sure = Certain;
      unsure = Uncertain;
      read_sure = λ k t. refl;
      read_unsure = λ k t. refl;
    }

abbrev pub MuTold : ℕ → List ℕ → Found MuNaEdit → Type 0
MuTold at s = Told mu_na_edits at (mu_na_edit_lang nucleotide nucleotides).parse s

module _ (at : ℕ) (s : List ℕ) where
  pub mu_told : (x : Found MuNaEdit) → Some x ≡ mu_na_edit_answer at ((mu_na_edit_lang nucleotide nucleotides).parse s) → MuTold at s x
  mu_told x = told mu_na_edits at (mu_na_edit_lang nucleotide nucleotides).parse s

  pub mu_unread : None ≡ mu_na_edit_answer at ((mu_na_edit_lang nucleotide nucleotides).parse s) → (mu_na_edit_lang nucleotide nucleotides).parse s ≡ none
  mu_unread = unread mu_na_edits at (mu_na_edit_lang nucleotide nucleotides).parse s
