-- What an answer says: which tree was parsed, and that the answer is the tree's.
use Rattle.std.specs.Prelude.{ℕ, ◌≡◌, refl, List, None, Some}
use Rattle.std.proofs.Math.Option.{none}
use Rattle.record.specs.declared.ProteinEdit as Declared
use Rattle.record.specs.declared.MuProteinEdit.{MuProteinEdit}
use Rattle.record.specs.declared.MuProteinEdit.TheVariants.{Certain, Uncertain}
use Rattle.grammar.specs.Records.{protein_edit_at, mu_protein_edit_at}
use Rattle.grammar.specs.Numbers.{protein_edit_numbers}
use Rattle.read_scan.specs.declared.Found.{Found}
use Rattle.read_scan.specs.Accounts.{Told, told, unread}
use Rattle.read_scan.specs.MuAccounts.{Bracketed}
use Rattle.lang_protein_edits.specs.Settled.{settled_protein_edit}
use Rattle.lang_protein_edits.specs.Parse.{parse}
use Rattle.lang_protein_edits.proofs.Instance.{protein_edit_lang, mu_protein_edit_lang}
use Rattle.read_protein_edit.specs.ProteinEditAnswers.{protein_edits, protein_edit_answer, mu_protein_edits, mu_protein_edit_answer}

abbrev pub bracketed : Bracketed protein_edit_lang
bracketed =
    record {
      Value = Declared.ProteinEdit;
      MuValue = MuProteinEdit;
      read_at = protein_edit_at;
      numbers_at = protein_edit_numbers;
      settled = settled_protein_edit;
      mu_read_at = mu_protein_edit_at;
      sure = Certain;
      unsure = Uncertain;
      read_sure = λ k t. refl;
      read_unsure = λ k t. refl;
    }

abbrev pub EditTold : ℕ → List ℕ → Found Declared.ProteinEdit → Type 0
EditTold at s = Told protein_edits at parse s

abbrev pub MuTold : ℕ → List ℕ → Found MuProteinEdit → Type 0
MuTold at s = Told mu_protein_edits at mu_protein_edit_lang.parse s

module _ (at : ℕ) (s : List ℕ) where
  pub edit_told : (x : Found Declared.ProteinEdit) → Some x ≡ protein_edit_answer at (parse s) → EditTold at s x
  edit_told x = told protein_edits at parse s

  pub edit_unread : None ≡ protein_edit_answer at (parse s) → parse s ≡ none
  edit_unread = unread protein_edits at parse s

  pub mu_told : (x : Found MuProteinEdit) → Some x ≡ mu_protein_edit_answer at (mu_protein_edit_lang.parse s) → MuTold at s x
  mu_told x = told mu_protein_edits at mu_protein_edit_lang.parse s

  pub mu_unread : None ≡ mu_protein_edit_answer at (mu_protein_edit_lang.parse s) → mu_protein_edit_lang.parse s ≡ none
  mu_unread = unread mu_protein_edits at mu_protein_edit_lang.parse s
