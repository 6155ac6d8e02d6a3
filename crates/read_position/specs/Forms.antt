-- How the kinds write their positions: c, n and r with a base, g and m with digits or `?`, p with a residue.
use Rattle.std.specs.Prelude as Prelude
use Rattle.std.specs.Prelude.{ℕ, List, Bool, true, false, cond}
use Rattle.std.proofs.Math.Path.{◌≡◌, refl}
use Rattle.std.proofs.Common.{◌∙◌, arith}
use Rattle.std.proofs.Math.Option.{Option, none, some}
use Rattle.texts.specs.Ascii.{ascii}
use Rattle.texts.specs.Words.{starts}
use Rattle.record.specs.declared.Kind.{Kind}
use Rattle.record.specs.declared.Kind.TheVariants.{Cds, Genome, Mt, Tx, Prot, Rna}
use Rattle.grammar.specs.Positions.{Based, Based.based}
use Rattle.lang_locations.specs.Parse.{parse_based, parse_unstarred, parse_genomic, parse_residual, parse_position}
use Rattle.lang_locations.proofs.Sound.{sound_position}
use Rattle.lang_locations.proofs.Canonical.{unstarred_from}
use Rattle.any_location.specs.declared.Position.{Position}
use Rattle.read_scan.specs.declared.Found.{Found}
use Rattle.read_scan.specs.Accounts.{answered}
use Rattle.read_position.specs.declared.Form.{Form}
use Rattle.read_position.specs.declared.Form.TheVariants.{Based as BasedForm, Genomic, Residual}
use Rattle.read_position.specs.PositionAnswers.{position_answer}

abbrev pub form_of : Kind → Form
form_of Cds = BasedForm
form_of Genome = Genomic
form_of Mt = Genomic
form_of Tx = BasedForm
form_of Prot = Residual
form_of Rna = BasedForm

abbrev pub is_starred : Kind → Bool
is_starred Cds = true
is_starred Genome = false
is_starred Mt = false
is_starred Tx = false
is_starred Prot = false
is_starred Rna = false

-- a `*` at the front that the kind does not have
unfoldable pub is_barred : Kind → List ℕ → Bool
is_barred k s = cond (is_starred k) false (starts (ascii "*") s)

unfoldable pub parse_based_for : Kind → List ℕ → Option Based
parse_based_for k s = cond (is_barred k s) none (parse_based s)

-- ---- laws
module _ (at : ℕ) (s : List ℕ) (r : Prelude.Option (Found Position)) where
  abbrev Says : Kind → Type 0
  Says k = r ≡ position_answer k at (parse_position k s)

  -- a base without `*` is from the start
  unstarred_is : position_answer Cds at (parse_unstarred s) ≡ position_answer Tx at (parse_unstarred s)
  unfolding answered
  unstarred_is = go (parse_unstarred s) refl
    where
      go : (o : Option Based) → parse_unstarred s ≡ o → position_answer Cds at o ≡ position_answer Tx at o
      go none e = refl
      go (some (based m ds o)) e = rw (unstarred_from m (sound_position Tx s (based m ds o) e).wf.0)

  pub based_says : (k : Kind) → form_of k ≡ BasedForm → r ≡ position_answer Cds at (parse_based_for k s) → Says k
  unfolding parse_based_for is_barred parse_unstarred
  based_says Cds f e = e
  based_says Genome f e = absurd (let z : ◌≡◌ {A = ℕ} 0 1 = cc in omega arith)
  based_says Mt f e = absurd (let z : ◌≡◌ {A = ℕ} 0 1 = cc in omega arith)
  based_says Tx f e = e ∙ unstarred_is
  based_says Prot f e = absurd (let z : ◌≡◌ {A = ℕ} 0 1 = cc in omega arith)
  based_says Rna f e = e ∙ unstarred_is

  pub genomic_says : (k : Kind) → form_of k ≡ Genomic → r ≡ position_answer Genome at (parse_genomic s) → Says k
  genomic_says Cds f e = absurd (let z : ◌≡◌ {A = ℕ} 0 1 = cc in omega arith)
  genomic_says Genome f e = e
  genomic_says Mt f e = e
  genomic_says Tx f e = absurd (let z : ◌≡◌ {A = ℕ} 0 1 = cc in omega arith)
  genomic_says Prot f e = absurd (let z : ◌≡◌ {A = ℕ} 0 1 = cc in omega arith)
  genomic_says Rna f e = absurd (let z : ◌≡◌ {A = ℕ} 0 1 = cc in omega arith)

  pub residual_says : (k : Kind) → form_of k ≡ Residual → r ≡ position_answer Prot at (parse_residual s) → Says k
  residual_says Cds f e = absurd (let z : ◌≡◌ {A = ℕ} 0 1 = cc in omega arith)
  residual_says Genome f e = absurd (let z : ◌≡◌ {A = ℕ} 0 1 = cc in omega arith)
  residual_says Mt f e = absurd (let z : ◌≡◌ {A = ℕ} 0 1 = cc in omega arith)
  residual_says Tx f e = absurd (let z : ◌≡◌ {A = ℕ} 0 1 = cc in omega arith)
  residual_says Prot f e = e
  residual_says Rna f e = absurd (let z : ◌≡◌ {A = ℕ} 0 1 = cc in omega arith)
