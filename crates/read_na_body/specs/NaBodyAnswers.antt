-- What the routines give for what was found: the body with its spans, as one of any kind, and its faults.
use Rattle.std.specs.Prelude as Prelude
use Rattle.std.specs.Prelude.{None, Some, ℕ, ◌+◌, ◌≡◌, length}
use Rattle.std.proofs.Math.Path.{refl}
use Rattle.std.proofs.Math.Option.{Option, none, some}
use Rattle.record.specs.declared.Kind.{Kind}
use Rattle.record.specs.declared.Kind.TheVariants.{Cds, Genome, Mt, Tx, Rna}
use Rattle.grammar.specs.Shapes.{Both.both}
use Rattle.grammar.specs.Bodies.{print_location, NaBody, BodyTree}
use Rattle.grammar.specs.Records.{mu_na_edit_at, body_at}
use Rattle.grammar.specs.Numbers.{na_body_numbers, body_numbers}
use Rattle.read_scan.specs.declared.Faults.{Faults}
use Rattle.read_scan.specs.Faults.{faults}
use Rattle.lang_bodies.specs.Settled.{settled_na_body, settled_body}
use Rattle.any_location.specs.OfTree.{location_of}
use Rattle.any_location.proofs.OfRecord.{location_any}
use Rattle.any_body.specs.declared.AnyBody.{AnyBody}
use Rattle.any_body.specs.declared.AnyBody.TheVariants.{Nucleotide}
use Rattle.any_body.specs.AnyBodies.{any_body}

-- the body of any kind
unfoldable pub body_answer : (k : Kind) → ℕ → Option (BodyTree k) → Prelude.Option (AnyBody × Faults)
body_answer k at none = None
body_answer k at (some b) = Some (any_body (body_at k at b), faults (body_numbers k at b) (settled_body k b))

-- ---- nucleotide kinds
abbrev pub na_body_of : (k : Kind) → ℕ → NaBody k → AnyBody
na_body_of k at (both l e) = Nucleotide k (location_of k at l) (mu_na_edit_at (at + length (print_location k l)) e)

unfoldable pub na_answer : (k : Kind) → ℕ → Option (NaBody k) → Prelude.Option (AnyBody × Faults)
na_answer k at none = None
na_answer k at (some b) = Some (na_body_of k at b, faults (na_body_numbers k at b) (settled_na_body k b))

-- ---- the body of a nucleotide kind is a body
module _ (at : ℕ) where
  pub answer_cds : (o : Option (NaBody Cds)) → na_answer Cds at o ≡ body_answer Cds at o
  unfolding na_answer body_answer
  answer_cds none = refl
  answer_cds (some (both l e)) = rw (location_any Cds at l)

  pub answer_genome : (o : Option (NaBody Genome)) → na_answer Genome at o ≡ body_answer Genome at o
  unfolding na_answer body_answer
  answer_genome none = refl
  answer_genome (some (both l e)) = rw (location_any Genome at l)

  pub answer_mt : (o : Option (NaBody Mt)) → na_answer Mt at o ≡ body_answer Mt at o
  unfolding na_answer body_answer
  answer_mt none = refl
  answer_mt (some (both l e)) = rw (location_any Mt at l)

  pub answer_tx : (o : Option (NaBody Tx)) → na_answer Tx at o ≡ body_answer Tx at o
  unfolding na_answer body_answer
  answer_tx none = refl
  answer_tx (some (both l e)) = rw (location_any Tx at l)

  pub answer_rna : (o : Option (NaBody Rna)) → na_answer Rna at o ≡ body_answer Rna at o
  unfolding na_answer body_answer
  answer_rna none = refl
  answer_rna (some (both l e)) = rw (location_any Rna at l)
