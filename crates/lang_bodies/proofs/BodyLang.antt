-- The body of each kind, up to the end of the text.
use Rattle.std.specs.Prelude.{ℕ, ◌≡◌, List, Bool}
use Rattle.std.proofs.Math.Option.{Option, some}
use Rattle.record.specs.declared.Kind.{Kind}
use Rattle.record.specs.declared.Kind.TheVariants.{Cds, Genome, Mt, Tx, Prot, Rna}
use Rattle.grammar.specs.Bodies.{BodyTree, print_body, WfBody}
use Rattle.lang.specs.Whole.{whole}
use Rattle.lang.proofs.Whole.{whole_complete, whole_sound}
use Rattle.lang_na_edits.specs.Alphabet.{Alphabet}
use Rattle.lang_na_edits.proofs.Sound.{follows_nil}
use Rattle.lang_bodies.proofs.NaBodies.{na_body_lang}
use Rattle.lang_bodies.specs.ProteinBodies.{parse_protein_body}
use Rattle.lang_bodies.proofs.ProteinSound.{complete_protein, sound_protein}

module _ (letters : Kind → ℕ → Bool) (al : (k : Kind) → Alphabet (letters k)) where
  abbrev pub parse_body : (k : Kind) → List ℕ → Option (BodyTree k)
  parse_body Cds = whole (na_body_lang (letters Cds) (al Cds) Cds)
  parse_body Genome = whole (na_body_lang (letters Genome) (al Genome) Genome)
  parse_body Mt = whole (na_body_lang (letters Mt) (al Mt) Mt)
  parse_body Tx = whole (na_body_lang (letters Tx) (al Tx) Tx)
  parse_body Prot = parse_protein_body
  parse_body Rna = whole (na_body_lang (letters Rna) (al Rna) Rna)

  pub complete_body : (k : Kind) (t : BodyTree k) → WfBody letters k t → parse_body k (print_body k t) ≡ some t
  complete_body Cds = whole_complete (na_body_lang (letters Cds) (al Cds) Cds) (follows_nil (letters Cds))
  complete_body Genome = whole_complete (na_body_lang (letters Genome) (al Genome) Genome) (follows_nil (letters Genome))
  complete_body Mt = whole_complete (na_body_lang (letters Mt) (al Mt) Mt) (follows_nil (letters Mt))
  complete_body Tx = whole_complete (na_body_lang (letters Tx) (al Tx) Tx) (follows_nil (letters Tx))
  complete_body Prot = complete_protein
  complete_body Rna = whole_complete (na_body_lang (letters Rna) (al Rna) Rna) (follows_nil (letters Rna))

  pub sound_body : (k : Kind) (s : List ℕ) (t : BodyTree k) → parse_body k s ≡ some t → WfBody letters k t × (print_body k t ≡ s)
  sound_body Cds = whole_sound (na_body_lang (letters Cds) (al Cds) Cds)
  sound_body Genome = whole_sound (na_body_lang (letters Genome) (al Genome) Genome)
  sound_body Mt = whole_sound (na_body_lang (letters Mt) (al Mt) Mt)
  sound_body Tx = whole_sound (na_body_lang (letters Tx) (al Tx) Tx)
  sound_body Prot = sound_protein
  sound_body Rna = whole_sound (na_body_lang (letters Rna) (al Rna) Rna)
