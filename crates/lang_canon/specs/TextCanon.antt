-- The canonical text of a whole value: document 01's shortest text, and none exactly where no text reads as the value.
use Rattle.std.specs.Prelude.{ℕ, Bool}
use Rattle.std.proofs.Math.Option.{Option}
use Rattle.record.specs.declared.Kind.{Kind}
use Rattle.record.specs.declared.Kind.TheVariants.{Cds, Genome, Mt, Tx, Prot, Rna}
use Rattle.grammar.specs.Bodies.{NaBody, BodyTree}
use Rattle.grammar.specs.Texts.{Text, Text.text}
use Rattle.grammar.specs.Values.{NaBodyV, BodyV, Value, Value.value}
use Rattle.lang.specs.Canon.{both_o}
use Rattle.lang_na_edits.specs.Alphabet.{Alphabet}
use Rattle.lang_headers.proofs.Canonical.{canon_header}
use Rattle.lang_canon.specs.NaBodyCanon.{na_body_canon}
use Rattle.lang_canon.specs.ProteinBodyCanon.{canon_protein_body}

module _ (letters : Kind → ℕ → Bool) (al : (k : Kind) → Alphabet (letters k)) where
  abbrev pub canon_na_body : (k : Kind) → NaBodyV k → Option (NaBody k)
  canon_na_body k = (na_body_canon (letters k) (al k) k).canon

  abbrev pub canon_body : (k : Kind) → BodyV k → Option (BodyTree k)
  canon_body Cds = canon_na_body Cds
  canon_body Genome = canon_na_body Genome
  canon_body Mt = canon_na_body Mt
  canon_body Tx = canon_na_body Tx
  canon_body Prot = canon_protein_body
  canon_body Rna = canon_na_body Rna

  abbrev pub canon_text : Value → Option Text
  canon_text (value h k b) = both_o (λ x y. text x k y) (canon_header h) (canon_body k b)
