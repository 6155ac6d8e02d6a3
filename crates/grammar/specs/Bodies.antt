-- Location and edit of the nucleotide kinds, and document 01, "Protein bodies (p)".
use Rattle.std.specs.Prelude.{ℕ, ◌≡◌, List, ◌++◌, Bool}
use Rattle.texts.specs.Ascii.{ascii}
use Rattle.record.specs.declared.Kind.{Kind}
use Rattle.record.specs.declared.Kind.TheVariants.{Cds, Genome, Mt, Tx, Prot, Rna}
use Rattle.grammar.specs.Positions.{PositionTree, print_position, WfPosition}
use Rattle.grammar.specs.Shapes.{Interval, Mu, Both, print_interval, WfInterval, print_mu, WfMu, print_both, WfBoth}
use Rattle.grammar.specs.NucleotideEdits.{NaEditTree, print_na_edit, WfNaEdit}
use Rattle.grammar.specs.ProteinEdits.{ProteinEditTree, print_protein_edit, WfProteinEdit}

-- location: an interval, certain or uncertain
abbrev pub Ends : Kind → Type 0
Ends k = Interval (PositionTree k)

abbrev pub print_ends : (k : Kind) → Ends k → List ℕ
print_ends k = print_interval (print_position k)

abbrev pub WfEnds : (k : Kind) → Ends k → Type 0
WfEnds k = WfInterval (WfPosition k)

abbrev pub LocationTree : Kind → Type 0
LocationTree k = Mu (Ends k)

abbrev pub print_location : (k : Kind) → LocationTree k → List ℕ
print_location k = print_mu (print_ends k)

abbrev pub WfLocation : (k : Kind) → LocationTree k → Type 0
WfLocation k = WfMu (WfEnds k)

-- c, g, m, n, r: location then edit
abbrev pub NaBody : Kind → Type 0
NaBody k = Both (LocationTree k) (Mu NaEditTree)

abbrev pub print_na_body : (k : Kind) → NaBody k → List ℕ
print_na_body k = print_both (print_location k) (print_mu print_na_edit)

abbrev pub WfNaBody : (ℕ → Bool) → (k : Kind) → NaBody k → Type 0
WfNaBody na k = WfBoth (WfLocation k) (WfMu (WfNaEdit na))

-- p: the bodies without location; location then edit; and `(`location edit`)`
pub data ProteinBody : Type 0 where
  met1 bracketed_met1 : ProteinBody
  no_protein_uncertain no_protein no_change_uncertain no_change unknown : ProteinBody
  change : Both (LocationTree Prot) (Mu ProteinEditTree) → ProteinBody
  bracketed : Both (Ends Prot) ProteinEditTree → ProteinBody

abbrev pub print_protein_body : ProteinBody → List ℕ
print_protein_body met1 = ascii "Met1?"
print_protein_body bracketed_met1 = ascii "(Met1?)"
print_protein_body no_protein_uncertain = ascii "0?"
print_protein_body no_protein = ascii "0"
print_protein_body no_change_uncertain = ascii "(=)"
print_protein_body no_change = ascii "="
print_protein_body unknown = ascii "?"
print_protein_body (change b) = print_both (print_location Prot) (print_mu print_protein_edit) b
print_protein_body (bracketed b) = ascii "(" ++ (print_both (print_ends Prot) print_protein_edit b ++ ascii ")")

-- the exact texts `Met1?` and `(Met1?)` are never read as location and edit
pub record NotMet1 (t : List ℕ) : Type 0 where
  pub bare : t ≡ ascii "Met1?" → ⊥
  pub in_brackets : t ≡ ascii "(Met1?)" → ⊥

abbrev pub WfProteinBody : ProteinBody → Type 0
WfProteinBody met1 = Unit
WfProteinBody bracketed_met1 = Unit
WfProteinBody no_protein_uncertain = Unit
WfProteinBody no_protein = Unit
WfProteinBody no_change_uncertain = Unit
WfProteinBody no_change = Unit
WfProteinBody unknown = Unit
WfProteinBody (change b) = WfBoth (WfLocation Prot) (WfMu WfProteinEdit) b × NotMet1 (print_protein_body (change b))
WfProteinBody (bracketed b) = WfBoth (WfEnds Prot) WfProteinEdit b × NotMet1 (print_protein_body (bracketed b))

abbrev pub BodyTree : Kind → Type 0
BodyTree Cds = NaBody Cds
BodyTree Genome = NaBody Genome
BodyTree Mt = NaBody Mt
BodyTree Tx = NaBody Tx
BodyTree Prot = ProteinBody
BodyTree Rna = NaBody Rna

abbrev pub print_body : (k : Kind) → BodyTree k → List ℕ
print_body Cds = print_na_body Cds
print_body Genome = print_na_body Genome
print_body Mt = print_na_body Mt
print_body Tx = print_na_body Tx
print_body Prot = print_protein_body
print_body Rna = print_na_body Rna

-- over the nucleotide letters of each kind
module _ (letters : Kind → ℕ → Bool) where
  abbrev pub WfBody : (k : Kind) → BodyTree k → Type 0
  WfBody Cds = WfNaBody (letters Cds) Cds
  WfBody Genome = WfNaBody (letters Genome) Genome
  WfBody Mt = WfNaBody (letters Mt) Mt
  WfBody Tx = WfNaBody (letters Tx) Tx
  WfBody Prot = WfProteinBody
  WfBody Rna = WfNaBody (letters Rna) Rna
