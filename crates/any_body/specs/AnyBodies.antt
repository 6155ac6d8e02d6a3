-- The body of a record, as one of any kind: of the nucleotide kinds the location is one of any kind.
use Rattle.record.specs.declared.Kind.TheVariants.{Cds, Genome, Mt, Tx, Rna}
use Rattle.record.specs.declared.Body.{Body}
use Rattle.record.specs.declared.Body.TheVariants as Bo
use Rattle.any_location.specs.OfRecord.{any_location}
use Rattle.any_body.specs.declared.AnyBody.{AnyBody}
use Rattle.any_body.specs.declared.AnyBody.TheVariants.{Nucleotide, Protein}

abbrev pub any_body : Body → AnyBody
any_body (Bo.Cds b) = Nucleotide Cds (any_location Cds b.loc) b.edit
any_body (Bo.Genome b) = Nucleotide Genome (any_location Genome b.loc) b.edit
any_body (Bo.Mt b) = Nucleotide Mt (any_location Mt b.loc) b.edit
any_body (Bo.Tx b) = Nucleotide Tx (any_location Tx b.loc) b.edit
any_body (Bo.Prot b) = Protein b
any_body (Bo.Rna b) = Nucleotide Rna (any_location Rna b.loc) b.edit
