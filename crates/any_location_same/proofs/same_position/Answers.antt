use mathlib.Core.Path.{◌∙◌}
use mathlib.Core.Logic.{inl, inr}
use Rattle.any_location_same.specs.Same.{same_position}
use Rattle.any_location_same.proofs.MayBeUnknown.{genome_same, mt_same}
use Rattle.any_location_same.proofs.same_position.Goals as goal

pub returns-in-Cds : goal.returns-in-Cds
unfolding same_position
returns-in-Cds c = rw c.in-Cds.is c.same_cds.ensures

pub returns-in-Genome : goal.returns-in-Genome
unfolding same_position
returns-in-Genome c =
    let p = c.args.p in
    let q = c.args.q in
    elim c.in-Genome.is [
      | inl genome ↦ rw genome (c.same_genomic.ensures ∙ genome_same p.number q.number p.unknown q.unknown)
      | inr mt ↦ rw mt (c.same_genomic.ensures ∙ mt_same p.number q.number p.unknown q.unknown)
    ]

pub returns-in-Tx : goal.returns-in-Tx
unfolding same_position
returns-in-Tx c = elim c.in-Tx.is [ inl tx ↦ rw tx c.same_based.ensures | inr rna ↦ rw rna c.same_based.ensures ]

pub returns-in-Prot : goal.returns-in-Prot
unfolding same_position
returns-in-Prot c = rw c.in-Prot.is c.same_residual.ensures
