-- The body of a record, from one of any kind. Of a record's body it is that body.
use Rattle.std.specs.Prelude.{◌≡◌, refl}
use Rattle.record.specs.declared.Kind.{Kind}
use Rattle.record.specs.declared.Kind.TheVariants.{Cds, Genome, Mt, Tx, Prot, Rna}
use Rattle.record.specs.declared.MuNaEdit.{MuNaEdit}
use Rattle.record.specs.declared.ProtLocEdit.TheVariants.{Unknown}
use Rattle.record.specs.declared.Body.{Body}
use Rattle.record.specs.declared.Body.TheVariants as Bo
use Rattle.any_location.specs.declared.Location.{Location}
use Rattle.any_location.specs.ToRecord.{location_for}
use Rattle.any_location.proofs.ToRecord.{any_location_lem}
use Rattle.any_body.specs.declared.AnyBody.{AnyBody}
use Rattle.any_body.specs.declared.AnyBody.TheVariants.{Nucleotide, Protein}
use Rattle.any_body.specs.AnyBodies.{any_body}

abbrev pub loc_edit : Kind → Location → MuNaEdit → Body
loc_edit Cds l e = Bo.Cds (record { loc = location_for Cds l; edit = e })
loc_edit Genome l e = Bo.Genome (record { loc = location_for Genome l; edit = e })
loc_edit Mt l e = Bo.Mt (record { loc = location_for Mt l; edit = e })
loc_edit Tx l e = Bo.Tx (record { loc = location_for Tx l; edit = e })
loc_edit Prot l e = Bo.Prot Unknown
loc_edit Rna l e = Bo.Rna (record { loc = location_for Rna l; edit = e })

abbrev pub record_body : AnyBody → Body
record_body (Nucleotide k l e) = loc_edit k l e
record_body (Protein p) = Bo.Prot p

pub record_any : (b : Body) → record_body (any_body b) ≡ b
record_any (Bo.Cds b) = rw (any_location_lem Cds b.loc)
record_any (Bo.Genome b) = rw (any_location_lem Genome b.loc)
record_any (Bo.Mt b) = rw (any_location_lem Mt b.loc)
record_any (Bo.Tx b) = rw (any_location_lem Tx b.loc)
record_any (Bo.Prot b) = refl
record_any (Bo.Rna b) = rw (any_location_lem Rna b.loc)
