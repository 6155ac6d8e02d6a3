-- The width of a location of any kind.
use Rattle.std.specs.Prelude.{ℕ, ◌≡◌, refl, Bool, true, false, cond, ℤ, None, Some}
use Rattle.std.proofs.Common.{sym, ap}
use Rattle.std.proofs.Math.Option.{Option, none, some}
use Rattle.texts.proofs.Tests.{none_some}
use Rattle.record.specs.declared.Kind.{Kind}
use Rattle.record.specs.declared.Kind.TheVariants.{Cds, Genome, Mt, Tx, Prot, Rna}
use Rattle.promise.specs.Width.{between, base_index, unshifted, anchored}
use Rattle.any_location.specs.declared.Position.{Position}
use Rattle.any_location.specs.declared.Location.{Location}
use Rattle.measure_location.specs.Named.{LocationWidth, EndIndex}

abbrev pub width_given : LocationWidth → Option ℕ
width_given None = none
width_given (Some n) = some n

-- so that what is given determines the answer
pub one_width : (a b : LocationWidth) → width_given a ≡ width_given b → a ≡ b
one_width None None e = refl
one_width None (Some n) e = absurd (none_some e)
one_width (Some m) None e = absurd (none_some (sym e))
one_width (Some m) (Some n) e = let i : m ≡ n = cc in ap Some i

abbrev pub index_given : EndIndex → Option ℤ
index_given None = none
index_given (Some z) = some z

-- the kinds whose ends are bases, of which none is zero
abbrev pub has_bases : Kind → Bool
has_bases Cds = true
has_bases Genome = false
has_bases Mt = false
has_bases Tx = true
has_bases Prot = false
has_bases Rna = true

abbrev pub index_of : Bool → ℤ → Option ℤ
index_of bases n = cond bases (base_index n) (some n)

-- of an end that is known and has no offset
abbrev pub end_index : Bool → Position → Option ℤ
end_index bases p = cond p.unknown none (unshifted (index_of bases p.number) p.offset)

abbrev pub width_from_to : Kind → Position → Position → Option ℕ
width_from_to k p q = anchored p.cds_from q.cds_from (between (end_index (has_bases k) p) (end_index (has_bases k) q))

abbrev pub location_width : Kind → Location → Option ℕ
location_width k l = width_from_to k l.start l.end
