-- Whether two positions are one.
use Rattle.std.specs.Prelude.{◌≡◌, refl, Bool, true, false, ◌&&◌, eqb, ℤ, pos, negsuc, None, Some}
use Rattle.std.proofs.Common.{sym, ap, ◌∙◌, eqb-true, eq-eqb, SFits, to_z, of_z, to_z-of_z}
use Rattle.std.specs.Int.{w32}
use Rattle.texts.proofs.Tests.{and-true, true_and, clash, never}
use Rattle.texts.specs.Words.{same}
use Rattle.texts.proofs.Words.{same_true, same_refl}
use Rattle.record.specs.declared.Kind.{Kind}
use Rattle.record.specs.declared.Kind.TheVariants.{Cds, Genome, Mt, Tx, Prot, Rna}
use Rattle.record.specs.Named.{Offset}
use Rattle.record.specs.declared.CdsFrom.{CdsFrom}
use Rattle.record.specs.declared.CdsFrom.TheVariants.{Start, End}
use Rattle.record.specs.declared.CdsPos.{CdsPos}
use Rattle.grammar.specs.Values.{ProtPosV.prot_pos_v, PositionV}
use Rattle.lang_locations.specs.Equal.{eqℤ, eq_offset, eq_from, eq_position}

-- ---- what is equal is one
ℤ-true : (v w : ℤ) → eqℤ v w ≡ true → v ≡ w
ℤ-true (pos v) (pos w) e = ap pos (eqb-true v w e)
ℤ-true (pos v) (negsuc w) e = absurd (clash e refl)
ℤ-true (negsuc v) (pos w) e = absurd (clash e refl)
ℤ-true (negsuc v) (negsuc w) e = ap negsuc (eqb-true v w e)

offset_true : (v w : Offset) → eq_offset v w ≡ true → v ≡ w
offset_true None None e = refl
offset_true None (Some w) e = absurd (clash e refl)
offset_true (Some v) None e = absurd (clash e refl)
offset_true (Some v) (Some w) e = ap Some (ℤ-true v w e)

from_true : (v w : CdsFrom) → eq_from v w ≡ true → v ≡ w
from_true Start Start e = refl
from_true Start End e = absurd (clash e refl)
from_true End Start e = absurd (clash e refl)
from_true End End e = refl

-- a base and its offset, in whatever record
based_true : {A : Type 0} (made : ℤ → Offset → A) (v w : ℤ) (o u : Offset) → eqℤ v w && eq_offset o u ≡ true → made v o ≡ made w u
based_true made v w o u e =
    let h = and-true (eqℤ v w) (eq_offset o u) e in
    let p = ℤ-true v w h.0 in
    let q = offset_true o u h.1 in
    cc

cds_true : (v w : ℤ) (o u : Offset) (f g : CdsFrom) → eqℤ v w && (eq_offset o u && eq_from f g) ≡ true → ◌≡◌ {A = CdsPos} (record { base = v; offset = o; cds_from = f }) (record { base = w; offset = u; cds_from = g })
cds_true v w o u f g e =
    let h = and-true (eqℤ v w) (eq_offset o u && eq_from f g) e in
    let i = and-true (eq_offset o u) (eq_from f g) h.1 in
    rw (ℤ-true v w h.0, offset_true o u i.0, from_true f g i.1)

pub eq_true : (k : Kind) (v w : PositionV k) → eq_position k v w ≡ true → v ≡ w
eq_true Cds v w e = cds_true v.base w.base v.offset w.offset v.cds_from w.cds_from e
eq_true Genome None None e = refl
eq_true Genome None (Some w) e = absurd (clash e refl)
eq_true Genome (Some v) None e = absurd (clash e refl)
eq_true Genome (Some v) (Some w) e = ap Some (ℤ-true v w e)
eq_true Mt None None e = refl
eq_true Mt None (Some w) e = absurd (clash e refl)
eq_true Mt (Some v) None e = absurd (clash e refl)
eq_true Mt (Some v) (Some w) e = ap Some (ℤ-true v w e)
eq_true Tx v w e = based_true (λ z o. record { base = z; offset = o }) v.base w.base v.offset w.offset e
eq_true Prot (prot_pos_v r v) (prot_pos_v s w) e =
    let h = and-true (same r s) (eqℤ v w) e in
    let p = same_true r s h.0 in
    let q = ℤ-true v w h.1 in
    cc
eq_true Rna v w e = based_true (λ z o. record { base = z; offset = o }) v.base w.base v.offset w.offset e

-- ---- and each is equal to itself
ℤ-refl : (v : ℤ) → eqℤ v v ≡ true
ℤ-refl (pos v) = eq-eqb v v refl
ℤ-refl (negsuc v) = eq-eqb v v refl

offset_refl : (v : Offset) → eq_offset v v ≡ true
offset_refl None = refl
offset_refl (Some v) = ℤ-refl v

from_refl : (v : CdsFrom) → eq_from v v ≡ true
from_refl Start = refl
from_refl End = refl

pub eq_refl : (k : Kind) (v : PositionV k) → eq_position k v v ≡ true
eq_refl Cds v = true_and (ℤ-refl v.base) (true_and (offset_refl v.offset) (from_refl v.cds_from))
eq_refl Genome None = refl
eq_refl Genome (Some v) = ℤ-refl v
eq_refl Mt None = refl
eq_refl Mt (Some v) = ℤ-refl v
eq_refl Tx v = true_and (ℤ-refl v.base) (offset_refl v.offset)
eq_refl Prot (prot_pos_v r v) = true_and (same_refl r) (ℤ-refl v)
eq_refl Rna v = true_and (ℤ-refl v.base) (offset_refl v.offset)

-- ---- two numbers are one where the machine's are
pub machine_equal : (v w : ℤ) → SFits w32 v → SFits w32 w → eqb (of_z w32 v) (of_z w32 w) ≡ eqℤ v w
machine_equal v w f g = go (eqb (of_z w32 v) (of_z w32 w)) refl
  where
    go : (t : Bool) → eqb (of_z w32 v) (of_z w32 w) ≡ t → eqb (of_z w32 v) (of_z w32 w) ≡ eqℤ v w
    go true e =
        let m = eqb-true (of_z w32 v) (of_z w32 w) e in
        let j : v ≡ w = sym (to_z-of_z f) ∙ ap (to_z w32) m ∙ to_z-of_z g in
        e ∙ sym (ap (λ (z : ℤ). eqℤ v z) (sym j) ∙ ℤ-refl v)
    go false e =
        e ∙ sym (never (eqℤ v w) (λ q. clash (eq-eqb (of_z w32 v) (of_z w32 w) (ap (of_z w32) (ℤ-true v w q))) e))
