-- The languages of positions, of their intervals, and of locations, with what may follow each.
use Rattle.std.specs.Prelude.{ℕ, ◌≡◌, true, false, ◌&&◌, eqb}
use Prim.Native.Char.{code}
use Rattle.std.proofs.Math.Path.{refl}
use mathlib.Core.List.{List, [], ◌∷◌, ◌++◌, append_assoc}
use Rattle.std.proofs.Common.{arith, eqb-true}
use Rattle.texts.specs.Ascii.{ascii}
use Rattle.texts.proofs.Tests.{and-true, never, clash}
use Rattle.texts.specs.Runs.{every, run}
use Rattle.texts.proofs.Runs.{run_first}
use Rattle.texts.specs.Words.{starts}
use Rattle.texts.proofs.Words.{starts_other}
use Rattle.alphabet.specs.Letters.{among, digit, residue}
use Rattle.alphabet.proofs.Apart.{none_among}
use Rattle.residue.proofs.ResiduesRead.{residue_first, residue_some}
use Rattle.record.specs.declared.Kind.{Kind}
use Rattle.record.specs.declared.Kind.TheVariants.{Cds, Genome, Mt, Tx, Prot, Rna}
use Rattle.grammar.specs.Positions.{Mark.bare, Mark.plus, Mark.minus, Mark.star, Based, Based.based, Genomic, Genomic.known, Genomic.unknown, Residual, Residual.residual, PositionTree, print_offset, print_based, print_genomic, print_residual, print_position, WfBased, WfGenomic, WfResidual, WfPosition}
use Rattle.grammar.specs.Shapes.{Interval.one, Interval.two}
use Rattle.grammar.specs.Bodies.{Ends, print_ends, WfEnds}
use Rattle.lang.specs.Lang.{Lang}
use Rattle.lang.specs.IntervalLang.{FollowsInterval}
use Rattle.lang.proofs.IntervalLang.{interval}
use Rattle.lang.specs.MuLang.{Brackets}
use Rattle.lang.proofs.MuLang.{mu}
use Rattle.lang_locations.specs.Parse.{parse_offset, parse_position}
use Rattle.lang_locations.specs.Sound.{Follows}
use Rattle.lang_locations.proofs.Sound.{complete_position, sound_position}

abbrev pub pos_lang : Kind → Lang
pos_lang k = record { Tree = PositionTree k; print = print_position k; Wf = WfPosition k; Follows = Follows; parse = parse_position k; complete = complete_position k; sound = sound_position k }

-- ---- what may follow a position
pub follows_nil : Follows []
unfolding run parse_offset starts
follows_nil = record { no_digit = refl; no_offset = refl }

-- a byte that is none of some does not start as one of them
starts_among : (xs : List ℕ) (c : ℕ) → among c xs ≡ true → (b : ℕ) (r : List ℕ) → among b xs ≡ false → starts (c ∷ []) (b ∷ r) ≡ false
unfolding starts
starts_among xs c i b r n = never (eqb c b && true) (λ q. clash (rw (eqb-true c b (and-true (eqb c b) true q).0) at i) n)

follows_first : (b : ℕ) (r : List ℕ) → digit b ≡ false → starts (ascii "+") (b ∷ r) ≡ false → starts (ascii "-") (b ∷ r) ≡ false → Follows (b ∷ r)
unfolding parse_offset
follows_first b r d p m = record { no_digit = run_first digit b r d; no_offset = rw (p, m) }

-- a byte that is no digit and no sign
pub follows_at : (b : ℕ) (r : List ℕ) → digit b ≡ false → among b (ascii "+-") ≡ false → Follows (b ∷ r)
follows_at b r d n = follows_first b r d (starts_among (ascii "+-") (code "+") refl b r n) (starts_among (ascii "+-") (code "-") refl b r n)

pub may_join : (r : List ℕ) → Follows (ascii "_" ++ r)
unfolding digit
may_join r = follows_at (code "_") r refl refl

abbrev pub ends_lang : Kind → Lang
ends_lang k = interval (pos_lang k) may_join

-- ---- what may follow an interval, and so a location
module _ (k : Kind) where
  module _ (b : ℕ) (r : List ℕ) where
    -- a byte that is no digit, no sign and no `_`
    pub ends_follows_at : digit b ≡ false → among b (ascii "+-_") ≡ false → FollowsInterval (pos_lang k) (b ∷ r)
    ends_follows_at d n = record {
      follows = follows_first b r d (starts_among (ascii "+-_") (code "+") refl b r n) (starts_among (ascii "+-_") (code "-") refl b r n);
      no_bar = starts_among (ascii "+-_") (code "_") refl b r n;
    }

-- ---- no position starts with a bracket, and a closing one may follow an interval
module _ (r : List ℕ) where
  based_open : (t : Based) → WfBased t → starts (ascii "(") (print_based t ++ r) ≡ false
  unfolding starts digit
  based_open (based bare ds o) w = rw (append_assoc ds (print_offset o) r) (starts_other digit (code "(") [] ds (print_offset o ++ r) refl w.0)
  based_open (based plus ds o) w = refl
  based_open (based minus ds o) w = refl
  based_open (based star ds o) w = refl

  genomic_open : (t : Genomic) → WfGenomic t → starts (ascii "(") (print_genomic t ++ r) ≡ false
  unfolding starts digit
  genomic_open (known ds) w = starts_other digit (code "(") [] ds r refl w
  genomic_open unknown w = refl

  residual_open : (t : Residual) → WfResidual t → starts (ascii "(") (print_residual t ++ r) ≡ false
  unfolding residue every
  residual_open (residual [] ds) w = absurd (omega (arith, residue_some [] w.0))
  residual_open (residual (b ∷ a) ds) w = starts_among (ascii "(") (code "(") refl b ((a ++ ds) ++ r) (none_among residue b (ascii "(") refl (residue_first b a w.0))

  position_open : (k : Kind) (t : PositionTree k) → WfPosition k t → starts (ascii "(") (print_position k t ++ r) ≡ false
  position_open Cds t w = based_open t w
  position_open Genome t w = genomic_open t w
  position_open Mt t w = genomic_open t w
  position_open Tx (based m ds o) w = based_open (based m ds o) w.1
  position_open Prot t w = residual_open t w
  position_open Rna (based m ds o) w = based_open (based m ds o) w.1

ends_open : (k : Kind) (t : Ends k) (r : List ℕ) → WfEnds k t → starts (ascii "(") (print_ends k t ++ r) ≡ false
ends_open k (one p) r w = position_open r k p w
ends_open k (two p q) r w = rw (append_assoc (print_position k p) (ascii "_" ++ print_position k q) r) (position_open _ k p w.0)

pub brackets : (k : Kind) → Brackets (ends_lang k)
unfolding digit
brackets k = record { no_open = ends_open k; may_close = λ r. ends_follows_at k (code ")") r refl refl }

abbrev pub location_lang : Kind → Lang
location_lang k = mu (ends_lang k) (brackets k)
