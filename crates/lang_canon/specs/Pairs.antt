-- Document 01, "Pairs at the edge": read, and written again.
use Rattle.std.specs.Prelude.{ℕ, ◌≡◌, List, [], ◌∷◌, ◌++◌, Bool, true, false, pos, Some}
use Prim.Native.String.{String}
use Rattle.std.proofs.Math.Option.{none, some}
use Rattle.texts.specs.Ascii.{ascii}
use Rattle.record.specs.declared.Kind.{Kind}
use Rattle.record.specs.declared.Kind.TheVariants.{Cds, Genome, Mt, Tx, Prot, Rna}
use Rattle.record.specs.declared.HgvsVariant.{HgvsVariant}
use Rattle.grammar.specs.Texts.{all_letters}
use Rattle.record.specs.declared.UncertainLengthChange.TheVariants.{Known}
use Rattle.grammar.specs.Shapes.{Mu.certain, Both.both}
use Rattle.grammar.specs.Values.{BodyV, ProtPosV.prot_pos_v, NaEditV.ref_alt, ProteinEditV.ext_v, HeaderV.header_v, ProteinBodyV, ProteinBodyV.ordinary, ProteinBodyV.no_change_v, ProteinBodyV.no_change_uncertain_v, ProteinBodyV.no_protein_v, ProteinBodyV.no_protein_uncertain_v, ProteinBodyV.unknown_v, ProteinBodyV.initiation_uncertain, Value, Value.value}
use Rattle.grammar.specs.Contents.{content}
use Rattle.promise.specs.Outcome.{Outcome.given, Outcome.refused}
use Rattle.promise.specs.Reading.{Reads}
use Rattle.promise.specs.Writing.{ReadsAsValue, ShortestText}

-- ---- what a row says
-- the value is a location and an edit, or a protein body without location, and this is its shortest text; or the refusal's number and place
pub data Result : Type 0 where
  change unlocated : List ℕ → Result
  refusal : (number place : ℕ) → Result

-- a text, and what becomes of it
pub data Row : Type 0 where
  row : List ℕ → Result → Row

abbrev pub is_ordinary : ProteinBodyV → Bool
is_ordinary (ordinary b) = true
is_ordinary no_change_v = false
is_ordinary no_change_uncertain_v = false
is_ordinary no_protein_v = false
is_ordinary no_protein_uncertain_v = false
is_ordinary unknown_v = false
is_ordinary initiation_uncertain = false

abbrev pub has_location : Value → Bool
has_location (value h Cds b) = true
has_location (value h Genome b) = true
has_location (value h Mt b) = true
has_location (value h Tx b) = true
has_location (value h Prot b) = is_ordinary b
has_location (value h Rna b) = true

-- t is read as a record with or without location whose shortest text is u
pub record Rewritten (location : Bool) (t u : List ℕ) : Type 0 where
  pub back : HgvsVariant
  pub reads : Reads all_letters t (given back)
  pub form : has_location (content t back) ≡ location
  pub shortest : ShortestText all_letters u (content t back)

abbrev pub Holds : Row → Type 0
Holds (row t (change u)) = Rewritten true t u
Holds (row t (unlocated u)) = Rewritten false t u
Holds (row t (refusal number place)) = Reads all_letters t (refused number place)

abbrev pub AllHold : List Row → Type 0
AllHold [] = Unit
AllHold (r ∷ rs) = Holds r × AllHold rs

-- ---- the table
abbrev pub under : String → List ℕ
under body = ascii "AB_12.3:" ++ ascii body

abbrev pub pairs : List Row
pairs =
    row (under "c.76+0del") (change (under "c.76+0del")) ∷
    row (under "c.76-0del") (change (under "c.76+0del")) ∷
    row (under "c.-2147483648del") (change (under "c.-2147483648del")) ∷
    row (under "c.-2147483649del") (refusal 3 11) ∷
    row (under "c.-0del") (change (under "c.0del")) ∷
    row (under "c.*5-3del") (change (under "c.*5-3del")) ∷
    row (under "n.*5del") (refusal 2 0) ∷
    row (under "g.?_?del") (change (under "g.?del")) ∷
    row (under "c.1delAinsT") (change (under "c.1A>T")) ∷
    row (under "c.1delAins") (refusal 2 0) ∷
    row (under "c.(76del)") (refusal 2 0) ∷
    row (under "p.Met01?") (change (under "p.Met01?")) ∷
    row (under "p.Met1_Met1?") (change (under "p.Met01?")) ∷
    row (under "p.(Met1)(?)") (change (under "p.(Met01?)")) ∷
    row (under "p.(Met1?)") (unlocated (under "p.Met1?")) ∷
    row (under "p.(Met1)?") (change (under "p.(Met1)?")) ∷
    row (under "p.Gly2extTer-0") (change (under "p.Gly2extTer0")) ∷
    row (under "p.Gly2extMet-0") (change (under "p.Gly2extMet-0")) ∷
    []

-- ---- made records that no text reads as: Ext with Met and change 5, and RefAlt with letters removed and none new
abbrev pub made : (k : Kind) → BodyV k → Value
made k b = value (header_v (ascii "AB_12.3") none) k b

abbrev pub made_records : List Value
made_records =
    made Prot (ordinary (both (certain (both (prot_pos_v (ascii "Gly") (pos 2)) (prot_pos_v (ascii "Gly") (pos 2)))) (certain (ext_v none (some (ascii "Met")) (Known (pos 5)))))) ∷
    made Genome (both (certain (both (Some (pos 1)) (Some (pos 1)))) (certain (ref_alt (ascii "A") []))) ∷
    []

abbrev pub NoTexts : List Value → Type 0
NoTexts [] = Unit
NoTexts (v ∷ vs) = ((t : List ℕ) → ReadsAsValue all_letters t v → ⊥) × NoTexts vs
