-- Document 01, "Reference-free writing".
use Rattle.std.specs.Prelude.{ℕ, ◌≡◌, List, ◌++◌, Bool, cond}
use Rattle.texts.specs.Ascii.{ascii}
use Rattle.texts.specs.Words.{same, one_each}
use Rattle.record.specs.declared.Kind.{Kind}
use Rattle.record.specs.declared.Kind.TheVariants.{Cds, Genome, Mt, Tx, Prot, Rna}
use Rattle.grammar.specs.Header.{print_header, WfHeader, print_kind}
use Rattle.grammar.specs.Shapes.{Mu, Both.both, print_mu}
use Rattle.grammar.specs.Bodies.{print_location, WfLocation}
use Rattle.grammar.specs.Values.{NaEditV, NaEditV.ref_alt, NaEditV.num_alt, NaEditV.del_ref, NaEditV.del_num, NaEditV.ins_v, NaEditV.dup_v, NaEditV.inv_ref, NaEditV.inv_num, EndsV, NaBodyV, HeaderV, Value, Value.value}
use Rattle.grammar.specs.Meaning.{meaning_header, meaning_ends, map_mu}
use Rattle.grammar.specs.Numbers.{Faultless, mu_numbers, ends_numbers}
use Rattle.grammar.specs.Reads.{BestText}
use Rattle.promise.specs.Writing.{ShortestText}

-- the edit from `NoRef<NaEdit>`
abbrev pub no_ref_edit : NaEditV → List ℕ
no_ref_edit (ref_alt a b) = cond (same a b) (ascii "=") (cond (one_each a b) (a ++ (ascii ">" ++ b)) (ascii "delins" ++ b))
no_ref_edit (num_alt n b) = ascii "delins" ++ b
no_ref_edit (del_ref a) = ascii "del"
no_ref_edit (del_num n) = ascii "del"
no_ref_edit (dup_v a) = ascii "dup"
no_ref_edit (inv_ref a) = ascii "inv"
no_ref_edit (inv_num n) = ascii "inv"
no_ref_edit (ins_v b) = ascii "ins" ++ b

-- header and location as in shortest writing
abbrev pub ShortestHeader : List ℕ → HeaderV → Type 0
ShortestHeader = BestText print_header WfHeader (λ h. Unit) meaning_header

abbrev pub ShortestLocation : (k : Kind) → List ℕ → Mu (EndsV k) → Type 0
ShortestLocation k = BestText (print_location k) (WfLocation k) (λ l. Faultless (mu_numbers (ends_numbers k) 0 l)) (map_mu (meaning_ends k))

-- brackets stay
pub record NoRefParts (h : HeaderV) (k : Kind) (l : Mu (EndsV k)) (e : Mu NaEditV) (t : List ℕ) : Type 0 where
  pub head : List ℕ
  pub location : List ℕ
  pub header_is : ShortestHeader head h
  pub location_is : ShortestLocation k location l
  pub text : t ≡ head ++ (print_kind k ++ (location ++ print_mu no_ref_edit e))

abbrev pub NaNoRef : HeaderV → (k : Kind) → NaBodyV k → List ℕ → Type 0
NaNoRef h k (both l e) t = NoRefParts h k l e t

-- p is written as in shortest writing
module _ (letters : Kind → ℕ → Bool) where
  abbrev pub NoRefText : Value → List ℕ → Type 0
  NoRefText (value h Cds b) t = NaNoRef h Cds b t
  NoRefText (value h Genome b) t = NaNoRef h Genome b t
  NoRefText (value h Mt b) t = NaNoRef h Mt b t
  NoRefText (value h Tx b) t = NaNoRef h Tx b t
  NoRefText (value h Prot b) t = ShortestText letters t (value h Prot b)
  NoRefText (value h Rna b) t = NaNoRef h Rna b t
