-- Which headers have a text, and which text: the accession as it stands in the source, then the gene in brackets.
use Rattle.std.specs.Prelude.{ℕ, ◌≡◌, Bool, ◌&&◌, leb, length}
use Rattle.std.proofs.Math.Path.{refl, ap}
use mathlib.Core.List.{List, ◌++◌}
use Rattle.std.proofs.Math.Option.{Option, none, some}
use Rattle.std.proofs.Math.Bool.{true, false, cond}
use Rattle.texts.specs.Runs.{every}
use Rattle.alphabet.specs.Letters.{alphanumeric}
use Rattle.record.specs.declared.Header as Declared
use Rattle.grammar.specs.Spans.{part, optional_part}
use Rattle.grammar.specs.Header.{Accession, HeaderTree.header, print_gene, print_header}
use Rattle.grammar.specs.Contents.{header_content}
use Rattle.grammar.specs.Values.{HeaderV.header_v}
use Rattle.lang.specs.Whole.{whole}
use Rattle.lang.proofs.Whole.{whole_sound}
use Rattle.lang.specs.Canon.{map_o}
use Rattle.lang_headers.proofs.Sound.{accession_lang}
use Rattle.lang_headers.specs.Canonical.{is_gene}
use Rattle.lang_headers.proofs.Canonical.{canon_header}

abbrev pub is_some : {A : Type 0} → Option A → Bool
is_some none = false
is_some (some a) = true

-- one or more letters or digits
abbrev pub is_name : List ℕ → Bool
is_name s = leb 1 (length s) && every alphanumeric s

module _ (a : List ℕ) (gene : Option (List ℕ)) where
  -- the accession has a text, and the gene
  pub has_text : is_some (canon_header (header_v a gene)) ≡ cond (is_gene gene) (is_some (whole accession_lang a)) false
  unfolding canon_header
  has_text = go (is_gene gene) (whole accession_lang a)
    where
      go : (t : Bool) (o : Option Accession) → is_some (cond t (map_o (λ u. header u gene) o) none) ≡ cond t (is_some o) false
      go true none = refl
      go true (some u) = refl
      go false o = refl

  text_is : map_o print_header (canon_header (header_v a gene)) ≡ cond (is_some (canon_header (header_v a gene))) (some (a ++ print_gene gene)) none
  unfolding canon_header
  text_is = go (is_gene gene) (whole accession_lang a) refl
    where
      go : (t : Bool) (o : Option Accession) → whole accession_lang a ≡ o → map_o print_header (cond t (map_o (λ u. header u gene) o) none) ≡ cond (is_some (cond t (map_o (λ u. header u gene) o) none)) (some (a ++ print_gene gene)) none
      go true none e = refl
      go true (some u) e = ap (λ (x : List ℕ). some (x ++ print_gene gene)) (whole_sound accession_lang a u e).1
      go false o e = refl

-- what is to be written for a header that has a text
pub header_text : (s : List ℕ) (h : Declared.Header)
    → map_o print_header (canon_header (header_content s h)) ≡ cond (is_some (canon_header (header_content s h))) (some (part s h.accession ++ print_gene (optional_part s h.gene_symbol))) none
header_text s h = text_is (part s h.accession) (optional_part s h.gene_symbol)
