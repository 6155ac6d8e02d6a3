-- Document 01: asking for the accession of a record gives back that part of the caller's source and no copy.
use Rattle.std.specs.Prelude.{ℕ, ◌≡◌, List, [], false, length}
use Rattle.std.proofs.Common.{◌∙◌}
use Rattle.std.specs.Borrow.{Bor}
use Rattle.texts.proofs.Unique.{no_second_answer}
use Rattle.record.specs.declared.HgvsVariant.{HgvsVariant}
use Rattle.grammar.specs.Header.{Accession, print_accession, HeaderTree.header, print_header}
use Rattle.grammar.specs.Texts.{Text, Text.text, print}
use Rattle.grammar.specs.Spans.{inside, part}
use Rattle.grammar.specs.Records.{record_at}
use Rattle.grammar.proofs.Standing.{left, stands_part, stands_whole}
use Rattle.parts.specs.Places.{place_of, IsPart}

-- its bytes; none where its span lies outside or starts after its end
abbrev pub accession_of : List ℕ → HgvsVariant → List ℕ
accession_of s v = part s v.header.accession

-- r is those bytes where they stand in the source
abbrev pub IsAccession : Bor (List ℕ) → HgvsVariant → Bor (List ℕ) → Type 0
IsAccession source v r = IsPart source v.header.accession r

module _ (source : Bor (List ℕ)) (v : HgvsVariant) where
  -- no second answer fits
  pub no_second_accession : (r q : Bor (List ℕ)) → IsAccession source v r → IsAccession source v q → (r.now ≡ q.now) × (r.ref_ptr ≡ q.ref_ptr)
  no_second_accession r q a b = (no_second_answer a.bytes b.bytes, no_second_answer a.place b.place)

  -- the empty part at the source's start
  pub outside_accession : (r : Bor (List ℕ)) → inside (length source.now) v.header.accession ≡ false → IsAccession source v r → (r.now ≡ []) × (r.ref_ptr ≡ source.ref_ptr)
  unfolding part place_of
  outside_accession r e a = (a.bytes ∙ rw e, a.place ∙ rw e)

-- of a record that was read from a text it is the accession of the text
abbrev pub accession_in : Text → Accession
accession_in (text (header a gene) k b) = a

pub read_accession : (t : Text) → accession_of (print t) (record_at 0 t) ≡ print_accession (accession_in t)
read_accession (text (header a gene) k b) =
    stands_part (left (print_accession a) _ (left (print_header (header a gene)) _ (stands_whole (print (text (header a gene) k b)))))
