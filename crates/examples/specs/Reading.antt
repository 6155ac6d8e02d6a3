-- What reading answers to a text: the record with the spans of its parts, or the number of a refusal and its place.
use Rattle.std.specs.Prelude.{ℕ, ◌≡◌, List, [], ◌∷◌, ◌++◌, ℤ, pos, negsuc, replicate, None, Some, Ok, Err}
use Prim.Native.Char.{code}
use Rattle.texts.specs.Ascii.{ascii}
use Rattle.record.specs.declared.Span.{Span}
use Rattle.record.specs.Named.{Part, Offset, ReadAnswer}
use Rattle.record.specs.declared.CdsFrom.{CdsFrom}
use Rattle.record.specs.declared.CdsFrom.TheVariants.{Start, End}
use Rattle.record.specs.declared.CdsPos.{CdsPos}
use Rattle.record.specs.declared.ProtPos.{ProtPos}
use Rattle.record.specs.declared.MuCdsInterval.TheVariants as MuCds
use Rattle.record.specs.declared.MuGenomeInterval.TheVariants as MuGenome
use Rattle.record.specs.declared.MuProtInterval.TheVariants as MuProt
use Rattle.record.specs.declared.NaEdit as D
use Rattle.record.specs.declared.NaEdit.TheVariants.{RefAlt, DelRef}
use Rattle.record.specs.declared.MuNaEdit.TheVariants as MuNa
use Rattle.record.specs.declared.UncertainLengthChange.TheVariants.{Known}
use Rattle.record.specs.declared.ProteinEdit.TheVariants.{Subst, Ext}
use Rattle.record.specs.declared.MuProteinEdit.TheVariants as MuPr
use Rattle.record.specs.declared.ProtLocEdit.TheVariants.{Ordinary, InitiationUncertain}
use Rattle.record.specs.declared.Body.{Body}
use Rattle.record.specs.declared.Body.TheVariants as Bo
use Rattle.record.specs.declared.Refusal.TheVariants.{TooLong, NotInGrammar, DoesNotFit}
use Rattle.grammar.specs.Texts.{all_letters}
use Rattle.promise.specs.Outcome.{read_outcome}
use Rattle.promise.specs.Reading.{Reads}
use Rattle.examples.specs.Tables.{Row, row}

-- ---- the table
abbrev pub cut : ℕ → ℕ → Span
cut a b = record { start = a; end = b }

-- an accepted text: where the accession ends, the gene, the body
abbrev pub variant : ℕ → Part → Body → ReadAnswer
variant n gene b = Ok (record { header = record { accession = cut 0 n; gene_symbol = gene }; body = b })

-- c: a base, an offset, from where; its edit
abbrev pub cds : ℤ → Offset → CdsFrom → D.NaEdit → Body
cds n o f e =
    let p : CdsPos = record { base = n; offset = o; cds_from = f } in
    Bo.Cds (record { loc = MuCds.Certain (record { start = p; end = p }); edit = MuNa.Certain e })

-- p: a residue and its number
abbrev pub residue : ℕ → ℕ → ℤ → ProtPos
residue a b n = record { aa = cut a b; number = n }

abbrev pub answers : List (Row ReadAnswer)
answers =
    row "AB_12.3:c.76+0del" (variant 7 None (cds (pos 76) (Some (pos 0)) Start (DelRef (cut 17 17)))) ∷
    row "AB_12.3:c.*5-3del" (variant 7 None (cds (pos 5) (Some (negsuc 2)) End (DelRef (cut 17 17)))) ∷
    row "AB_12.3:c.-2147483648del" (variant 7 None (cds (negsuc 2147483647) None Start (DelRef (cut 24 24)))) ∷
    row "AB_12.3:c.-2147483649del" (Err (DoesNotFit 11)) ∷
    row "AB_12.3:c.-0del" (variant 7 None (cds (pos 0) None Start (DelRef (cut 15 15)))) ∷
    row "AB_12.3:c.1delAinsT" (variant 7 None (cds (pos 1) None Start (RefAlt (cut 14 15) (cut 18 19)))) ∷
    row "AB_12.3:c.1A>T" (variant 7 None (cds (pos 1) None Start (RefAlt (cut 11 12) (cut 13 14)))) ∷
    row "AB_12.3:g.?_?del" (variant 7 None (Bo.Genome (record { loc = MuGenome.Certain (record { start = None; end = None }); edit = MuNa.Certain (DelRef (cut 16 16)) }))) ∷
    row "AB_12.3(KIT):p.(Gly2Arg)" (variant 7 (Some (cut 8 11)) (Bo.Prot (Ordinary (MuProt.Uncertain (record { start = residue 16 19 (pos 2); end = residue 16 19 (pos 2) })) (MuPr.Uncertain (Subst (cut 20 23)))))) ∷
    row "AB_12.3:p.Gly2extMet-0" (variant 7 None (Bo.Prot (Ordinary (MuProt.Certain (record { start = residue 10 13 (pos 2); end = residue 10 13 (pos 2) })) (MuPr.Certain (Ext None (Some (cut 17 20)) (Known (pos 0))))))) ∷
    row "AB_12.3:p.(Met1?)" (variant 7 None (Bo.Prot InitiationUncertain)) ∷
    -- the header's digits are no number, those of a position are
    row "AB_12.99999999999:c.1del" (variant 17 None (cds (pos 1) None Start (DelRef (cut 24 24)))) ∷
    row "AB_12.3:c.12345678901del" (Err (DoesNotFit 10)) ∷
    row "AB_12.3:g.2147483648del" (Err (DoesNotFit 10)) ∷
    -- the leftmost of two
    row "AB_12.3:g.5_99999999999del99999999999" (Err (DoesNotFit 12)) ∷
    row "AB_12.3:p.Gly2extMet-2147483648" (Err (DoesNotFit 21)) ∷
    -- a number that would not fit, in a text that is not in the grammar
    row "AB_12.3:g.2147483648" (Err NotInGrammar) ∷
    row "AB_12.3:c.1delAins" (Err NotInGrammar) ∷
    row "" (Err NotInGrammar) ∷
    row "hello" (Err NotInGrammar) ∷
    -- 4,096 bytes may be read, one more is too long
    record { written = ascii "AB_12.3:c.1del" ++ replicate 4082 (code "A"); beside = variant 7 None (cds (pos 1) None Start (DelRef (cut 14 4096))) } ∷
    record { written = ascii "AB_12.3:c.1del" ++ replicate 4083 (code "A"); beside = Err TooLong } ∷
    []

-- it meets the reader's contract, and no other does
pub record IsAnswer (t : List ℕ) (a : ReadAnswer) : Type 0 where
  pub reads : Reads all_letters t (read_outcome a)
  pub only : (b : ReadAnswer) → Reads all_letters t (read_outcome b) → b ≡ a
