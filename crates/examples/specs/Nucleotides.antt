-- Texts of the kinds c, g, m, n and r with their trees: each mark and offset, one and two positions, brackets, each row of the table of edits.
use Prim.Native.Char.{code}
use Rattle.std.specs.Prelude.{List, [], ◌∷◌}
use Rattle.std.proofs.Math.Option.{none, some}
use Rattle.texts.specs.Ascii.{ascii}
use Rattle.record.specs.declared.Kind.{Kind}
use Rattle.record.specs.declared.Kind.TheVariants.{Cds, Genome, Mt, Tx, Rna}
use Rattle.grammar.specs.Header.{Accession.accession, HeaderTree.header}
use Rattle.grammar.specs.Positions.{Mark.bare, Mark.plus, Mark.minus, Mark.star, OffsetTree.absent, OffsetTree.ahead, OffsetTree.back, Based.based, Genomic.known, Genomic.unknown}
use Rattle.grammar.specs.Shapes.{Interval.one, Interval.two, Mu.certain, Mu.uncertain, Both.both}
use Rattle.grammar.specs.NucleotideEdits.{NaEditTree, NaEditTree.equal, NaEditTree.swap, NaEditTree.del_ins, NaEditTree.del_num_ins, NaEditTree.del_num, NaEditTree.del, NaEditTree.ins, NaEditTree.dup, NaEditTree.inv_num, NaEditTree.inv}
use Rattle.grammar.specs.Bodies.{Ends, NaBody}
use Rattle.grammar.specs.Texts.{Text, Text.text}
use Rattle.examples.specs.Tables.{Row, row, ab}

-- location and edit, both certain
abbrev sure : (k : Kind) → Ends k → NaEditTree → NaBody k
sure k i e = both (certain i) (certain e)

abbrev pub nucleotides : List (Row Text)
nucleotides =
    row "AB_12.3:c.76+0del" (text ab Cds (sure Cds (one (based bare (ascii "76") (ahead (ascii "0")))) (del []))) ∷
    row "AB_12.3:c.76-0del" (text ab Cds (sure Cds (one (based bare (ascii "76") (back (ascii "0")))) (del []))) ∷
    row "AB_12.3:c.760del" (text ab Cds (sure Cds (one (based bare (ascii "760") absent)) (del []))) ∷
    row "AB_12.3:c.76_76del" (text ab Cds (sure Cds (two (based bare (ascii "76") absent) (based bare (ascii "76") absent)) (del []))) ∷
    row "AB_12.3:c.-2147483648del" (text ab Cds (sure Cds (one (based minus (ascii "2147483648") absent)) (del []))) ∷
    row "AB_12.3:c.-2147483649del" (text ab Cds (sure Cds (one (based minus (ascii "2147483649") absent)) (del []))) ∷
    row "AB_12.3:c.-0del" (text ab Cds (sure Cds (one (based minus (ascii "0") absent)) (del []))) ∷
    row "AB_12.3:c.*5-3del" (text ab Cds (sure Cds (one (based star (ascii "5") (back (ascii "3")))) (del []))) ∷
    row "AB_12.3:g.?_?del" (text ab Genome (sure Genome (two unknown unknown) (del []))) ∷
    row "AB_12.3:g.2147483648del" (text ab Genome (sure Genome (one (known (ascii "2147483648"))) (del []))) ∷
    row "AB_12.3:c.1delAinsT" (text ab Cds (sure Cds (one (based bare (ascii "1") absent)) (del_ins (ascii "A") (ascii "T")))) ∷
    row "AB_12.3:c.1delinsT" (text ab Cds (sure Cds (one (based bare (ascii "1") absent)) (del_ins [] (ascii "T")))) ∷
    row "AB_12.3:m.7_9del12insTacg" (text ab Mt (sure Mt (two (known (ascii "7")) (known (ascii "9"))) (del_num_ins (ascii "12") (ascii "Tacg")))) ∷
    row "AB_12.3:n.-7+2_+8inv12" (text ab Tx (sure Tx (two (based minus (ascii "7") (ahead (ascii "2"))) (based plus (ascii "8") absent)) (inv_num (ascii "12")))) ∷
    row "AB_12.3:g.7=" (text ab Genome (sure Genome (one (known (ascii "7"))) (equal []))) ∷
    row "AB_12.3:g.7del12" (text ab Genome (sure Genome (one (known (ascii "7"))) (del_num (ascii "12")))) ∷
    row "AB_12.3:g.7delACgt" (text ab Genome (sure Genome (one (known (ascii "7"))) (del (ascii "ACgt")))) ∷
    row "NM:r.7AC=" (text (header (accession (code "N") (ascii "M") none none) none) Rna (sure Rna (one (based bare (ascii "7") absent)) (equal (ascii "AC")))) ∷
    row "NM_x1:m.(1_?)A>g" (text (header (accession (code "N") (ascii "M") (some (ascii "x1")) none) none) Mt (both (uncertain (two (known (ascii "1")) unknown)) (certain (swap (code "A") (code "g"))))) ∷
    row "nC9.007:c.5(dupAC)" (text (header (accession (code "n") (ascii "C9") none (some (ascii "007"))) none) Cds (both (certain (one (based bare (ascii "5") absent))) (uncertain (dup (ascii "AC"))))) ∷
    row "NM(KIT):r.(3)(insacgu)" (text (header (accession (code "N") (ascii "M") none none) (some (ascii "KIT"))) Rna (both (uncertain (one (based bare (ascii "3") absent))) (uncertain (ins (ascii "acgu"))))) ∷
    row "NM_1.2(4p):n.1inv" (text (header (accession (code "N") (ascii "M") (some (ascii "1")) (some (ascii "2"))) (some (ascii "4p"))) Tx (sure Tx (one (based bare (ascii "1") absent)) (inv []))) ∷
    row "AB_12.99999999999:c.1del" (text (header (accession (code "A") (ascii "B") (some (ascii "12")) (some (ascii "99999999999"))) none) Cds (sure Cds (one (based bare (ascii "1") absent)) (del []))) ∷
    []
