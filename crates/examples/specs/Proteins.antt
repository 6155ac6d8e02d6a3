-- Texts of the kind p with their trees: each body without location, and each form of an edit.
use Prim.Native.Char.{code}
use Rattle.std.specs.Prelude.{List, [], ◌∷◌}
use Rattle.std.proofs.Math.Option.{none, some}
use Rattle.texts.specs.Ascii.{ascii}
use Rattle.record.specs.declared.Kind.TheVariants.{Prot}
use Rattle.grammar.specs.Header.{Accession.accession, HeaderTree, HeaderTree.header}
use Rattle.grammar.specs.Positions.{Residual.residual}
use Rattle.grammar.specs.Shapes.{Interval.one, Interval.two, Mu.certain, Mu.uncertain, Both.both}
use Rattle.grammar.specs.ProteinEdits.{Terminal.ter, Terminal.x, Terminal.star, Length.counted, Length.unsaid, Stop.stop, ExtEnd.nothing, ExtEnd.later, ExtEnd.earlier, ProteinEditTree, ProteinEditTree.subst, ProteinEditTree.subst_unknown, ProteinEditTree.equal, ProteinEditTree.del, ProteinEditTree.dup, ProteinEditTree.ins, ProteinEditTree.del_ins, ProteinEditTree.fs, ProteinEditTree.ext}
use Rattle.grammar.specs.ProteinEdits as P
use Rattle.grammar.specs.Bodies.{Ends, ProteinBody, ProteinBody.met1, ProteinBody.bracketed_met1, ProteinBody.no_protein_uncertain, ProteinBody.no_protein, ProteinBody.no_change_uncertain, ProteinBody.no_change, ProteinBody.unknown, ProteinBody.change, ProteinBody.bracketed}
use Rattle.grammar.specs.Texts.{Text, Text.text}
use Rattle.examples.specs.Tables.{Row, row, ab}

-- AB_12.3(KIT)
abbrev kit : HeaderTree
kit = header (accession (code "A") (ascii "B") (some (ascii "12")) (some (ascii "3"))) (some (ascii "KIT"))

abbrev met : Ends Prot
met = one (residual (ascii "Met") (ascii "1"))

abbrev gly : Ends Prot
gly = one (residual (ascii "Gly") (ascii "2"))

abbrev ter9 : Ends Prot
ter9 = one (residual (ascii "Ter") (ascii "9"))

-- location and edit, both certain
abbrev sure : Ends Prot → ProteinEditTree → ProteinBody
sure i e = change (both (certain i) (certain e))

-- the texts that are never read as location and edit
abbrev pub initiations : List (Row Text)
initiations =
    row "AB_12.3:p.Met1?" (text ab Prot met1) ∷
    row "AB_12.3:p.(Met1?)" (text ab Prot bracketed_met1) ∷
    []

abbrev pub proteins : List (Row Text)
proteins =
    row "AB_12.3:p.0?" (text ab Prot no_protein_uncertain) ∷
    row "AB_12.3:p.0" (text ab Prot no_protein) ∷
    row "AB_12.3:p.(=)" (text ab Prot no_change_uncertain) ∷
    row "AB_12.3:p.=" (text ab Prot no_change) ∷
    row "AB_12.3:p.?" (text ab Prot unknown) ∷
    row "AB_12.3:p.Met01?" (text ab Prot (sure (one (residual (ascii "Met") (ascii "01"))) subst_unknown)) ∷
    row "AB_12.3:p.Met1_Met1?" (text ab Prot (sure (two (residual (ascii "Met") (ascii "1")) (residual (ascii "Met") (ascii "1"))) subst_unknown)) ∷
    row "AB_12.3:p.(Met1)(?)" (text ab Prot (change (both (uncertain met) (uncertain subst_unknown)))) ∷
    row "AB_12.3:p.(Met1)?" (text ab Prot (change (both (uncertain met) (certain subst_unknown)))) ∷
    row "AB_12.3:p.Met1(?)" (text ab Prot (change (both (certain met) (uncertain subst_unknown)))) ∷
    row "AB_12.3(KIT):p.(Gly2Arg)" (text kit Prot (bracketed (both gly (subst (ascii "Arg"))))) ∷
    row "AB_12.3(KIT):p.(Gly2)(Arg)" (text kit Prot (change (both (uncertain gly) (uncertain (subst (ascii "Arg")))))) ∷
    row "AB_12.3:p.Gly2Arg" (text ab Prot (sure gly (subst (ascii "Arg")))) ∷
    row "AB_12.3:p.G2R" (text ab Prot (sure (one (residual (ascii "G") (ascii "2"))) (subst (ascii "R")))) ∷
    row "AB_12.3:p.Gly2=" (text ab Prot (sure gly equal)) ∷
    row "AB_12.3:p.Gly2_Arg5del" (text ab Prot (sure (two (residual (ascii "Gly") (ascii "2")) (residual (ascii "Arg") (ascii "5"))) del)) ∷
    row "AB_12.3:p.*7dup" (text ab Prot (sure (one (residual (ascii "*") (ascii "7"))) dup)) ∷
    row "AB_12.3:p.Gly2insAlaCys" (text ab Prot (sure gly (ins (ascii "AlaCys")))) ∷
    row "AB_12.3:p.Gly2delinsAC*" (text ab Prot (sure gly (del_ins (ascii "AC*")))) ∷
    row "AB_12.3:p.Gly2fs" (text ab Prot (sure gly (fs none none))) ∷
    row "AB_12.3:p.Gly2Argfs" (text ab Prot (sure gly (fs (some (ascii "Arg")) none))) ∷
    row "AB_12.3:p.Gly2RfsTer17" (text ab Prot (sure gly (fs (some (ascii "R")) (some (stop ter (counted (ascii "17"))))))) ∷
    row "AB_12.3:p.Gly2fs*?" (text ab Prot (sure gly (fs none (some (stop star P.Length.unknown))))) ∷
    row "AB_12.3:p.Gly2fsX" (text ab Prot (sure gly (fs none (some (stop x unsaid))))) ∷
    row "AB_12.3:p.Ter9ext" (text ab Prot (sure ter9 (ext none nothing))) ∷
    row "AB_12.3:p.Ter9Glnext*17" (text ab Prot (sure ter9 (ext (some (ascii "Gln")) (later (stop star (counted (ascii "17"))))))) ∷
    row "AB_12.3:p.Ter9extTer?" (text ab Prot (sure ter9 (ext none (later (stop ter P.Length.unknown))))) ∷
    row "AB_12.3:p.Ter9QextX" (text ab Prot (sure ter9 (ext (some (ascii "Q")) (later (stop x unsaid))))) ∷
    row "AB_12.3:p.Met1ext-5" (text ab Prot (sure met (ext none (earlier none (ascii "5"))))) ∷
    row "AB_12.3:p.Gly2extTer-0" (text ab Prot (sure gly (ext none (earlier (some (ascii "Ter")) (ascii "0"))))) ∷
    row "AB_12.3:p.Gly2extMet-0" (text ab Prot (sure gly (ext none (earlier (some (ascii "Met")) (ascii "0"))))) ∷
    []
