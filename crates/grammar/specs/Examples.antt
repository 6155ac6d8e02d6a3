-- Some trees: the texts that they print as, what they mean, and their numbers with their places.
use Rattle.std.specs.Prelude.{ℕ, List, [], ◌∷◌, ℤ, pos, negsuc, None, Some}
use Prim.Native.Char.{code}
use Prim.Native.String.{String}
use Rattle.std.proofs.Math.Option.{Option, none, some}
use Rattle.texts.specs.Ascii.{ascii}
use Rattle.numerals.specs.declared.Sign.TheVariants.{Unsigned, Plus, Minus, Negated}
use Rattle.record.specs.declared.Kind.{Kind}
use Rattle.record.specs.declared.Kind.TheVariants.{Cds, Genome, Mt, Tx, Prot, Rna}
use Rattle.record.specs.declared.CdsFrom.{CdsFrom}
use Rattle.record.specs.declared.CdsFrom.TheVariants.{Start, End}
use Rattle.record.specs.declared.CdsPos.{CdsPos}
use Rattle.record.specs.declared.UncertainLengthChange.TheVariants.{None as NoLength, Unknown, Known}
use Rattle.grammar.specs.Header.{Accession.accession, HeaderTree, HeaderTree.header, print_header, print_kind}
use Rattle.grammar.specs.Positions.{Mark.bare, Mark.plus, Mark.minus, Mark.star, OffsetTree.absent, OffsetTree.ahead, OffsetTree.back, Based, Based.based, Genomic.known, Genomic.unknown, Residual.residual, print_position}
use Rattle.grammar.specs.Shapes.{Interval.one, Interval.two, Mu.certain, Mu.uncertain, Both.both}
use Rattle.grammar.specs.NucleotideEdits.{NaEditTree.equal, NaEditTree.swap, NaEditTree.del_ins, NaEditTree.del_num_ins, NaEditTree.del_num, NaEditTree.del, NaEditTree.ins, NaEditTree.dup, NaEditTree.inv_num, NaEditTree.inv, print_na_edit}
use Rattle.grammar.specs.ProteinEdits as P
use Rattle.grammar.specs.ProteinEdits.{ProteinEditTree, ProteinEditTree.subst, ProteinEditTree.subst_unknown, ProteinEditTree.fs, ProteinEditTree.ext, Terminal.ter, Terminal.x, Length.counted, Length.unsaid, Stop.stop, ExtEnd.nothing, ExtEnd.later, ExtEnd.earlier, print_protein_edit}
use Rattle.grammar.specs.Bodies.{Ends, ProteinBody.met1, ProteinBody.bracketed_met1, ProteinBody.no_protein_uncertain, ProteinBody.no_protein, ProteinBody.no_change_uncertain, ProteinBody.no_change, ProteinBody.change, ProteinBody.bracketed, print_body}
use Rattle.grammar.specs.Bodies as B
use Rattle.grammar.specs.Texts.{Text, Text.text, print}
use Rattle.grammar.specs.Values as Values
use Rattle.grammar.specs.Values.{ProtPosV.prot_pos_v, BodyV, HeaderV.header_v, Value, Value.value, NaEditV, NaEditV.ref_alt, NaEditV.num_alt, NaEditV.del_ref, NaEditV.ins_v, NaEditV.dup_v, NaEditV.inv_ref, ProteinEditV, ProteinEditV.fs_v, ProteinEditV.ext_v, ProteinEditV.subst_v, ProteinEditV.del_ins_v, ProteinEditV.ins_pv, ProteinEditV.del_v, ProteinEditV.dup_pv, ProteinEditV.ident_v, ProteinBodyV, ProteinBodyV.ordinary, ProteinBodyV.no_change_v, ProteinBodyV.no_change_uncertain_v, ProteinBodyV.no_protein_v, ProteinBodyV.no_protein_uncertain_v, ProteinBodyV.unknown_v, ProteinBodyV.initiation_uncertain}
use Rattle.grammar.specs.Meaning.{meaning_cds, meaning_na_edit, meaning_protein_edit, meaning_protein_body, meaning}
use Rattle.grammar.specs.Numbers.{Numeral, Numeral.numeral, misfit, not_plain, numbers_at}

-- ---- trees
-- AB_12.3, with or without a gene
abbrev pub named : Option (List ℕ) → HeaderTree
named gene = header (accession (code "A") (ascii "B") (some (ascii "12")) (some (ascii "3"))) gene

abbrev pub residue_at : String → String → Ends Prot
residue_at r ds = one (residual (ascii r) (ascii ds))

abbrev pub arg : ProteinEditTree
arg = subst (ascii "Arg")

abbrev pub intronic : Text
intronic =
    text (named none) Cds
    (both (certain (two (based minus (ascii "7") (ahead (ascii "2"))) (based star (ascii "8") (back (ascii "3"))))) (certain (del_num_ins (ascii "12") (ascii "T"))))

abbrev pub inverted : Text
inverted = text (named (some (ascii "KIT"))) Genome (both (uncertain (one (known (ascii "5")))) (uncertain (inv_num (ascii "3"))))

abbrev pub mitochondrial : Text
mitochondrial = text (named none) Mt (both (certain (two (known (ascii "76")) unknown)) (certain (del_num (ascii "12"))))

abbrev pub transcribed : Text
transcribed = text (named none) Tx (both (uncertain (one (based minus (ascii "7") (ahead (ascii "2"))))) (certain (ins (ascii "AC"))))

abbrev pub doubled : Text
doubled = text (named none) Rna (both (certain (two (based plus (ascii "8") absent) (based bare (ascii "9") (back (ascii "1"))))) (uncertain (dup [])))

abbrev pub lengthened : Text
lengthened =
    text (named none) Prot
    (bracketed (both (two (residual (ascii "Gly") (ascii "2")) (residual (ascii "Arg") (ascii "7"))) (ext none (earlier (some (ascii "Met")) (ascii "5")))))

abbrev pub shifted : Text
shifted = text (named none) Prot (change (both (certain (residue_at "Gly" "2")) (certain (fs (some (ascii "Arg")) (some (stop ter (counted (ascii "9"))))))))

-- ---- texts
abbrev pub prints : List (List ℕ × List ℕ)
prints =
    (print_header (named none), ascii "AB_12.3") ∷
    (print_header (named (some (ascii "KIT"))), ascii "AB_12.3(KIT)") ∷
    (print_header (header (accession (code "N") (ascii "M") none none) none), ascii "NM") ∷
    (print_kind Cds, ascii ":c.") ∷
    (print_kind Genome, ascii ":g.") ∷
    (print_kind Mt, ascii ":m.") ∷
    (print_kind Tx, ascii ":n.") ∷
    (print_kind Prot, ascii ":p.") ∷
    (print_kind Rna, ascii ":r.") ∷
    (print_position Cds (based star (ascii "5") (back (ascii "3"))), ascii "*5-3") ∷
    (print_position Tx (based minus (ascii "7") (ahead (ascii "0"))), ascii "-7+0") ∷
    (print_position Rna (based plus (ascii "8") absent), ascii "+8") ∷
    (print_position Genome (known (ascii "76")), ascii "76") ∷
    (print_position Mt unknown, ascii "?") ∷
    (print_position Prot (residual (ascii "Gly") (ascii "2")), ascii "Gly2") ∷
    (print_na_edit (equal (ascii "AC")), ascii "AC=") ∷
    (print_na_edit (swap (code "A") (code "T")), ascii "A>T") ∷
    (print_na_edit (del_ins (ascii "A") (ascii "T")), ascii "delAinsT") ∷
    (print_na_edit (del_num_ins (ascii "12") (ascii "T")), ascii "del12insT") ∷
    (print_na_edit (del_num (ascii "12")), ascii "del12") ∷
    (print_na_edit (del (ascii "AC")), ascii "delAC") ∷
    (print_na_edit (ins (ascii "AC")), ascii "insAC") ∷
    (print_na_edit (dup (ascii "AC")), ascii "dupAC") ∷
    (print_na_edit (inv_num (ascii "12")), ascii "inv12") ∷
    (print_na_edit (inv (ascii "AC")), ascii "invAC") ∷
    (print_protein_edit arg, ascii "Arg") ∷
    (print_protein_edit subst_unknown, ascii "?") ∷
    (print_protein_edit P.ProteinEditTree.equal, ascii "=") ∷
    (print_protein_edit P.ProteinEditTree.del, ascii "del") ∷
    (print_protein_edit P.ProteinEditTree.dup, ascii "dup") ∷
    (print_protein_edit (P.ProteinEditTree.ins (ascii "ArgGly")), ascii "insArgGly") ∷
    (print_protein_edit (P.ProteinEditTree.del_ins (ascii "RG")), ascii "delinsRG") ∷
    (print_protein_edit (fs none none), ascii "fs") ∷
    (print_protein_edit (fs (some (ascii "Arg")) (some (stop ter (counted (ascii "9"))))), ascii "ArgfsTer9") ∷
    (print_protein_edit (ext none nothing), ascii "ext") ∷
    (print_protein_edit (ext none (later (stop x P.Length.unknown))), ascii "extX?") ∷
    (print_protein_edit (ext none (later (stop P.Terminal.star unsaid))), ascii "ext*") ∷
    (print_protein_edit (ext (some (ascii "Gly")) (earlier (some (ascii "Met")) (ascii "5"))), ascii "GlyextMet-5") ∷
    (print_body Cds (both (uncertain (two (based bare (ascii "1") absent) (based bare (ascii "2") absent))) (uncertain (dup []))), ascii "(1_2)(dup)") ∷
    (print_body Prot met1, ascii "Met1?") ∷
    (print_body Prot bracketed_met1, ascii "(Met1?)") ∷
    (print_body Prot no_protein_uncertain, ascii "0?") ∷
    (print_body Prot no_protein, ascii "0") ∷
    (print_body Prot no_change_uncertain, ascii "(=)") ∷
    (print_body Prot no_change, ascii "=") ∷
    (print_body Prot B.ProteinBody.unknown, ascii "?") ∷
    (print_body Prot (change (both (uncertain (residue_at "Gly" "2")) (uncertain arg))), ascii "(Gly2)(Arg)") ∷
    (print_body Prot (bracketed (both (residue_at "Gly" "2") arg)), ascii "(Gly2Arg)") ∷
    (print intronic, ascii "AB_12.3:c.-7+2_*8-3del12insT") ∷
    (print inverted, ascii "AB_12.3(KIT):g.(5)(inv3)") ∷
    (print mitochondrial, ascii "AB_12.3:m.76_?del12") ∷
    (print transcribed, ascii "AB_12.3:n.(-7+2)insAC") ∷
    (print doubled, ascii "AB_12.3:r.+8_9-1(dup)") ∷
    (print lengthened, ascii "AB_12.3:p.(Gly2_Arg7extMet-5)") ∷
    (print shifted, ascii "AB_12.3:p.Gly2ArgfsTer9") ∷
    []

-- ---- values
abbrev pub edit_values : List (NaEditV × NaEditV)
edit_values =
    (meaning_na_edit (equal (ascii "A")), ref_alt (ascii "A") (ascii "A")) ∷
    (meaning_na_edit (swap (code "A") (code "A")), ref_alt (ascii "A") (ascii "A")) ∷
    (meaning_na_edit (swap (code "A") (code "T")), ref_alt (ascii "A") (ascii "T")) ∷
    (meaning_na_edit (del_ins (ascii "A") (ascii "T")), ref_alt (ascii "A") (ascii "T")) ∷
    (meaning_na_edit (del_num_ins (ascii "12") (ascii "T")), num_alt (pos 12) (ascii "T")) ∷
    (meaning_na_edit (del_num (ascii "012")), Values.NaEditV.del_num (pos 12)) ∷
    (meaning_na_edit (del (ascii "AC")), del_ref (ascii "AC")) ∷
    (meaning_na_edit (ins (ascii "AC")), ins_v (ascii "AC")) ∷
    (meaning_na_edit (dup (ascii "AC")), dup_v (ascii "AC")) ∷
    (meaning_na_edit (inv_num (ascii "12")), Values.NaEditV.inv_num (pos 12)) ∷
    (meaning_na_edit (inv (ascii "AC")), inv_ref (ascii "AC")) ∷
    []

abbrev pub cds_values : List (CdsPos × CdsPos)
cds_values =
    (meaning_cds (based bare (ascii "76") absent), record { base = pos 76; offset = None; cds_from = Start }) ∷
    (meaning_cds (based plus (ascii "76") (ahead (ascii "0"))), record { base = pos 76; offset = Some (pos 0); cds_from = Start }) ∷
    (meaning_cds (based bare (ascii "76") (ahead (ascii "2"))), record { base = pos 76; offset = Some (pos 2); cds_from = Start }) ∷
    (meaning_cds (based minus (ascii "0") (back (ascii "0"))), record { base = pos 0; offset = Some (pos 0); cds_from = Start }) ∷
    (meaning_cds (based minus (ascii "2147483648") absent), record { base = negsuc 2147483647; offset = None; cds_from = Start }) ∷
    (meaning_cds (based star (ascii "5") (back (ascii "3"))), record { base = pos 5; offset = Some (negsuc 2); cds_from = End }) ∷
    []

abbrev pub protein_values : List (ProteinEditV × ProteinEditV)
protein_values =
    (meaning_protein_edit arg, subst_v (ascii "Arg")) ∷
    (meaning_protein_edit subst_unknown, subst_v (ascii "?")) ∷
    (meaning_protein_edit P.ProteinEditTree.equal, ident_v) ∷
    (meaning_protein_edit P.ProteinEditTree.del, del_v) ∷
    (meaning_protein_edit P.ProteinEditTree.dup, dup_pv) ∷
    (meaning_protein_edit (P.ProteinEditTree.ins (ascii "RG")), ins_pv (ascii "RG")) ∷
    (meaning_protein_edit (P.ProteinEditTree.del_ins (ascii "RG")), del_ins_v (ascii "RG")) ∷
    (meaning_protein_edit (fs (some (ascii "Arg")) (some (stop ter (counted (ascii "9"))))), fs_v (some (ascii "Arg")) (some (ascii "Ter")) (Known (pos 9))) ∷
    (meaning_protein_edit (fs none none), fs_v none none NoLength) ∷
    (meaning_protein_edit (ext none (later (stop x P.Length.unknown))), ext_v none (some (ascii "X")) Unknown) ∷
    (meaning_protein_edit (ext none (earlier (some (ascii "Met")) (ascii "5"))), ext_v none (some (ascii "Met")) (Known (negsuc 4))) ∷
    []

abbrev pub body_values : List (ProteinBodyV × ProteinBodyV)
body_values =
    (meaning_protein_body met1, initiation_uncertain) ∷
    (meaning_protein_body bracketed_met1, initiation_uncertain) ∷
    (meaning_protein_body no_protein_uncertain, no_protein_uncertain_v) ∷
    (meaning_protein_body no_protein, no_protein_v) ∷
    (meaning_protein_body no_change_uncertain, no_change_uncertain_v) ∷
    (meaning_protein_body no_change, no_change_v) ∷
    (meaning_protein_body B.ProteinBody.unknown, unknown_v) ∷
    (meaning_protein_body (bracketed (both (residue_at "Gly" "2") arg)), meaning_protein_body (change (both (uncertain (residue_at "Gly" "2")) (uncertain arg)))) ∷
    []

abbrev pub cds : ℤ → ℤ → CdsFrom → CdsPos
cds n o f = record { base = n; offset = Some o; cds_from = f }

abbrev pub under : Option (List ℕ) → (k : Kind) → BodyV k → Value
under gene k b = value (header_v (ascii "AB_12.3") gene) k b

abbrev pub values : List (Value × Value)
values =
    (meaning intronic, under none Cds (both (certain (both (cds (negsuc 6) (pos 2) Start) (cds (pos 8) (negsuc 2) End))) (certain (num_alt (pos 12) (ascii "T"))))) ∷
    (meaning inverted, under (some (ascii "KIT")) Genome (both (uncertain (both (Some (pos 5)) (Some (pos 5)))) (uncertain (Values.NaEditV.inv_num (pos 3))))) ∷
    (meaning mitochondrial, under none Mt (both (certain (both (Some (pos 76)) None)) (certain (Values.NaEditV.del_num (pos 12))))) ∷
    (meaning transcribed, under none Tx (both (uncertain (both (record { base = negsuc 6; offset = Some (pos 2) }) (record { base = negsuc 6; offset = Some (pos 2) }))) (certain (ins_v (ascii "AC"))))) ∷
    (meaning doubled, under none Rna (both (certain (both (record { base = pos 8; offset = None }) (record { base = pos 9; offset = Some (negsuc 0) }))) (uncertain (dup_v [])))) ∷
    (meaning lengthened, under none Prot (ordinary (both (uncertain (both (prot_pos_v (ascii "Gly") (pos 2)) (prot_pos_v (ascii "Arg") (pos 7)))) (uncertain (ext_v none (some (ascii "Met")) (Known (negsuc 4))))))) ∷
    (meaning shifted, under none Prot (ordinary (both (certain (both (prot_pos_v (ascii "Gly") (pos 2)) (prot_pos_v (ascii "Gly") (pos 2)))) (certain (fs_v (some (ascii "Arg")) (some (ascii "Ter")) (Known (pos 9))))))) ∷
    []

-- ---- numbers
abbrev pub numbers : List (List Numeral × List Numeral)
numbers =
    (numbers_at 0 intronic, numeral 11 Minus (ascii "7") ∷ numeral 13 Unsigned (ascii "2") ∷ numeral 16 Unsigned (ascii "8") ∷ numeral 18 Minus (ascii "3") ∷ numeral 22 Unsigned (ascii "12") ∷ []) ∷
    (numbers_at 0 inverted, numeral 16 Unsigned (ascii "5") ∷ numeral 22 Unsigned (ascii "3") ∷ []) ∷
    (numbers_at 0 mitochondrial, numeral 10 Unsigned (ascii "76") ∷ numeral 17 Unsigned (ascii "12") ∷ []) ∷
    (numbers_at 0 transcribed, numeral 12 Minus (ascii "7") ∷ numeral 14 Unsigned (ascii "2") ∷ []) ∷
    (numbers_at 0 doubled, numeral 11 Plus (ascii "8") ∷ numeral 13 Unsigned (ascii "9") ∷ numeral 15 Minus (ascii "1") ∷ []) ∷
    (numbers_at 0 lengthened, numeral 14 Unsigned (ascii "2") ∷ numeral 19 Unsigned (ascii "7") ∷ numeral 27 Negated (ascii "5") ∷ []) ∷
    (numbers_at 0 shifted, numeral 13 Unsigned (ascii "2") ∷ numeral 22 Unsigned (ascii "9") ∷ []) ∷
    (numbers_at 0 (text (named none) Prot met1), []) ∷
    []

-- `AB_12.3:c.` .. `del`, `AB_12.3:g.` .. `del`, `AB_12.3:p.Gly2extMet-` ..
abbrev pub on_cds : Based → Text
on_cds p = text (named none) Cds (both (certain (one p)) (certain (del [])))

abbrev pub on_genome : String → Text
on_genome ds = text (named none) Genome (both (certain (one (known (ascii ds)))) (certain (del [])))

abbrev pub extended : String → Text
extended ds = text (named none) Prot (change (both (certain (residue_at "Gly" "2")) (certain (ext none (earlier (some (ascii "Met")) (ascii ds))))))

abbrev pub misfits : List (Option ℕ × Option ℕ)
misfits =
    (misfit (numbers_at 0 (on_genome "2147483647")), none) ∷
    (misfit (numbers_at 0 (on_genome "2147483648")), some 10) ∷
    (misfit (numbers_at 0 (on_genome "0000000000000000001")), none) ∷
    (misfit (numbers_at 0 (on_cds (based plus (ascii "2147483648") absent))), some 11) ∷
    (misfit (numbers_at 0 (on_cds (based star (ascii "2147483648") absent))), some 11) ∷
    (misfit (numbers_at 0 (on_cds (based minus (ascii "2147483648") absent))), none) ∷
    (misfit (numbers_at 0 (on_cds (based minus (ascii "2147483649") absent))), some 11) ∷
    (misfit (numbers_at 0 (on_cds (based bare (ascii "5") (back (ascii "2147483648"))))), none) ∷
    (misfit (numbers_at 0 (on_cds (based bare (ascii "5") (ahead (ascii "2147483648"))))), some 12) ∷
    (misfit (numbers_at 0 (extended "2147483647")), none) ∷
    (misfit (numbers_at 0 (extended "2147483648")), some 21) ∷
    (misfit (numbers_at 0 (text (named none) Genome (both (certain (two (known (ascii "5")) (known (ascii "99999999999")))) (certain (del_num (ascii "99999999999")))))), some 12) ∷
    []

abbrev pub unplains : List (Option ℕ × Option ℕ)
unplains =
    (not_plain (numbers_at 0 (on_genome "0")), none) ∷
    (not_plain (numbers_at 0 (on_genome "0076")), some 10) ∷
    (not_plain (numbers_at 0 (on_genome "99999999999")), none) ∷
    (not_plain (numbers_at 0 (on_cds (based plus (ascii "76") absent))), some 11) ∷
    (not_plain (numbers_at 0 (on_cds (based minus (ascii "76") absent))), none) ∷
    (not_plain (numbers_at 0 (on_cds (based minus (ascii "0") absent))), some 11) ∷
    (not_plain (numbers_at 0 (on_cds (based star (ascii "0") absent))), none) ∷
    (not_plain (numbers_at 0 (on_cds (based star (ascii "00") absent))), some 11) ∷
    (not_plain (numbers_at 0 (on_cds (based bare (ascii "76") (ahead (ascii "0"))))), none) ∷
    (not_plain (numbers_at 0 (on_cds (based bare (ascii "76") (ahead (ascii "5"))))), none) ∷
    (not_plain (numbers_at 0 (on_cds (based bare (ascii "76") (ahead (ascii "05"))))), some 13) ∷
    (not_plain (numbers_at 0 (on_cds (based bare (ascii "76") (back (ascii "0"))))), some 13) ∷
    (not_plain (numbers_at 0 (on_cds (based plus (ascii "76") (back (ascii "0"))))), some 11) ∷
    (not_plain (numbers_at 0 (extended "0")), none) ∷
    (not_plain (numbers_at 0 (extended "00")), some 21) ∷
    (not_plain (numbers_at 0 (text (named none) Genome (both (certain (two (known (ascii "5")) (known (ascii "05")))) (certain (del_num (ascii "05")))))), some 12) ∷
    []
