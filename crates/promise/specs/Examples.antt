-- Document 01's tables row by row: the number and place of each answer, reference-free edits, widths at the edges.
use Rattle.std.specs.Prelude.{ℕ, List, [], ◌∷◌, ℤ, pos, negsuc, None, Some, Ok, Err}
use Rattle.std.proofs.Math.Option.{Option, none, some}
use Rattle.texts.specs.Ascii.{ascii}
use Rattle.record.specs.declared.Span.{Span}
use Rattle.record.specs.Named.{Offset, GenomePos, MtPos}
use Rattle.record.specs.declared.CdsFrom.{CdsFrom}
use Rattle.record.specs.declared.CdsFrom.TheVariants.{Start, End}
use Rattle.record.specs.declared.CdsPos.{CdsPos}
use Rattle.record.specs.declared.MuCdsInterval.TheVariants as MuCds
use Rattle.record.specs.declared.MuGenomeInterval.TheVariants as MuGenome
use Rattle.record.specs.declared.MuMtInterval.TheVariants as MuMt
use Rattle.record.specs.declared.MuTxInterval.TheVariants as MuTx
use Rattle.record.specs.declared.MuRnaInterval.TheVariants as MuRna
use Rattle.record.specs.declared.MuProtInterval.TheVariants as MuProt
use Rattle.record.specs.declared.NaEdit.TheVariants.{DelNum}
use Rattle.record.specs.declared.MuNaEdit.{MuNaEdit}
use Rattle.record.specs.declared.MuNaEdit.TheVariants as MuNa
use Rattle.record.specs.declared.ProteinEdit.TheVariants.{Del}
use Rattle.record.specs.declared.MuProteinEdit.TheVariants as MuPr
use Rattle.record.specs.declared.ProtLocEdit.TheVariants.{Ordinary, NoChange, NoChangeUncertain, NoProtein, NoProteinUncertain, Unknown, InitiationUncertain}
use Rattle.record.specs.declared.Body.{Body}
use Rattle.record.specs.declared.Body.TheVariants as Bo
use Rattle.record.specs.declared.Refusal.TheVariants.{NoRoom, NoWidth}
use Rattle.grammar.specs.Shapes.{Mu.uncertain, print_mu}
use Rattle.grammar.specs.Values.{NaEditV.ref_alt, NaEditV.num_alt, NaEditV.del_ref, NaEditV.del_num, NaEditV.ins_v, NaEditV.dup_v, NaEditV.inv_ref, NaEditV.inv_num}
use Rattle.promise.specs.Outcome.{Outcome, outcome_number, outcome_place, outcome_value, write_outcome, width_outcome, limit}
use Rattle.promise.specs.NoRef.{no_ref_edit}
use Rattle.promise.specs.Width.{body_width}

-- ---- numbers given back
abbrev pub told : {A : Type 0} → Outcome A → ℕ × ℕ
told o = (outcome_number o, outcome_place o)

-- lengths and widths, none of a refusal; the most bytes of a text
abbrev pub values : List (ℕ × ℕ)
values =
    (outcome_value (write_outcome (Ok 15)), 15) ∷
    (outcome_value (write_outcome (Err NoRoom)), 0) ∷
    (outcome_value (width_outcome (Ok 3)), 3) ∷
    (outcome_value (width_outcome (Err NoWidth)), 0) ∷
    (limit, 4096) ∷
    []

-- ---- reference-free writing
abbrev pub no_refs : List (List ℕ × List ℕ)
no_refs =
    (no_ref_edit (ref_alt (ascii "A") (ascii "A")), ascii "=") ∷
    (no_ref_edit (ref_alt (ascii "AC") (ascii "AC")), ascii "=") ∷
    (no_ref_edit (ref_alt [] []), ascii "=") ∷
    (no_ref_edit (ref_alt (ascii "A") (ascii "T")), ascii "A>T") ∷
    (no_ref_edit (ref_alt (ascii "AC") (ascii "T")), ascii "delinsT") ∷
    (no_ref_edit (ref_alt (ascii "A") (ascii "TG")), ascii "delinsTG") ∷
    (no_ref_edit (ref_alt (ascii "AC") (ascii "TG")), ascii "delinsTG") ∷
    (no_ref_edit (ref_alt [] (ascii "T")), ascii "delinsT") ∷
    (no_ref_edit (num_alt (pos 12) (ascii "T")), ascii "delinsT") ∷
    (no_ref_edit (del_ref (ascii "AC")), ascii "del") ∷
    (no_ref_edit (del_num (pos 12)), ascii "del") ∷
    (no_ref_edit (dup_v (ascii "AC")), ascii "dup") ∷
    (no_ref_edit (inv_ref (ascii "AC")), ascii "inv") ∷
    (no_ref_edit (inv_num (pos 12)), ascii "inv") ∷
    (no_ref_edit (ins_v (ascii "AC")), ascii "insAC") ∷
    (print_mu no_ref_edit (uncertain (dup_v (ascii "AC"))), ascii "(dup)") ∷
    []

-- ---- widths
abbrev pub deleted : MuNaEdit
deleted = MuNa.Certain (DelNum (pos 1))

abbrev pub cds_at : CdsFrom → ℤ → Offset → CdsPos
cds_at from base offset = record { base = base; offset = offset; cds_from = from }

abbrev pub on_cds : CdsPos → CdsPos → Body
on_cds a b = Bo.Cds (record { loc = MuCds.Certain (record { start = a; end = b }); edit = deleted })

abbrev pub about_cds : CdsPos → CdsPos → Body
about_cds a b = Bo.Cds (record { loc = MuCds.Uncertain (record { start = a; end = b }); edit = deleted })

abbrev pub on_genome : GenomePos → GenomePos → Body
on_genome a b = Bo.Genome (record { loc = MuGenome.Certain (record { start = a; end = b }); edit = deleted })

abbrev pub on_mt : MtPos → MtPos → Body
on_mt a b = Bo.Mt (record { loc = MuMt.Uncertain (record { start = a; end = b }); edit = deleted })

abbrev pub on_tx : ℤ → Offset → ℤ → Offset → Body
on_tx a o b p = Bo.Tx (record { loc = MuTx.Certain (record { start = record { base = a; offset = o }; end = record { base = b; offset = p } }); edit = deleted })

abbrev pub on_rna : ℤ → Offset → ℤ → Offset → Body
on_rna a o b p = Bo.Rna (record { loc = MuRna.Uncertain (record { start = record { base = a; offset = o }; end = record { base = b; offset = p } }); edit = deleted })

abbrev pub on_prot : ℤ → ℤ → Body
on_prot a b =
    let p : Span = record { start = 0; end = 3 } in
    Bo.Prot (Ordinary (MuProt.Certain (record { start = record { aa = p; number = a }; end = record { aa = p; number = b } })) (MuPr.Certain Del))

abbrev pub widths : List (Option ℕ × Option ℕ)
widths =
    (body_width (on_cds (cds_at Start (pos 76) None) (cds_at Start (pos 76) None)), some 1) ∷
    (body_width (on_cds (cds_at End (pos 3) None) (cds_at End (pos 5) None)), some 3) ∷
    (body_width (on_cds (cds_at Start (pos 77) None) (cds_at Start (pos 76) None)), none) ∷
    (body_width (on_cds (cds_at Start (pos 3) None) (cds_at End (pos 5) None)), none) ∷
    (body_width (on_cds (cds_at End (pos 3) None) (cds_at Start (pos 5) None)), none) ∷
    (body_width (on_cds (cds_at Start (pos 3) (Some (pos 0))) (cds_at Start (pos 5) None)), none) ∷
    (body_width (on_cds (cds_at Start (pos 3) None) (cds_at Start (pos 5) (Some (pos 0)))), none) ∷
    (body_width (on_genome (Some (pos 0)) (Some (pos 2147483647))), some 2147483648) ∷
    (body_width (on_genome None (Some (pos 5))), none) ∷
    (body_width (on_genome (Some (pos 5)) None), none) ∷
    (body_width (on_genome None None), none) ∷
    (body_width (on_mt (Some (pos 0)) (Some (pos 2))), some 3) ∷
    (body_width (on_mt (Some (pos 5)) (Some (pos 3))), none) ∷
    (body_width (on_mt None (Some (pos 5))), none) ∷
    (body_width (on_tx (negsuc 1) None (pos 3) None), some 5) ∷
    (body_width (on_tx (negsuc 1) (Some (pos 1)) (pos 3) None), none) ∷
    (body_width (on_rna (negsuc 1) None (pos 3) None), some 5) ∷
    (body_width (on_rna (negsuc 1) None (pos 3) (Some (negsuc 0))), none) ∷
    (body_width (on_prot (pos 0) (pos 3)), some 4) ∷
    (body_width (on_prot (pos 5) (pos 2)), none) ∷
    (body_width (Bo.Prot NoChange), none) ∷
    (body_width (Bo.Prot NoChangeUncertain), none) ∷
    (body_width (Bo.Prot NoProtein), none) ∷
    (body_width (Bo.Prot NoProteinUncertain), none) ∷
    (body_width (Bo.Prot Unknown), none) ∷
    (body_width (Bo.Prot InitiationUncertain), none) ∷
    -- request 2: from -1 to 1, from the least base to the last, from 0, to 0
    (body_width (on_cds (cds_at Start (negsuc 0) None) (cds_at Start (pos 1) None)), some 2) ∷
    (body_width (about_cds (cds_at Start (negsuc 0) None) (cds_at Start (pos 1) None)), some 2) ∷
    (body_width (on_cds (cds_at Start (negsuc 2147483647) None) (cds_at Start (pos 2147483647) None)), some 4294967295) ∷
    (body_width (on_cds (cds_at Start (negsuc 4) None) (cds_at Start (negsuc 2) None)), some 3) ∷
    (body_width (on_cds (cds_at Start (pos 0) None) (cds_at Start (pos 0) None)), none) ∷
    (body_width (on_cds (cds_at Start (pos 0) None) (cds_at Start (pos 1) None)), none) ∷
    (body_width (on_cds (cds_at Start (negsuc 0) None) (cds_at Start (pos 0) None)), none) ∷
    (body_width (on_cds (cds_at End (pos 0) None) (cds_at End (pos 5) None)), none) ∷
    (body_width (on_tx (pos 0) None (pos 0) None), none) ∷
    (body_width (on_rna (pos 0) None (pos 0) None), none) ∷
    []
