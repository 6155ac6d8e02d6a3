-- A settled text whose numbers fit and are plainly spelled is the shortest text of its value.
use Rattle.std.specs.Prelude.{ℕ, ◌+◌, ◌≡◌, refl, List, ◌++◌, Bool, true, false, ◌&&◌, length}
use Rattle.std.proofs.Math.Option.{none, some}
use Rattle.texts.specs.Ascii.{ascii}
use Rattle.texts.proofs.Tests.{clash, never, and-true, and_false}
use Rattle.texts.specs.Words.{same}
use Rattle.texts.proofs.Words.{same_true}
use Rattle.alphabet.specs.Letters.{residue}
use Rattle.residue_rows.specs.Rows.{rows}
use Rattle.residue.specs.Residues.{one_of, is_three, is_one, is_residue}
use Rattle.record.specs.declared.Kind.{Kind}
use Rattle.record.specs.declared.Kind.TheVariants.{Cds, Genome, Mt, Tx, Prot, Rna}
use Rattle.grammar.specs.Header.{print_header, print_kind}
use Rattle.grammar.specs.Shapes.{Mu.certain, Mu.uncertain, Both.both}
use Rattle.grammar.specs.ProteinEdits.{ProteinEditTree, ProteinEditTree.subst, ProteinEditTree.subst_unknown, ProteinEditTree.equal, ProteinEditTree.del, ProteinEditTree.dup, ProteinEditTree.ins, ProteinEditTree.del_ins, ProteinEditTree.fs, ProteinEditTree.ext, Stop.stop, ExtEnd.nothing, ExtEnd.later, ExtEnd.earlier, WfProteinEdit}
use Rattle.grammar.specs.Bodies.{Ends, WfEnds, print_location, NaBody, WfNaBody, ProteinBody, ProteinBody.met1, ProteinBody.bracketed_met1, ProteinBody.no_protein_uncertain, ProteinBody.no_protein, ProteinBody.no_change_uncertain, ProteinBody.no_change, ProteinBody.unknown, ProteinBody.change, ProteinBody.bracketed, WfProteinBody, BodyTree, WfBody}
use Rattle.grammar.specs.Texts.{Text, Text.text, print, Wf}
use Rattle.grammar.specs.Values.{EndsV, ProteinEditV}
use Rattle.grammar.specs.Meaning.{meaning_ends, meaning_protein_edit, meaning_protein_body, meaning_na_body, meaning_body, meaning}
use Rattle.grammar.specs.Numbers.{Faultless, ends_numbers, mu_numbers, na_edit_numbers, protein_edit_numbers, na_body_numbers, protein_body_numbers, body_numbers, numbers_at, FaultlessText}
use Rattle.grammar.specs.NumberLaws.{all_plain}
use Rattle.grammar.proofs.NumberLaws.{faultless_both, plain_both}
use Rattle.lang.specs.MuCanon.{settled_mu}
use Rattle.lang_locations.specs.Equal.{eq_position}
use Rattle.lang_locations.proofs.Canonical.{ends_canon}
use Rattle.lang_locations.specs.Settled.{settled_ends, settled_location}
use Rattle.lang_locations.proofs.Settled.{settled_ends_lem, settled_location_lem}
use Rattle.lang_na_edits.specs.Alphabet.{Alphabet}
use Rattle.lang_na_edits.specs.Settled.{settled_na_edit}
use Rattle.lang_na_edits.proofs.Settled.{settled_na_edit_lem}
use Rattle.lang_protein_edits.proofs.Canonical.{protein_edit_canon}
use Rattle.lang_protein_edits.specs.Settled.{settled_protein_edit}
use Rattle.lang_protein_edits.proofs.Settled.{settled_protein_edit_lem}
use Rattle.lang_headers.proofs.Canonical.{header_found}
use Rattle.lang_bodies.specs.Settled.{settled_na_body, settled_protein_body, settled_body, settled_text}
use Rattle.promise.specs.Writing.{ShortestText}
use Rattle.lang_canon.specs.NaBodyCanon.{na_body_canon}
use Rattle.lang_canon.specs.ProteinBodyCanon.{met_one, is_unknown, is_met1, canon_protein_body}
use Rattle.lang_canon.specs.TextCanon.{canon_body, canon_text}
use Rattle.lang_canon.proofs.TextCanon.{text_some}

-- ---- nucleotide bodies
module _ (na : ℕ → Bool) (al : Alphabet na) (k : Kind) where
  settled_na : (i : ℕ) (b : NaBody k) → WfNaBody na k b → Faultless (na_body_numbers k i b) → all_plain (na_body_numbers k i b) ≡ true → settled_na_body k b ≡ true → (na_body_canon na al k).canon (meaning_na_body k b) ≡ some b
  settled_na i (both l e) w f p s =
      let j = i + length (print_location k l) in
      let g = faultless_both (mu_numbers (ends_numbers k) i l) (mu_numbers na_edit_numbers j e) f in
      let q = plain_both (mu_numbers (ends_numbers k) i l) (mu_numbers na_edit_numbers j e) p in
      let h = and-true (settled_location k l) (settled_mu settled_na_edit e) s in
      rw (settled_location_lem k i l w.0 g.0 q.0 h.0, settled_na_edit_lem na al j e w.1 g.1 q.1 h.1)

-- ---- protein bodies: a settled edit is not `?`, so that the text is not the Met-1 record's
no_residue : (r : List ℕ) → is_residue r ≡ true → same r (ascii "?") ≡ false
unfolding is_residue is_three is_one one_of rows residue same
no_residue r w = never (same r (ascii "?")) (λ h. clash (rw (same_true r (ascii "?") h) at w) refl)

not_unknown : (b : ProteinEditTree) → WfProteinEdit b → settled_protein_edit b ≡ true → is_unknown (meaning_protein_edit b) ≡ false
not_unknown (subst r) w s = no_residue r w
not_unknown subst_unknown w s = absurd (clash s refl)
not_unknown equal w s = refl
not_unknown del w s = refl
not_unknown dup w s = refl
not_unknown (ins rs) w s = refl
not_unknown (del_ins rs) w s = refl
not_unknown (fs r none) w s = refl
not_unknown (fs r (some (stop t n))) w s = refl
not_unknown (ext r nothing) w s = refl
not_unknown (ext r (later (stop t n))) w s = refl
not_unknown (ext r (earlier q ds)) w s = absurd (clash s refl)

not_met1 : (i : EndsV Prot) (e : ProteinEditV) → is_unknown e ≡ false → is_met1 i e ≡ false
not_met1 (both p q) e h = rw (h, and_false (eq_position Prot q met_one)) (and_false (eq_position Prot p met_one))

record PartsFound (a : Ends Prot) (b : ProteinEditTree) : Type 0 where
  ends : (ends_canon Prot).canon (meaning_ends Prot a) ≡ some a
  edit : protein_edit_canon.canon (meaning_protein_edit b) ≡ some b
  unbarred : is_met1 (meaning_ends Prot a) (meaning_protein_edit b) ≡ false

parts_found : (i j : ℕ) (a : Ends Prot) (b : ProteinEditTree) → WfEnds Prot a → WfProteinEdit b → Faultless (ends_numbers Prot i a ++ protein_edit_numbers j b) → all_plain (ends_numbers Prot i a ++ protein_edit_numbers j b) ≡ true
    → settled_ends Prot a && settled_protein_edit b ≡ true → PartsFound a b
parts_found i j a b v w f p s =
    let g = faultless_both (ends_numbers Prot i a) (protein_edit_numbers j b) f in
    let q = plain_both (ends_numbers Prot i a) (protein_edit_numbers j b) p in
    let h = and-true (settled_ends Prot a) (settled_protein_edit b) s in
    record { ends = settled_ends_lem Prot i a v g.0 q.0 h.0; edit = settled_protein_edit_lem j b w g.1 q.1 h.1; unbarred = not_met1 (meaning_ends Prot a) (meaning_protein_edit b) (not_unknown b w h.1) }

settled_protein : (i : ℕ) (b : ProteinBody) → WfProteinBody b → Faultless (protein_body_numbers i b) → all_plain (protein_body_numbers i b) ≡ true → settled_protein_body b ≡ true → canon_protein_body (meaning_protein_body b) ≡ some b
settled_protein i met1 w f p s = refl
settled_protein i bracketed_met1 w f p s = absurd (clash s refl)
settled_protein i no_protein_uncertain w f p s = refl
settled_protein i no_protein w f p s = refl
settled_protein i no_change_uncertain w f p s = absurd (clash s refl)
settled_protein i no_change w f p s = refl
settled_protein i unknown w f p s = refl
settled_protein i (change (both (certain a) (certain b))) w f p s =
    let c = parts_found i _ a b w.0.0 w.0.1 f p s in
    rw (c.unbarred, c.ends, c.edit)
settled_protein i (change (both (certain a) (uncertain b))) w f p s =
    let c = parts_found i _ a b w.0.0 w.0.1 f p s in
    rw (c.ends, c.edit)
settled_protein i (change (both (uncertain a) e)) w f p s = absurd (clash s refl)
settled_protein i (bracketed (both a b)) w f p s =
    let c = parts_found (i + 1) _ a b w.0.0 w.0.1 f p s in
    rw (c.unbarred, c.ends, c.edit)

-- ---- whole texts
module _ (letters : Kind → ℕ → Bool) (al : (k : Kind) → Alphabet (letters k)) where
  settled_body_lem : (k : Kind) (i : ℕ) (b : BodyTree k) → WfBody letters k b → Faultless (body_numbers k i b) → all_plain (body_numbers k i b) ≡ true → settled_body k b ≡ true → canon_body letters al k (meaning_body k b) ≡ some b
  settled_body_lem Cds = settled_na (letters Cds) (al Cds) Cds
  settled_body_lem Genome = settled_na (letters Genome) (al Genome) Genome
  settled_body_lem Mt = settled_na (letters Mt) (al Mt) Mt
  settled_body_lem Tx = settled_na (letters Tx) (al Tx) Tx
  settled_body_lem Prot = settled_protein
  settled_body_lem Rna = settled_na (letters Rna) (al Rna) Rna

  settled_canon : (x : Text) → Wf letters x → FaultlessText x → all_plain (numbers_at 0 x) ≡ true → settled_text x ≡ true → canon_text letters al (meaning x) ≡ some x
  settled_canon (text h k b) w f p s =
      rw (header_found h w.0, settled_body_lem k (0 + length (print_header h) + length (print_kind k)) b w.1 f p s)

  pub settled_shortest : (x : Text) → Wf letters x → FaultlessText x → all_plain (numbers_at 0 x) ≡ true → settled_text x ≡ true → ShortestText letters (print x) (meaning x)
  settled_shortest x w f p s = text_some letters al (meaning x) x (settled_canon x w f p s)
