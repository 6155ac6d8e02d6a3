-- The content of a tree's record is the tree's meaning, wherever its text stands.
use Rattle.std.specs.Prelude.{ℕ, ◌+◌, ◌≡◌, refl, List, [], ◌∷◌, ◌++◌, length}
use Rattle.std.proofs.Common.{ap, ◌∙◌}
use Rattle.std.proofs.Math.Option.{Option, none, some}
use Rattle.texts.specs.Ascii.{ascii}
use Rattle.numerals.specs.declared.Sign.TheVariants.{Unsigned}
use Rattle.record.specs.declared.Kind.{Kind}
use Rattle.record.specs.declared.Kind.TheVariants.{Cds, Genome, Mt, Tx, Prot, Rna}
use Rattle.grammar.specs.Header.{HeaderTree, HeaderTree.header, print_accession, print_gene, print_header, print_kind}
use Rattle.grammar.specs.Positions.{Residual, Residual.residual, PositionTree, print_position}
use Rattle.grammar.specs.Shapes.{Interval.one, Interval.two, Mu, Mu.certain, Mu.uncertain, Both, Both.both, print_mu}
use Rattle.grammar.specs.NucleotideEdits.{NaEditTree, NaEditTree.equal, NaEditTree.swap, NaEditTree.del_ins, NaEditTree.del_num_ins, NaEditTree.del_num, NaEditTree.del, NaEditTree.ins, NaEditTree.dup, NaEditTree.inv_num, NaEditTree.inv, print_na_edit}
use Rattle.grammar.specs.Optional.{print_optional}
use Rattle.grammar.specs.ProteinEdits as P
use Rattle.grammar.specs.ProteinEdits.{ProteinEditTree, Stop, Stop.stop, ExtEnd, ExtEnd.nothing, ExtEnd.later, ExtEnd.earlier, print_terminal, print_fs_end, print_ext_end, print_protein_edit}
use Rattle.grammar.specs.Bodies.{Ends, LocationTree, print_ends, print_location, ProteinBody, ProteinBody.met1, ProteinBody.bracketed_met1, ProteinBody.no_protein_uncertain, ProteinBody.no_protein, ProteinBody.no_change_uncertain, ProteinBody.no_change, ProteinBody.unknown, ProteinBody.change, ProteinBody.bracketed, BodyTree, print_body, print_protein_body}
use Rattle.grammar.specs.Texts.{Text, Text.text, print}
use Rattle.grammar.specs.Values.{ProtPosV.prot_pos_v, NaEditV.ref_alt, NaEditV.num_alt, NaEditV.del_ref, NaEditV.ins_v, NaEditV.dup_v, NaEditV.inv_ref, ProteinEditV.subst_v, ProteinEditV.del_ins_v, ProteinEditV.ins_pv, Value.value}
use Rattle.grammar.specs.Meaning.{number, meaning_position, meaning_ends, map_mu, meaning_na_edit, meaning_fs, meaning_ext, meaning_protein_edit, meaning_protein_body, meaning_body, meaning_header, meaning}
use Rattle.grammar.specs.Spans.{part, optional_part}
use Rattle.grammar.specs.Records.{span, part_of, prot_at, position_at, interval, interval_at, location_at, certainly, uncertainly, na_edit_at, mu_na_edit_at, fs_at, ext_at, protein_edit_at, mu_protein_edit_at, protein_body_at, body_at, header_at, record_at}
use Rattle.grammar.specs.Contents.{position_content, interval_content, location_content, na_edit_content, mu_na_edit_content, protein_edit_content, mu_protein_edit_content, prot_body_content, body_content, header_content, content}
use Rattle.grammar.specs.Standing.{Stands}
use Rattle.grammar.proofs.Standing.{left, right, inner, stands_part, stands_whole}

module _ (s : List ℕ) where
  -- ---- locations
  prot_content_lem : (k : ℕ) (p : Residual) → Stands s k (print_position Prot p) → position_content s Prot (prot_at k p) ≡ meaning_position Prot p
  prot_content_lem k (residual r ds) h = ap (λ (x : List ℕ). prot_pos_v x (number Unsigned ds)) (stands_part (left r _ h))

  position_content_lem : (kind : Kind) (k : ℕ) (p : PositionTree kind) → Stands s k (print_position kind p) → position_content s kind (position_at kind k p) ≡ meaning_position kind p
  position_content_lem Cds k p h = refl
  position_content_lem Genome k p h = refl
  position_content_lem Mt k p h = refl
  position_content_lem Tx k p h = refl
  position_content_lem Prot k p h = prot_content_lem k p h
  position_content_lem Rna k p h = refl

  interval_both : (kind : Kind) (a b : _) → interval_content s kind (interval kind a b) ≡ both (position_content s kind a) (position_content s kind b)
  interval_both Cds a b = refl
  interval_both Genome a b = refl
  interval_both Mt a b = refl
  interval_both Tx a b = refl
  interval_both Prot a b = refl
  interval_both Rna a b = refl

  ends_content : (kind : Kind) (k : ℕ) (i : Ends kind) → Stands s k (print_ends kind i) → interval_content s kind (interval_at kind k i) ≡ meaning_ends kind i
  ends_content kind k (one p) h =
      let e = position_content_lem kind k p h in
      interval_both kind (position_at kind k p) (position_at kind k p) ∙ cc
  ends_content kind k (two p q) h =
      let e = position_content_lem kind k p (left (print_position kind p) _ h) in
      let f = position_content_lem kind _ q (right (ascii "_") (right (print_position kind p) h)) in
      interval_both kind (position_at kind k p) (position_at kind (k + length (print_position kind p) + 1) q) ∙ cc

  location_certain : (kind : Kind) (i : _) → location_content s kind (certainly kind i) ≡ certain (interval_content s kind i)
  location_certain Cds i = refl
  location_certain Genome i = refl
  location_certain Mt i = refl
  location_certain Tx i = refl
  location_certain Prot i = refl
  location_certain Rna i = refl

  location_uncertain : (kind : Kind) (i : _) → location_content s kind (uncertainly kind i) ≡ uncertain (interval_content s kind i)
  location_uncertain Cds i = refl
  location_uncertain Genome i = refl
  location_uncertain Mt i = refl
  location_uncertain Tx i = refl
  location_uncertain Prot i = refl
  location_uncertain Rna i = refl

  location_content_lem : (kind : Kind) (k : ℕ) (l : LocationTree kind) → Stands s k (print_location kind l) → location_content s kind (location_at kind k l) ≡ map_mu (meaning_ends kind) l
  location_content_lem kind k (certain i) h = location_certain kind (interval_at kind k i) ∙ ap certain (ends_content kind k i h)
  location_content_lem kind k (uncertain i) h = location_uncertain kind (interval_at kind (k + 1) i) ∙ ap uncertain (ends_content kind (k + 1) i (inner h))

  -- ---- nucleotide edits
  na_edit_content_lem : (k : ℕ) (e : NaEditTree) → Stands s k (print_na_edit e) → na_edit_content s (na_edit_at k e) ≡ meaning_na_edit e
  na_edit_content_lem k (equal seq) h = ap (λ (x : List ℕ). ref_alt x x) (stands_part (left seq _ h))
  na_edit_content_lem k (swap a b) h =
      let f : part s (span k 1) ≡ a ∷ [] = stands_part (left (a ∷ []) _ h) in
      let g : part s (span (k + 2) 1) ≡ b ∷ [] = stands_part (right (a ∷ ascii ">") h) in
      cc
  na_edit_content_lem k (del_ins seq seq1) h =
      let f = stands_part (left seq _ (right (ascii "del") h)) in
      let g = stands_part (right (ascii "ins") (right seq (right (ascii "del") h))) in
      cc
  na_edit_content_lem k (del_num_ins ds seq1) h = ap (num_alt (number Unsigned ds)) (stands_part (right (ascii "ins") (right ds (right (ascii "del") h))))
  na_edit_content_lem k (del_num ds) h = refl
  na_edit_content_lem k (del seq) h = ap del_ref (stands_part (right (ascii "del") h))
  na_edit_content_lem k (ins seq1) h = ap ins_v (stands_part (right (ascii "ins") h))
  na_edit_content_lem k (dup seq) h = ap dup_v (stands_part (right (ascii "dup") h))
  na_edit_content_lem k (inv_num ds) h = refl
  na_edit_content_lem k (inv seq) h = ap inv_ref (stands_part (right (ascii "inv") h))

  mu_na_edit_content_lem : (k : ℕ) (e : Mu NaEditTree) → Stands s k (print_mu print_na_edit e) → mu_na_edit_content s (mu_na_edit_at k e) ≡ map_mu meaning_na_edit e
  mu_na_edit_content_lem k (certain e) h = ap certain (na_edit_content_lem k e h)
  mu_na_edit_content_lem k (uncertain e) h = ap uncertain (na_edit_content_lem (k + 1) e (inner h))

  -- ---- protein edits
  optional_content : (k : ℕ) (r : Option (List ℕ)) → Stands s k (print_optional [] r) → optional_part s (part_of k r) ≡ r
  optional_content k none h = refl
  optional_content k (some r) h = ap some (stands_part h)

  fs_content : (r : _) (q : Option (List ℕ)) (k : ℕ) (e : Option Stop) → optional_part s r ≡ q → Stands s k (ascii "fs" ++ print_fs_end e) → protein_edit_content s (fs_at r k e) ≡ meaning_fs q e
  fs_content r q k none f h = cc
  fs_content r q k (some (stop t n)) f h =
      let g = stands_part (left (print_terminal t) _ (right (ascii "fs") h)) in
      cc

  ext_content : (r : _) (q : Option (List ℕ)) (k : ℕ) (e : ExtEnd) → optional_part s r ≡ q → Stands s k (ascii "ext" ++ print_ext_end e) → protein_edit_content s (ext_at r k e) ≡ meaning_ext q e
  ext_content r q k nothing f h = cc
  ext_content r q k (later (stop t n)) f h =
      let g = stands_part (left (print_terminal t) _ (right (ascii "ext") h)) in
      cc
  ext_content r q k (earlier a ds) f h =
      let g = optional_content (k + 3) a (left (print_optional [] a) _ (right (ascii "ext") h)) in
      cc

  protein_edit_content_lem : (k : ℕ) (e : ProteinEditTree) → Stands s k (print_protein_edit e) → protein_edit_content s (protein_edit_at k e) ≡ meaning_protein_edit e
  protein_edit_content_lem k (P.ProteinEditTree.subst r) h = ap subst_v (stands_part h)
  protein_edit_content_lem k P.ProteinEditTree.subst_unknown h = ap subst_v (stands_part h)
  protein_edit_content_lem k P.ProteinEditTree.equal h = refl
  protein_edit_content_lem k P.ProteinEditTree.del h = refl
  protein_edit_content_lem k P.ProteinEditTree.dup h = refl
  protein_edit_content_lem k (P.ProteinEditTree.ins rs) h = ap ins_pv (stands_part (right (ascii "ins") h))
  protein_edit_content_lem k (P.ProteinEditTree.del_ins rs) h = ap del_ins_v (stands_part (right (ascii "delins") h))
  protein_edit_content_lem k (P.ProteinEditTree.fs r e) h =
      fs_content (part_of k r) r _ e (optional_content k r (left (print_optional [] r) _ h)) (right (print_optional [] r) h)
  protein_edit_content_lem k (P.ProteinEditTree.ext r e) h =
      ext_content (part_of k r) r _ e (optional_content k r (left (print_optional [] r) _ h)) (right (print_optional [] r) h)

  mu_protein_edit_content_lem : (k : ℕ) (e : Mu ProteinEditTree) → Stands s k (print_mu print_protein_edit e) → mu_protein_edit_content s (mu_protein_edit_at k e) ≡ map_mu meaning_protein_edit e
  mu_protein_edit_content_lem k (certain e) h = ap certain (protein_edit_content_lem k e h)
  mu_protein_edit_content_lem k (uncertain e) h = ap uncertain (protein_edit_content_lem (k + 1) e (inner h))

  -- ---- bodies
  protein_body_content : (k : ℕ) (b : ProteinBody) → Stands s k (print_protein_body b) → prot_body_content s (protein_body_at k b) ≡ meaning_protein_body b
  protein_body_content k met1 h = refl
  protein_body_content k bracketed_met1 h = refl
  protein_body_content k no_protein_uncertain h = refl
  protein_body_content k no_protein h = refl
  protein_body_content k no_change_uncertain h = refl
  protein_body_content k no_change h = refl
  protein_body_content k unknown h = refl
  protein_body_content k (change (both l e)) h =
      let f = location_content_lem Prot k l (left (print_location Prot l) _ h) in
      let g = mu_protein_edit_content_lem (k + length (print_location Prot l)) e (right (print_location Prot l) h) in
      cc
  protein_body_content k (bracketed (both i e)) h =
      let f = ends_content Prot (k + 1) i (left (print_ends Prot i) _ (inner h)) in
      let g = protein_edit_content_lem (k + 1 + length (print_ends Prot i)) e (right (print_ends Prot i) (inner h)) in
      cc

  na_body_content : (kind : Kind) (k : ℕ) (l : LocationTree kind) (e : Mu NaEditTree) → Stands s k (print_location kind l ++ print_mu print_na_edit e)
      → ◌≡◌ {A = Both _ _} (both (location_content s kind (location_at kind k l)) (mu_na_edit_content s (mu_na_edit_at (k + length (print_location kind l)) e))) (both (map_mu (meaning_ends kind) l) (map_mu meaning_na_edit e))
  na_body_content kind k l e h =
      let f = location_content_lem kind k l (left (print_location kind l) _ h) in
      let g = mu_na_edit_content_lem (k + length (print_location kind l)) e (right (print_location kind l) h) in
      cc

  body_content_lem : (kind : Kind) (k : ℕ) (b : BodyTree kind) (v : _) → Stands s k (print_body kind b) → body_content s v (body_at kind k b) ≡ value v kind (meaning_body kind b)
  body_content_lem Cds k (both l e) v h = ap (value v Cds) (na_body_content Cds k l e h)
  body_content_lem Genome k (both l e) v h = ap (value v Genome) (na_body_content Genome k l e h)
  body_content_lem Mt k (both l e) v h = ap (value v Mt) (na_body_content Mt k l e h)
  body_content_lem Tx k (both l e) v h = ap (value v Tx) (na_body_content Tx k l e h)
  body_content_lem Prot k b v h = ap (value v Prot) (protein_body_content k b h)
  body_content_lem Rna k (both l e) v h = ap (value v Rna) (na_body_content Rna k l e h)

  -- ---- the header, and the whole
  gene_content : (k : ℕ) (gene : Option (List ℕ)) → Stands s k (print_gene gene) → optional_part s (part_of (k + 1) gene) ≡ gene
  gene_content k none h = refl
  gene_content k (some g) h = ap some (stands_part (inner h))

  header_content_lem : (k : ℕ) (x : HeaderTree) → Stands s k (print_header x) → header_content s (header_at k x) ≡ meaning_header x
  header_content_lem k (header a gene) h =
      let f = stands_part (left (print_accession a) _ h) in
      let g = gene_content (k + length (print_accession a)) gene (right (print_accession a) h) in
      cc

  pub content_at : (k : ℕ) (t : Text) → Stands s k (print t) → content s (record_at k t) ≡ meaning t
  content_at k (text x kind b) h =
      let at : ℕ = k + length (print_header x) + length (print_kind kind) in
      rw (header_content_lem k x (left (print_header x) _ h))
      (body_content_lem kind at b (meaning_header x) (right (print_kind kind) (right (print_header x) h)))

-- a text that is the tree's alone
pub content_is : (t : Text) → content (print t) (record_at 0 t) ≡ meaning t
content_is t = content_at (print t) 0 t (stands_whole (print t))
