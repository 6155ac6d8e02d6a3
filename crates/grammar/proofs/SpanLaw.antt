-- The spans of a tree's record lie in the source in which the tree's text stands.
use Rattle.std.specs.Prelude.{ℕ, ◌+◌, ◌≡◌, refl, List, [], ◌∷◌, ◌++◌, true, length}
use Rattle.std.proofs.Math.Option.{Option, none, some}
use Rattle.texts.specs.Ascii.{ascii}
use Rattle.texts.proofs.Tests.{true_and}
use Rattle.record.specs.Named.{Part}
use Rattle.record.specs.declared.Kind.{Kind}
use Rattle.record.specs.declared.Kind.TheVariants.{Cds, Genome, Mt, Tx, Prot, Rna}
use Rattle.grammar.specs.Header.{HeaderTree, HeaderTree.header, print_accession, print_gene, print_header, print_kind}
use Rattle.grammar.specs.Positions.{Residual, Residual.residual, print_position}
use Rattle.grammar.specs.Shapes.{Interval.one, Interval.two, Mu, Mu.certain, Mu.uncertain, Both.both, print_mu}
use Rattle.grammar.specs.NucleotideEdits.{NaEditTree, NaEditTree.equal, NaEditTree.swap, NaEditTree.del_ins, NaEditTree.del_num_ins, NaEditTree.del_num, NaEditTree.del, NaEditTree.ins, NaEditTree.dup, NaEditTree.inv_num, NaEditTree.inv, print_na_edit}
use Rattle.grammar.specs.Optional.{print_optional}
use Rattle.grammar.specs.ProteinEdits as P
use Rattle.grammar.specs.ProteinEdits.{ProteinEditTree, Stop, Stop.stop, ExtEnd, ExtEnd.nothing, ExtEnd.later, ExtEnd.earlier, print_terminal, print_fs_end, print_ext_end, print_protein_edit}
use Rattle.grammar.specs.Bodies.{LocationTree, print_ends, print_location, ProteinBody, ProteinBody.met1, ProteinBody.bracketed_met1, ProteinBody.no_protein_uncertain, ProteinBody.no_protein, ProteinBody.no_change_uncertain, ProteinBody.no_change, ProteinBody.unknown, ProteinBody.change, ProteinBody.bracketed, BodyTree, print_body, print_protein_body}
use Rattle.grammar.specs.Texts.{Text, Text.text, print}
use Rattle.grammar.specs.Spans.{inside, inside_optional}
use Rattle.grammar.specs.Records.{span, part_of, prot_at, location_at, na_edit_at, mu_na_edit_at, fs_at, ext_at, protein_edit_at, mu_protein_edit_at, protein_body_at, body_at, record_at}
use Rattle.grammar.specs.Contents.{prot_location_inside, na_edit_inside, mu_na_edit_inside, protein_edit_inside, mu_protein_edit_inside, prot_body_inside, body_inside, spans_inside}
use Rattle.grammar.specs.Standing.{Stands}
use Rattle.grammar.proofs.Standing.{left, right, inner, stands_inside, stands_whole}

module _ (s : List ℕ) where
  abbrev n : ℕ
  n = length s

  -- ---- locations of p; the others have no span
  residue_inside : (k : ℕ) (p : Residual) → Stands s k (print_position Prot p) → inside n (prot_at k p).aa ≡ true
  residue_inside k (residual r ds) h = stands_inside (left r _ h)

  location_inside : (k : ℕ) (l : LocationTree Prot) → Stands s k (print_location Prot l) → prot_location_inside n (location_at Prot k l) ≡ true
  location_inside k (certain (one p)) h = true_and (residue_inside k p h) (residue_inside k p h)
  location_inside k (certain (two p q)) h =
      true_and (residue_inside k p (left (print_position Prot p) _ h)) (residue_inside _ q (right (ascii "_") (right (print_position Prot p) h)))
  location_inside k (uncertain (one p)) h = true_and (residue_inside (k + 1) p (inner h)) (residue_inside (k + 1) p (inner h))
  location_inside k (uncertain (two p q)) h =
      true_and (residue_inside (k + 1) p (left (print_position Prot p) _ (inner h)))
      (residue_inside _ q (right (ascii "_") (right (print_position Prot p) (inner h))))

  -- ---- nucleotide edits
  na_edit_inside_lem : (k : ℕ) (e : NaEditTree) → Stands s k (print_na_edit e) → na_edit_inside n (na_edit_at k e) ≡ true
  na_edit_inside_lem k (equal seq) h = let f = stands_inside (left seq _ h) in true_and f f
  na_edit_inside_lem k (swap a b) h =
      let f : inside n (span k 1) ≡ true = stands_inside (left (a ∷ []) _ h) in
      let g : inside n (span (k + 2) 1) ≡ true = stands_inside (right (a ∷ ascii ">") h) in
      true_and f g
  na_edit_inside_lem k (del_ins seq seq1) h =
      true_and (stands_inside (left seq _ (right (ascii "del") h))) (stands_inside (right (ascii "ins") (right seq (right (ascii "del") h))))
  na_edit_inside_lem k (del_num_ins ds seq1) h = stands_inside (right (ascii "ins") (right ds (right (ascii "del") h)))
  na_edit_inside_lem k (del_num ds) h = refl
  na_edit_inside_lem k (del seq) h = stands_inside (right (ascii "del") h)
  na_edit_inside_lem k (ins seq1) h = stands_inside (right (ascii "ins") h)
  na_edit_inside_lem k (dup seq) h = stands_inside (right (ascii "dup") h)
  na_edit_inside_lem k (inv_num ds) h = refl
  na_edit_inside_lem k (inv seq) h = stands_inside (right (ascii "inv") h)

  mu_na_edit_inside_lem : (k : ℕ) (e : Mu NaEditTree) → Stands s k (print_mu print_na_edit e) → mu_na_edit_inside n (mu_na_edit_at k e) ≡ true
  mu_na_edit_inside_lem k (certain e) h = na_edit_inside_lem k e h
  mu_na_edit_inside_lem k (uncertain e) h = na_edit_inside_lem (k + 1) e (inner h)

  -- ---- protein edits
  optional_inside : (k : ℕ) (r : Option (List ℕ)) → Stands s k (print_optional [] r) → inside_optional n (part_of k r) ≡ true
  optional_inside k none h = refl
  optional_inside k (some r) h = stands_inside h

  fs_inside : (r : Part) (k : ℕ) (e : Option Stop) → inside_optional n r ≡ true → Stands s k (ascii "fs" ++ print_fs_end e) → protein_edit_inside n (fs_at r k e) ≡ true
  fs_inside r k none f h = true_and f refl
  fs_inside r k (some (stop t m)) f h = true_and f (stands_inside (left (print_terminal t) _ (right (ascii "fs") h)))

  ext_inside : (r : Part) (k : ℕ) (e : ExtEnd) → inside_optional n r ≡ true → Stands s k (ascii "ext" ++ print_ext_end e) → protein_edit_inside n (ext_at r k e) ≡ true
  ext_inside r k nothing f h = true_and f refl
  ext_inside r k (later (stop t m)) f h = true_and f (stands_inside (left (print_terminal t) _ (right (ascii "ext") h)))
  ext_inside r k (earlier q ds) f h = true_and f (optional_inside (k + 3) q (left (print_optional [] q) _ (right (ascii "ext") h)))

  protein_edit_inside_lem : (k : ℕ) (e : ProteinEditTree) → Stands s k (print_protein_edit e) → protein_edit_inside n (protein_edit_at k e) ≡ true
  protein_edit_inside_lem k (P.ProteinEditTree.subst r) h = stands_inside h
  protein_edit_inside_lem k P.ProteinEditTree.subst_unknown h = stands_inside h
  protein_edit_inside_lem k P.ProteinEditTree.equal h = refl
  protein_edit_inside_lem k P.ProteinEditTree.del h = refl
  protein_edit_inside_lem k P.ProteinEditTree.dup h = refl
  protein_edit_inside_lem k (P.ProteinEditTree.ins rs) h = stands_inside (right (ascii "ins") h)
  protein_edit_inside_lem k (P.ProteinEditTree.del_ins rs) h = stands_inside (right (ascii "delins") h)
  protein_edit_inside_lem k (P.ProteinEditTree.fs r e) h =
      fs_inside (part_of k r) _ e (optional_inside k r (left (print_optional [] r) _ h)) (right (print_optional [] r) h)
  protein_edit_inside_lem k (P.ProteinEditTree.ext r e) h =
      ext_inside (part_of k r) _ e (optional_inside k r (left (print_optional [] r) _ h)) (right (print_optional [] r) h)

  mu_protein_edit_inside_lem : (k : ℕ) (e : Mu ProteinEditTree) → Stands s k (print_mu print_protein_edit e) → mu_protein_edit_inside n (mu_protein_edit_at k e) ≡ true
  mu_protein_edit_inside_lem k (certain e) h = protein_edit_inside_lem k e h
  mu_protein_edit_inside_lem k (uncertain e) h = protein_edit_inside_lem (k + 1) e (inner h)

  -- ---- bodies
  protein_body_inside : (k : ℕ) (b : ProteinBody) → Stands s k (print_protein_body b) → prot_body_inside n (protein_body_at k b) ≡ true
  protein_body_inside k met1 h = refl
  protein_body_inside k bracketed_met1 h = refl
  protein_body_inside k no_protein_uncertain h = refl
  protein_body_inside k no_protein h = refl
  protein_body_inside k no_change_uncertain h = refl
  protein_body_inside k no_change h = refl
  protein_body_inside k unknown h = refl
  protein_body_inside k (change (both l e)) h =
      true_and (location_inside k l (left (print_location Prot l) _ h)) (mu_protein_edit_inside_lem (k + length (print_location Prot l)) e (right (print_location Prot l) h))
  protein_body_inside k (bracketed (both i e)) h =
      true_and (location_inside (k + 1) (certain i) (left (print_ends Prot i) _ (inner h)))
      (protein_edit_inside_lem (k + 1 + length (print_ends Prot i)) e (right (print_ends Prot i) (inner h)))

  body_inside_lem : (kind : Kind) (k : ℕ) (b : BodyTree kind) → Stands s k (print_body kind b) → body_inside n (body_at kind k b) ≡ true
  body_inside_lem Cds k (both l e) h = mu_na_edit_inside_lem _ e (right (print_location Cds l) h)
  body_inside_lem Genome k (both l e) h = mu_na_edit_inside_lem _ e (right (print_location Genome l) h)
  body_inside_lem Mt k (both l e) h = mu_na_edit_inside_lem _ e (right (print_location Mt l) h)
  body_inside_lem Tx k (both l e) h = mu_na_edit_inside_lem _ e (right (print_location Tx l) h)
  body_inside_lem Prot k b h = protein_body_inside k b h
  body_inside_lem Rna k (both l e) h = mu_na_edit_inside_lem _ e (right (print_location Rna l) h)

  -- ---- the header, and the whole
  gene_inside : (k : ℕ) (gene : Option (List ℕ)) → Stands s k (print_gene gene) → inside_optional n (part_of (k + 1) gene) ≡ true
  gene_inside k none h = refl
  gene_inside k (some g) h = stands_inside {x = g} (inner {x = g} h)

  pub spans_inside_lem : (k : ℕ) (t : Text) → Stands s k (print t) → spans_inside n (record_at k t) ≡ true
  spans_inside_lem k (text (header a gene) kind b) h =
      let head : HeaderTree = header a gene in
      let g : Stands s k (print_header head) = left (print_header head) _ h in
      true_and
      (true_and (stands_inside (left (print_accession a) _ g)) (gene_inside (k + length (print_accession a)) gene (right (print_accession a) g)))
      (body_inside_lem kind (k + length (print_header head) + length (print_kind kind)) b (right (print_kind kind) (right (print_header head) h)))

-- a text that is the tree's alone
pub spans_in_text : (t : Text) → spans_inside (length (print t)) (record_at 0 t) ≡ true
spans_in_text t = spans_inside_lem (print t) 0 t (stands_whole (print t))
