-- Reference-free writing is the canonical text of a changed value.
use Rattle.std.specs.Prelude.{ℕ, ◌≡◌, Bool, ◌&&◌, length, get_or}
use Rattle.std.proofs.Math.Path.{refl}
use Rattle.std.proofs.Common.{ap, ◌∙◌}
use mathlib.Core.List.{List, [], ◌∷◌, ◌++◌}
use Rattle.std.proofs.Math.Option.{Option, none, some}
use Rattle.std.proofs.Math.Bool.{true, false, cond}
use Rattle.std.proofs.Math.Dec.{leb}
use Rattle.texts.proofs.Tests.{clash, and-true, cond_some}
use Rattle.texts.specs.Runs.{every}
use Rattle.texts.specs.Words.{same, one_each}
use Rattle.texts.proofs.Words.{one_each_lem}
use Rattle.numerals.specs.Written.{unsigned_digits}
use Rattle.record.specs.declared.Kind.{Kind}
use Rattle.record.specs.declared.Kind.TheVariants.{Cds, Genome, Mt, Tx, Prot, Rna}
use Rattle.record.specs.declared.Wording.TheVariants.{NoRef}
use Rattle.grammar.specs.Header.{HeaderTree, print_header, print_kind}
use Rattle.grammar.specs.Shapes.{Mu, Mu.certain, Mu.uncertain, Both.both, print_mu}
use Rattle.grammar.specs.NucleotideEdits.{NaEditTree, NaEditTree.equal, NaEditTree.swap, NaEditTree.del_ins, NaEditTree.del_num_ins, NaEditTree.del, NaEditTree.ins, NaEditTree.dup, NaEditTree.inv, print_na_edit}
use Rattle.grammar.specs.Bodies.{LocationTree, print_location, NaBody, print_na_body}
use Rattle.grammar.specs.Texts.{Text, Text.text, print}
use Rattle.grammar.specs.Values.{NaEditV, NaEditV.ref_alt, NaEditV.num_alt, NaEditV.del_ref, NaEditV.del_num, NaEditV.ins_v, NaEditV.dup_v, NaEditV.inv_ref, NaEditV.inv_num, EndsV, NaBodyV, HeaderV, Value, Value.value}
use Rattle.grammar.specs.Meaning.{map_mu}
use Rattle.lang.specs.Canon.{map_o, both_o}
use Rattle.lang.proofs.Canon.{canon_some, map_some, both_some}
use Rattle.lang_locations.proofs.Languages.{location_lang}
use Rattle.lang_locations.proofs.Canonical.{location_canon}
use Rattle.lang_locations.proofs.Fits.{location_fits, fits_location}
use Rattle.lang_na_edits.specs.Alphabet.{Alphabet}
use Rattle.lang_na_edits.specs.Canon.{canon_na_edit, canon_ref_alt}
use Rattle.lang_na_edits.proofs.Canonical.{mu_na_edit_canon}
use Rattle.lang_headers.proofs.Sound.{header_lang}
use Rattle.lang_headers.proofs.Canonical.{canon_header, header_canon}
use Rattle.promise.specs.NoRef.{no_ref_edit, ShortestHeader, ShortestLocation, NaNoRef, NoRefText}
use Rattle.promise.proofs.Unique.{one_no_ref}
use Rattle.lang_canon.specs.Changes.{no_ref_na_edit, changed_na_body, changed}
use Rattle.lang_canon.specs.NaBodyCanon.{na_body_canon}
use Rattle.lang_canon.specs.TextCanon.{canon_text}
use Rattle.lang_canon.proofs.TextCanon.{text_some}

-- ---- edits
-- the changed edit has a text, and it is the table's
record EditFound (na : ℕ → Bool) (v : NaEditV) : Type 0 where
  tree : NaEditTree
  found : canon_na_edit na (no_ref_na_edit v) ≡ some tree
  text : print_na_edit tree ≡ no_ref_edit v

module _ (na : ℕ → Bool) where
  no_ref_letters : (b : List ℕ) → every na b ≡ true → leb 1 (length b) ≡ true → canon_na_edit na (ref_alt [] b) ≡ some (del_ins [] b)
  unfolding every same
  no_ref_letters [] h l = absurd (clash l refl)
  no_ref_letters (x ∷ b) h l = rw (h, l)

  no_ref_alt_lem : (a b : List ℕ) (t : NaEditTree) → canon_na_edit na (ref_alt a b) ≡ some t → EditFound na (ref_alt a b)
  unfolding every same
  no_ref_alt_lem a b t e = go (same a b) (one_each a b) refl refl
    where
      go : (x y : Bool) → same a b ≡ x → one_each a b ≡ y → EditFound na (ref_alt a b)
      go true y p q = record { tree = equal []; found = rw p; text = rw p }
      go false true p q =
          let c = (one_each_lem a b q).0 in
          let d = (one_each_lem a b q).1 in
          let h = cond_some (every na a && every na b) (canon_ref_alt a b) t e in
          record { tree = swap (get_or a 0 0) (get_or b 0 0); found = rw (p, q) (rw (h.0, p, q)); text = rw (p, q) (cc) }
      go false false p q =
          let h = cond_some (every na a && every na b) (canon_ref_alt a b) t e in
          let w = and-true (every na a) (every na b) h.0 in
          let i : cond (leb 1 (length b)) (some (del_ins a b)) none ≡ some t = rw (p, q) at h.1 in
          let j = cond_some (leb 1 (length b)) (some (del_ins a b)) t i in
          record { tree = del_ins [] b; found = rw (p, q) (no_ref_letters b w.1 j.0); text = rw (p, q) }

  edit_found : (v : NaEditV) (t : NaEditTree) → canon_na_edit na v ≡ some t → EditFound na v
  unfolding every
  edit_found (ref_alt a b) t e = no_ref_alt_lem a b t e
  edit_found (num_alt n b) t e =
      let h = cond_some (every na b && leb 1 (length b)) (map_o (λ ds. del_num_ins ds b) (unsigned_digits n)) t e in
      let w = and-true (every na b) (leb 1 (length b)) h.0 in
      record { tree = del_ins [] b; found = no_ref_letters b w.0 w.1; text = refl }
  edit_found (del_ref a) t e = record { tree = del []; found = refl; text = refl }
  edit_found (del_num n) t e = record { tree = del []; found = refl; text = refl }
  edit_found (ins_v b) t e =
      let h = cond_some (every na b && leb 1 (length b)) (some (ins b)) t e in
      record { tree = ins b; found = rw h.0; text = refl }
  edit_found (dup_v a) t e = record { tree = dup []; found = refl; text = refl }
  edit_found (inv_ref a) t e = record { tree = inv []; found = refl; text = refl }
  edit_found (inv_num n) t e = record { tree = inv []; found = refl; text = refl }

-- what is written for the changed edit, where the edit as it came has a text
pub no_ref_edit_lem : (na : ℕ → Bool) (v : NaEditV) (t : NaEditTree) → canon_na_edit na v ≡ some t → map_o print_na_edit (canon_na_edit na (no_ref_na_edit v)) ≡ some (no_ref_edit v)
no_ref_edit_lem na v t e = let f = edit_found na v t e in rw f.found (ap some f.text)

-- ---- in brackets or not
record MuFound (na : ℕ → Bool) (al : Alphabet na) (e : Mu NaEditV) : Type 0 where
  tree : Mu NaEditTree
  found : (mu_na_edit_canon na al).canon (map_mu no_ref_na_edit e) ≡ some tree
  text : print_mu print_na_edit tree ≡ print_mu no_ref_edit e

mu_found : (na : ℕ → Bool) (al : Alphabet na) (e : Mu NaEditV) (t : Mu NaEditTree) → (mu_na_edit_canon na al).canon e ≡ some t → MuFound na al e
mu_found na al (certain v) t h =
    let m = map_some certain (canon_na_edit na v) t h in
    let c = edit_found na v m.0 m.1.0 in
    record { tree = certain c.tree; found = rw c.found; text = c.text }
mu_found na al (uncertain v) t h =
    let m = map_some uncertain (canon_na_edit na v) t h in
    let c = edit_found na v m.0 m.1.0 in
    record { tree = uncertain c.tree; found = rw c.found; text = rw c.text }

-- ---- header and location as in shortest writing
pub header_shortest : (v : HeaderV) (t : HeaderTree) → canon_header v ≡ some t → ShortestHeader (print_header t) v
header_shortest = canon_some header_lang header_canon

pub location_shortest : (k : Kind) (v : Mu (EndsV k)) (t : LocationTree k) → (location_canon k).canon v ≡ some t → ShortestLocation k (print_location k t) v
location_shortest k v t e =
    let b = canon_some (location_lang k) (location_canon k) v t e in
    let r = b.reads in
    record {
      reads = record { tree = r.tree; wf = r.wf; fits = fits_location k 0 r.tree r.fits; text = r.text; means = r.means };
      best = λ u s. b.best u (record { tree = s.tree; wf = s.wf; fits = location_fits k 0 s.tree s.fits; text = s.text; means = s.means });
    }

-- ---- values
some_both : {A B C : Type 0} (f : A → B → C) {o : Option A} {u : Option B} {a : A} {b : B} → o ≡ some a → u ≡ some b → both_o f o u ≡ some (f a b)
some_both f p q = rw (p, q)

module _ (letters : Kind → ℕ → Bool) (al : (k : Kind) → Alphabet (letters k)) where
  -- the value has a canonical text, and it is a text of some sort
  pub record TextFound (v : Value) (Sort : List ℕ → Type 0) : Type 0 where
    pub tree : Text
    pub found : canon_text letters al v ≡ some tree
    pub text : Sort (print tree)

  record BodyFound (h : HeaderV) (k : Kind) (b : NaBodyV k) : Type 0 where
    head : HeaderTree
    body : NaBody k
    header_found : canon_header h ≡ some head
    body_found : (na_body_canon (letters k) (al k) k).canon (changed_na_body NoRef k b) ≡ some body
    text : NaNoRef h k b (print_header head ++ (print_kind k ++ print_na_body k body))

  body_found : (h : HeaderV) (k : Kind) (b : NaBodyV k) (made : HeaderTree → NaBody k → Text) (x : Text) → both_o made (canon_header h) ((na_body_canon (letters k) (al k) k).canon b) ≡ some x → BodyFound h k b
  body_found h k (both l e) made x q =
      let r = both_some made (canon_header h) ((na_body_canon (letters k) (al k) k).canon (both l e)) x q in
      let s = both_some both ((location_canon k).canon l) ((mu_na_edit_canon (letters k) (al k)).canon e) r.1.0 r.1.1.1.0 in
      let m = mu_found (letters k) (al k) e s.1.0 s.1.1.1.0 in
      record {
        head = r.0;
        body = both s.0 m.tree;
        header_found = r.1.1.0;
        body_found = some_both both s.1.1.0 m.found;
        text = record {
          head = print_header r.0;
          location = print_location k s.0;
          header_is = header_shortest h r.0 r.1.1.0;
          location_is = location_shortest k l s.0 s.1.1.0;
          text = rw m.text;
        };
      }

  -- the changed value's is the text of reference-free writing
  pub no_ref_some : (v : Value) (x : Text) → canon_text letters al v ≡ some x → TextFound (changed NoRef v) (NoRefText letters v)
  no_ref_some (value h Cds b) x e =
      let f = body_found h Cds b (λ a c. text a Cds c) x e in
      record { tree = text f.head Cds f.body; found = rw (f.header_found, f.body_found); text = f.text }
  no_ref_some (value h Genome b) x e =
      let f = body_found h Genome b (λ a c. text a Genome c) x e in
      record { tree = text f.head Genome f.body; found = rw (f.header_found, f.body_found); text = f.text }
  no_ref_some (value h Mt b) x e =
      let f = body_found h Mt b (λ a c. text a Mt c) x e in
      record { tree = text f.head Mt f.body; found = rw (f.header_found, f.body_found); text = f.text }
  no_ref_some (value h Tx b) x e =
      let f = body_found h Tx b (λ a c. text a Tx c) x e in
      record { tree = text f.head Tx f.body; found = rw (f.header_found, f.body_found); text = f.text }
  no_ref_some (value h Prot b) x e = record { tree = x; found = e; text = text_some letters al (value h Prot b) x e }
  no_ref_some (value h Rna b) x e =
      let f = body_found h Rna b (λ a c. text a Rna c) x e in
      record { tree = text f.head Rna f.body; found = rw (f.header_found, f.body_found); text = f.text }

  -- and no other text is
  pub no_ref_only : (v : Value) (x y : Text) → canon_text letters al v ≡ some x → canon_text letters al (changed NoRef v) ≡ some y → (t : List ℕ) → NoRefText letters v t → t ≡ print y
  no_ref_only v x y e g t n =
      let f = no_ref_some v x e in
      let i : f.tree ≡ y = cc f.found in
      one_no_ref letters v t (print f.tree) n f.text ∙ ap print i
