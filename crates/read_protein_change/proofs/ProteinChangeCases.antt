-- What reading a location and an edit of p one after the other answers.
use Prim.Native.Nat.{ℕ, ◌+◌, ◌-◌, ◌≤◌}
use mathlib.Core.Path.{◌≡◌, refl, sym, ap, ◌∙◌}
use mathlib.Core.List.{List, ◌++◌}
use mathlib.Core.Option.{Option, none, some}
use mathlib.Core.Bool.{Bool, true, false, cond, ◌&&◌}
use native.Mathlib.Omega.{arith}
use lib.ListN.{length, take, drop, length-append, length-drop}
use Rattle.texts.specs.Ascii.{ascii}
use Rattle.texts.proofs.Slices.{tail_part, tail_at, tail_beyond}
use Rattle.texts.specs.Words.{starts}
use Rattle.texts.proofs.Words.{starts_length}
use Rattle.record.specs.declared.Kind.TheVariants.{Prot}
use Rattle.record.specs.declared.MuProteinEdit.{MuProteinEdit}
use Rattle.record.specs.declared.MuProteinEdit.TheVariants.{Uncertain}
use Rattle.record.specs.declared.ProteinEdit as Record
use Rattle.record.specs.declared.ProtLocEdit.TheVariants.{Ordinary}
use Rattle.grammar.specs.Shapes.{Mu, Mu.certain, Mu.uncertain, Both.both, print_mu}
use Rattle.grammar.specs.ProteinEdits.{ProteinEditTree, print_protein_edit}
use Rattle.grammar.specs.Bodies.{print_ends, ProteinBody.change, ProteinBody.bracketed, print_protein_body}
use Rattle.grammar.specs.Records.{interval_at, location_at, uncertainly, protein_edit_at}
use Rattle.grammar.specs.Numbers.{mu_numbers, ends_numbers, protein_edit_numbers}
use Rattle.lang.proofs.Lang.{within}
use Rattle.lang.specs.Canon.{map_o}
use Rattle.lang.specs.MuCanon.{settled_mu}
use Rattle.lang_locations.proofs.Languages.{ends_lang}
use Rattle.lang_locations.specs.Settled.{settled_ends}
use Rattle.lang_protein_edits.proofs.Instance.{protein_edit_lang, mu_protein_edit_lang}
use Rattle.lang_protein_edits.specs.Settled.{settled_protein_edit}
use Rattle.lang_bodies.specs.ProteinBodies.{closing, parse_bare, parse_opened, parse_ordinary}
use Rattle.read_scan.specs.declared.Faults.{Faults}
use Rattle.std.specs.Prelude as Prelude
use Rattle.std.specs.Prelude.{None, Some}
use Rattle.record.specs.declared.ProtLocEdit.{ProtLocEdit}
use Rattle.read_scan.specs.declared.Found.{Found}
use Rattle.read_scan.specs.Accounts.{found, answered}
use Rattle.read_scan.specs.Faults.{faults, first, settled_if, faults_append, settled_if_lem}
use Rattle.any_location.specs.declared.Location.{Location}
use Rattle.any_location.specs.OfTree.{uncertain_of}
use Rattle.read_location.specs.LocationAnswers.{interval_answer}
use Rattle.any_location.specs.ToRecord.{location_for}
use Rattle.any_location.proofs.ToRecord.{location_for_lem, uncertain_for}
use Rattle.read_location.specs.Told.{IntervalTold, interval_unread, interval_within}
use Rattle.read_protein_edit.specs.ProteinEditAnswers.{protein_edit_answer, mu_protein_edit_answer}
use Rattle.read_protein_edit.specs.Told.{EditTold, MuTold, edit_unread, mu_unread}
use Rattle.read_protein_change.specs.ProteinChangeAnswers.{ordinary_answer, after_answer, inside_answer}

-- ---- the edit that was read
module _ (at : ℕ) (s : List ℕ) where
  module _ (l : Found Location) where
    pub mu_none : None ≡ mu_protein_edit_answer at (mu_protein_edit_lang.parse s) → None ≡ after_answer l at (mu_protein_edit_lang.parse s)
    mu_none h = rw (mu_unread at s h)

    pub edit_none : None ≡ protein_edit_answer at (protein_edit_lang.parse s) → None ≡ inside_answer l at s (protein_edit_lang.parse s)
    edit_none h = rw (edit_unread at s h)

    -- behind a location
    module _ {d : Found MuProteinEdit} (y : MuTold at s d) where
      pub mu_le : d.len ≤ length s
      mu_le = rw y.long (within mu_protein_edit_lang s y.tree y.parsed)

      pub after_found : (p : _) (w : Faults) → p ≡ location_for Prot l.value → w ≡ first l.faults d.faults → found (Ordinary p d.value) (l.len + d.len) w ≡ after_answer l at (mu_protein_edit_lang.parse s)
      after_found p w e h =
          let a = y.means in
          let b = y.long in
          let c = y.wrong in
          rw (y.parsed, e, h, a, b, c)

    -- inside one pair of brackets
    module _ {d : Found Record.ProteinEdit} (y : EditTold at s d) where
      pub edit_le : d.len ≤ length s
      edit_le = rw y.long (within protein_edit_lang s y.tree y.parsed)

      shut : take (length s - d.len) (drop d.len s) ≡ drop (length (print_protein_edit y.tree)) s
      shut = tail_at s y.long

      pub shut_le : starts (ascii ")") (take (length s - d.len) (drop d.len s)) ≡ true → d.len + 1 ≤ length s
      shut_le e = omega (arith, starts_length (ascii ")") (take (length s - d.len) (drop d.len s)) e, ap length (tail_part d.len s), length-drop d.len s, edit_le)

      pub not_shut : starts (ascii ")") (take (length s - d.len) (drop d.len s)) ≡ false → None ≡ inside_answer l at s (protein_edit_lang.parse s)
      not_shut e = rw (y.parsed, rw shut at e)

      pub inside_found : starts (ascii ")") (take (length s - d.len) (drop d.len s)) ≡ true → (u : Location) (p : _) (w : Faults) → u ≡ uncertain_of l.value → p ≡ location_for Prot u → w ≡ first l.faults d.faults
          → found (Ordinary p (Uncertain d.value)) (1 + l.len + d.len + 1) w ≡ inside_answer l at s (protein_edit_lang.parse s)
      inside_found q u p w i e h =
          let a = y.means in
          let b = y.long in
          let c = y.wrong in
          rw (y.parsed, rw shut at q, e, i, h, a, b, c)

-- ---- the interval, and what stands behind it
module _ (at : ℕ) (s : List ℕ) where
  pub bare_none : None ≡ interval_answer Prot at ((ends_lang Prot).parse s) → None ≡ ordinary_answer at (parse_bare s)
  unfolding answered parse_bare
  bare_none h = rw (interval_unread Prot at s h)

  pub opened_none : None ≡ interval_answer Prot (at + 1) ((ends_lang Prot).parse s) → None ≡ ordinary_answer at (parse_opened s)
  unfolding answered parse_opened
  opened_none h = rw (interval_unread Prot (at + 1) s h)

  -- a certain location
  module _ {l : Found Location} (x : IntervalTold Prot at s l) where
    behind : take (length s - l.len) (drop l.len s) ≡ drop (length (print_ends Prot x.tree)) s
    behind = tail_at s x.long

    after_bare : (o : Option (Mu ProteinEditTree)) → after_answer l (at + l.len) o ≡ ordinary_answer at (map_o (λ e. change (both (certain x.tree) e)) o)
    unfolding answered
    after_bare none = refl
    after_bare (some e) =
        let k : ℕ = length (print_ends Prot x.tree) in
        let a : location_for Prot l.value ≡ location_at Prot at (certain x.tree) = rw x.means (location_for_lem Prot at (certain x.tree)) in
        let b : l.len + length (print_mu print_protein_edit e) ≡ length (print_ends Prot x.tree ++ print_mu print_protein_edit e) = rw x.long (sym (length-append (print_ends Prot x.tree) (print_mu print_protein_edit e))) in
        let c : first l.faults (faults (mu_numbers protein_edit_numbers (at + l.len) e) (settled_mu settled_protein_edit e)) ≡ faults (ends_numbers Prot at x.tree ++ mu_numbers protein_edit_numbers (at + k) e) (settled_ends Prot x.tree && settled_mu settled_protein_edit e) = rw (x.wrong, x.long) (sym (faults_append (ends_numbers Prot at x.tree) (mu_numbers protein_edit_numbers (at + k) e) (settled_ends Prot x.tree) (settled_mu settled_protein_edit e))) in
        rw (a, b, c, x.long)

    pub bare_found : (r : Prelude.Option (Found ProtLocEdit)) → r ≡ after_answer l (at + l.len) (mu_protein_edit_lang.parse (take (length s - l.len) (drop l.len s))) → r ≡ ordinary_answer at (parse_bare s)
    unfolding parse_bare
    bare_found r e = e ∙ after_bare (mu_protein_edit_lang.parse (take (length s - l.len) (drop l.len s))) ∙ rw (x.parsed, behind)

-- behind an opening bracket at `at`
module _ (at : ℕ) (s : List ℕ) {l : Found Location} (x : IntervalTold Prot (at + 1) s l) where
  pub closed_le : starts (ascii ")") (take (length s - l.len) (drop l.len s)) ≡ true → l.len + 1 ≤ length s
  closed_le e = omega (arith, starts_length (ascii ")") (take (length s - l.len) (drop l.len s)) e, ap length (tail_part l.len s), length-drop l.len s, interval_within Prot x)

  -- `(`location`)`, then an edit
  after_shut : (u : Location) (g : Faults) → u ≡ uncertain_of l.value → g ≡ settled_if false l.faults → (o : Option (Mu ProteinEditTree)) → after_answer (record { value = u; len = 1 + (l.len + 1); faults = g }) (at + (1 + (l.len + 1))) o ≡ ordinary_answer at (map_o (λ e. change (both (uncertain x.tree) e)) o)
  unfolding answered
  after_shut u g h eg none = refl
  after_shut u g h eg (some e) =
      let k : ℕ = length (print_mu (print_ends Prot) (uncertain x.tree)) in
      let j : 1 + (l.len + 1) ≡ k = omega (arith, x.long, length-append (print_ends Prot x.tree) (ascii ")")) in
      let a : location_for Prot u ≡ uncertainly Prot (interval_at Prot (at + 1) x.tree) = rw (h, x.means) (uncertain_for Prot (at + 1) x.tree) in
      let b : k + length (print_mu print_protein_edit e) ≡ length (print_mu (print_ends Prot) (uncertain x.tree) ++ print_mu print_protein_edit e) = sym (length-append (print_mu (print_ends Prot) (uncertain x.tree)) (print_mu print_protein_edit e)) in
      let d : g ≡ faults (ends_numbers Prot (at + 1) x.tree) false = eg ∙ rw x.wrong (settled_if_lem false (ends_numbers Prot (at + 1) x.tree) (settled_ends Prot x.tree)) in
      let c : first g (faults (mu_numbers protein_edit_numbers (at + k) e) (settled_mu settled_protein_edit e)) ≡ faults (ends_numbers Prot (at + 1) x.tree ++ mu_numbers protein_edit_numbers (at + k) e) false = rw d (sym (faults_append (ends_numbers Prot (at + 1) x.tree) (mu_numbers protein_edit_numbers (at + k) e) false (settled_mu settled_protein_edit e))) in
      rw (j, a, b, c)

  pub shut_found : starts (ascii ")") (take (length s - l.len) (drop l.len s)) ≡ true → (u : Location) (g : Faults) → u ≡ uncertain_of l.value → g ≡ settled_if false l.faults → (r : Prelude.Option (Found ProtLocEdit))
      → r ≡ after_answer (record { value = u; len = 1 + (l.len + 1); faults = g }) (at + (1 + (l.len + 1))) (mu_protein_edit_lang.parse (take (length s - (l.len + 1)) (drop (l.len + 1) s))) → r ≡ ordinary_answer at (parse_opened s)
  unfolding parse_opened
  shut_found q u g h eg r e =
      let w : take (length s - (l.len + 1)) (drop (l.len + 1) s) ≡ drop 1 (drop (length (print_ends Prot x.tree)) s) = tail_beyond 1 s x.long in
      e ∙ after_shut u g h eg (mu_protein_edit_lang.parse (take (length s - (l.len + 1)) (drop (l.len + 1) s))) ∙ rw (x.parsed, rw (behind (at + 1) s x) at q, w)

  -- `(`location edit`)`
  inside_closing : (r : List ℕ) (o : Option ProteinEditTree) → inside_answer l (at + 1 + l.len) r o ≡ ordinary_answer at (closing x.tree r o)
  unfolding answered
  inside_closing r none = refl
  inside_closing r (some e) = go (starts (ascii ")") (drop (length (print_protein_edit e)) r))
    where
      k : ℕ
      k = length (print_ends Prot x.tree)

      go : (b : Bool) → cond b (found (Ordinary (location_for Prot (uncertain_of l.value)) (Uncertain (protein_edit_at (at + 1 + l.len) e))) (1 + l.len + length (print_protein_edit e) + 1) (first l.faults (faults (protein_edit_numbers (at + 1 + l.len) e) (settled_protein_edit e)))) None ≡ ordinary_answer at (cond b (some (bracketed (both x.tree e))) none)
      go true =
          let a : location_for Prot (uncertain_of l.value) ≡ uncertainly Prot (interval_at Prot (at + 1) x.tree) = rw x.means (uncertain_for Prot (at + 1) x.tree) in
          let b : 1 + l.len + length (print_protein_edit e) + 1 ≡ length (print_protein_body (bracketed (both x.tree e))) = omega (arith, x.long, length-append (print_ends Prot x.tree ++ print_protein_edit e) (ascii ")"), length-append (print_ends Prot x.tree) (print_protein_edit e)) in
          let c : first l.faults (faults (protein_edit_numbers (at + 1 + l.len) e) (settled_protein_edit e)) ≡ faults (ends_numbers Prot (at + 1) x.tree ++ protein_edit_numbers (at + 1 + l.len) e) (settled_ends Prot x.tree && settled_protein_edit e) = rw x.wrong (sym (faults_append (ends_numbers Prot (at + 1) x.tree) (protein_edit_numbers (at + 1 + l.len) e) (settled_ends Prot x.tree) (settled_protein_edit e))) in
          rw (a, b, c, x.long)
      go false = refl

  pub brackets_found : starts (ascii ")") (take (length s - l.len) (drop l.len s)) ≡ false → (r : Prelude.Option (Found ProtLocEdit))
      → r ≡ inside_answer l (at + 1 + l.len) (take (length s - l.len) (drop l.len s)) (protein_edit_lang.parse (take (length s - l.len) (drop l.len s))) → r ≡ ordinary_answer at (parse_opened s)
  unfolding parse_opened
  brackets_found q r e = e ∙ inside_closing (take (length s - l.len) (drop l.len s)) (protein_edit_lang.parse (take (length s - l.len) (drop l.len s))) ∙ rw (x.parsed, rw (behind (at + 1) s x) at q, behind (at + 1) s x)

-- ---- both
module _ (at : ℕ) (s : List ℕ) where
  pub ordinary_opened : starts (ascii "(") s ≡ true → (r : Prelude.Option (Found ProtLocEdit)) → r ≡ ordinary_answer at (parse_opened (take (length s - 1) (drop 1 s))) → r ≡ ordinary_answer at (parse_ordinary s)
  unfolding parse_ordinary
  ordinary_opened e r h = h ∙ rw (e, tail_part 1 s)

  pub ordinary_bare : starts (ascii "(") s ≡ false → (r : Prelude.Option (Found ProtLocEdit)) → r ≡ ordinary_answer at (parse_bare s) → r ≡ ordinary_answer at (parse_ordinary s)
  unfolding parse_ordinary
  ordinary_bare e r h = h ∙ rw e
