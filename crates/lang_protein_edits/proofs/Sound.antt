-- What the parser finds is a protein edit, and its text stands at the front.
use Rattle.std.specs.Prelude.{ℕ, ◌≡◌, refl, List, [], ◌++◌, Bool, true, false, cond, eqb, length, take, drop}
use Rattle.std.proofs.Common.{sym, ap, ◌∙◌, append_assoc, take-append-drop, eqb-true}
use Rattle.std.proofs.Math.Option.{Option, none, some}
use Rattle.std.proofs.lemmas.Bool.{eqb-false}
use Rattle.texts.specs.Ascii.{ascii}
use Rattle.texts.proofs.Tests.{none_some, cond_some}
use Rattle.texts.specs.Runs.{Some, run, front, behind}
use Rattle.texts.proofs.Runs.{front_some, front_behind}
use Rattle.texts.specs.Words.{starts}
use Rattle.texts.proofs.Words.{starts_split}
use Rattle.alphabet.specs.Letters.{digit}
use Rattle.residue.specs.Residues.{is_residues}
use Rattle.residue.specs.Reading.{residue_len, residues_len}
use Rattle.residue.proofs.ResiduesRead.{residue_sound, residues_sound}
use Rattle.grammar.specs.Optional.{print_optional, WfOptional}
use Rattle.grammar.specs.ProteinEdits.{Residue, Terminal, Terminal.ter, Terminal.x, Terminal.star, Stop, ExtEnd, ExtEnd.earlier, ProteinEditTree, ProteinEditTree.subst, ProteinEditTree.subst_unknown, ProteinEditTree.equal, ProteinEditTree.del, ProteinEditTree.dup, ProteinEditTree.ins, ProteinEditTree.del_ins, ProteinEditTree.fs, ProteinEditTree.ext, print_terminal, print_length, print_stop, print_fs_end, print_ext_end, print_protein_edit, WfLength, WfStop, WfFsEnd, WfExtEnd, WfProteinEdit}
use Rattle.lang.specs.Lang.{Front}
use Rattle.lang.specs.Choice.{or_next}
use Rattle.lang.proofs.Choice.{next_cases}
use Rattle.lang.specs.Canon.{map_o}
use Rattle.lang.proofs.Canon.{map_some}
use Rattle.lang_protein_edits.specs.Parse.{bytes_of, terminal_at, length_at, stop_behind, stop_at, earlier_with, earlier_at, later_of, ext_end_at, residues_behind, inserted_at, worded_at, parse_with, parse}
use Rattle.lang_protein_edits.proofs.Complete.{no_insert}

-- ---- n bytes at the front
pub bytes_print : (n : ℕ) (s : List ℕ) → print_optional [] (bytes_of n s) ≡ take n s
unfolding bytes_of
bytes_print n s = go (eqb n 0) refl
  where
    go : (b : Bool) → eqb n 0 ≡ b → print_optional [] (bytes_of n s) ≡ take n s
    go true e = rw (e, bytes_of, eqb-true n 0 e)
    go false e = rw (e, bytes_of)

-- those that were found are what any n bytes of the text are
bytes_sound : (P : List ℕ → Type 0) (n : ℕ) (s a : List ℕ) → ((n ≡ 0 → ⊥) → P (take n s)) → bytes_of n s ≡ some a → Front (λ x. x) P s a
unfolding bytes_of
bytes_sound P n s a p h = go (eqb n 0) refl
  where
    go : (b : Bool) → eqb n 0 ≡ b → Front (λ x. x) P s a
    go true e = absurd (none_some (rw (e, bytes_of) at h))
    go false e =
        let q : some (take n s) ≡ some a = rw (e, bytes_of) at h in
        let i : take n s ≡ a = cc in
        rw (← i) (record { wf = p (eqb-false n 0 e); after = drop n s; text = take-append-drop n s })

optional_sound : (s : List ℕ) → WfOptional Residue (bytes_of (residue_len s) s)
unfolding bytes_of
optional_sound s = go (eqb (residue_len s) 0) refl
  where
    go : (b : Bool) → eqb (residue_len s) 0 ≡ b → WfOptional Residue (bytes_of (residue_len s) s)
    go true e = rw (e, bytes_of) tt
    go false e = rw (e, bytes_of) (residue_sound s (eqb-false (residue_len s) 0 e))

-- those bytes, a word behind them, and what is behind the word
joined : (n : ℕ) (w a y s : List ℕ) → starts w (drop n s) ≡ true → a ++ y ≡ drop (length w) (drop n s) → (print_optional [] (bytes_of n s) ++ (w ++ a)) ++ y ≡ s
joined n w a y s h e =
    rw (bytes_print n s)
    (append_assoc (take n s) (w ++ a) y
    ∙ ap (λ (l : List ℕ). take n s ++ l) (append_assoc w a y ∙ ap (λ (l : List ℕ). w ++ l) e ∙ starts_split w (drop n s) h)
    ∙ take-append-drop n s)

-- ---- behind `fs` and `ext`
pub terminal_sound : (s : List ℕ) (t : Terminal) → terminal_at s ≡ some t → print_terminal t ++ drop (length (print_terminal t)) s ≡ s
unfolding terminal_at
terminal_sound s t h = go (starts (ascii "Ter") s) (starts (ascii "X") s) (starts (ascii "*") s) refl refl refl
  where
    is : (u : Terminal) → some u ≡ some t → starts (print_terminal u) s ≡ true → print_terminal t ++ drop (length (print_terminal t)) s ≡ s
    is u q e = let i : u ≡ t = cc in rw (← i) (starts_split (print_terminal u) s e)

    go : (a b c : Bool) → starts (ascii "Ter") s ≡ a → starts (ascii "X") s ≡ b → starts (ascii "*") s ≡ c → print_terminal t ++ drop (length (print_terminal t)) s ≡ s
    go true b c e f g = is ter (rw (e, terminal_at) at h) e
    go false true c e f g = is x (rw (e, f, terminal_at) at h) f
    go false false true e f g = is star (rw (e, f, g, terminal_at) at h) g
    go false false false e f g = absurd (none_some (rw (e, f, g, terminal_at) at h))

pub length_sound : (s : List ℕ) → Front print_length WfLength s (length_at s)
unfolding length_at
length_sound s = go (eqb (run digit s) 0) (starts (ascii "?") s) refl refl
  where
    go : (a b : Bool) → eqb (run digit s) 0 ≡ a → starts (ascii "?") s ≡ b → Front print_length WfLength s (length_at s)
    go true true e f = rw (e, f, length_at) (record { wf = tt; after = drop 1 s; text = starts_split (ascii "?") s f })
    go true false e f = rw (e, f, length_at) (record { wf = tt; after = s; text = refl })
    go false b e f = rw (e, length_at) (record { wf = front_some digit s (eqb-false (run digit s) 0 e); after = behind digit s; text = front_behind digit s })

stop_sound : (s : List ℕ) (e : Stop) → stop_at s ≡ some e → Front print_stop WfStop s e
unfolding stop_at
stop_sound s e h =
    let m = map_some (stop_behind s) (terminal_at s) e h in
    let t = m.0 in
    let f = length_sound (drop (length (print_terminal t)) s) in
    rw (← m.1.1) (record {
      wf = f.wf;
      after = f.after;
      text = append_assoc (print_terminal t) (print_length (length_at (drop (length (print_terminal t)) s))) f.after ∙ ap (λ (l : List ℕ). print_terminal t ++ l) f.text ∙ terminal_sound s t m.1.0;
    })

pub fs_sound : (s : List ℕ) → Front print_fs_end WfFsEnd s (stop_at s)
fs_sound s = go (stop_at s) refl
  where
    go : (o : Option Stop) → stop_at s ≡ o → Front print_fs_end WfFsEnd s (stop_at s)
    go none q = rw q (record { wf = tt; after = s; text = refl })
    go (some e) q = let f = stop_sound s e q in rw q (record { wf = f.wf; after = f.after; text = f.text })

later_sound : (s : List ℕ) (o : Option Stop) → Front print_fs_end WfFsEnd s o → Front print_ext_end WfExtEnd s (later_of o)
later_sound s none f = record { wf = tt; after = f.after; text = f.text }
later_sound s (some e) f = record { wf = f.wf; after = f.after; text = f.text }

earlier_sound : (s : List ℕ) (e : ExtEnd) → earlier_at s ≡ some e → Front print_ext_end WfExtEnd s e
unfolding earlier_at earlier_with front
earlier_sound s e h =
    let n = residue_len s in
    let z = drop 1 (drop n s) in
    let c = cond_some (starts (ascii "-") (drop n s)) (map_o (earlier (bytes_of n s)) (bytes_of (run digit z) z)) e h in
    let m = map_some (earlier (bytes_of n s)) (bytes_of (run digit z) z) e c.1 in
    let f = bytes_sound (Some digit) (run digit z) z m.0 (front_some digit z) m.1.0 in
    rw (← m.1.1) (record { wf = (optional_sound s, f.wf); after = f.after; text = joined n (ascii "-") m.0 f.after s c.0 f.text })

ext_sound : (s : List ℕ) → Front print_ext_end WfExtEnd s (ext_end_at s)
unfolding ext_end_at
ext_sound s = go (earlier_at s) refl
  where
    go : (o : Option ExtEnd) → earlier_at s ≡ o → Front print_ext_end WfExtEnd s (ext_end_at s)
    go none q = rw (q, ext_end_at) (later_sound s (stop_at s) (fs_sound s))
    go (some e) q = rw (q, ext_end_at) (earlier_sound s e q)

-- ---- edits
-- residues behind a word
inserted_sound : (w s rs : List ℕ) → inserted_at w s ≡ some rs → Front (λ x. w ++ x) (λ x. is_residues x ≡ true) s rs
unfolding inserted_at residues_behind
inserted_sound w s rs h = go (starts w s) refl
  where
    y : List ℕ
    y = drop (length w) s

    go : (b : Bool) → starts w s ≡ b → Front (λ x. w ++ x) (λ x. is_residues x ≡ true) s rs
    go true e =
        let f = bytes_sound (λ x. is_residues x ≡ true) (residues_len y) y rs (residues_sound y) (rw (e, inserted_at, residues_behind) at h) in
        record { wf = f.wf; after = f.after; text = append_assoc w rs f.after ∙ ap (λ (l : List ℕ). w ++ l) f.text ∙ starts_split w s e }
    go false e = absurd (none_some (sym (no_insert w s e) ∙ h))

-- a tree that is one word
only_word : (u t : ProteinEditTree) (s : List ℕ) → WfProteinEdit u → some u ≡ some t → starts (print_protein_edit u) s ≡ true → Front print_protein_edit WfProteinEdit s t
only_word u t s w q e =
    let i : u ≡ t = cc in
    rw (← i) (record { wf = w; after = drop (length (print_protein_edit u)) s; text = starts_split (print_protein_edit u) s e })

-- a tree made of what was found
made_sound : (f : List ℕ → ProteinEditTree) (o : Option (List ℕ)) (s : List ℕ) (t : ProteinEditTree) → ((a : List ℕ) → o ≡ some a → Front print_protein_edit WfProteinEdit s (f a)) → map_o f o ≡ some t → Front print_protein_edit WfProteinEdit s t
made_sound f o s t k h = let m = map_some f o t h in rw (← m.1.1) (k m.0 m.1.0)

worded_sound : (s : List ℕ) (t : ProteinEditTree) → worded_at s ≡ some t → Front print_protein_edit WfProteinEdit s t
unfolding worded_at
worded_sound s t h =
    next_cases (map_o del_ins (inserted_at (ascii "delins") s)) _ h
    (made_sound del_ins (inserted_at (ascii "delins") s) s t (λ rs e. let f = inserted_sound (ascii "delins") s rs e in record { wf = f.wf; after = f.after; text = f.text }))
    (go (starts (ascii "del") s) refl)
  where
    found_dup : cond (starts (ascii "dup") s) (some dup) none ≡ some t → Front print_protein_edit WfProteinEdit s t
    found_dup q = let c = cond_some (starts (ascii "dup") s) (some dup) t q in only_word dup t s tt c.1 c.0

    go : (b : Bool) → starts (ascii "del") s ≡ b → cond (starts (ascii "del") s) (some del) (or_next (map_o ins (inserted_at (ascii "ins") s)) (cond (starts (ascii "dup") s) (some dup) none)) ≡ some t → Front print_protein_edit WfProteinEdit s t
    go true e q = only_word del t s tt (rw e at q) e
    go false e q =
        next_cases (map_o ins (inserted_at (ascii "ins") s)) (cond (starts (ascii "dup") s) (some dup) none) (rw e at q)
        (made_sound ins (inserted_at (ascii "ins") s) s t (λ rs i. let f = inserted_sound (ascii "ins") s rs i in record { wf = f.wf; after = f.after; text = f.text }))
        found_dup

subst_sound : (s : List ℕ) (t : ProteinEditTree) → map_o subst (bytes_of (residue_len s) s) ≡ some t → Front print_protein_edit WfProteinEdit s t
subst_sound s t = made_sound subst (bytes_of (residue_len s) s) s t (λ r e. let f = bytes_sound Residue (residue_len s) s r (residue_sound s) e in record { wf = f.wf; after = f.after; text = f.text })

pub sound : (s : List ℕ) (t : ProteinEditTree) → parse s ≡ some t → Front print_protein_edit WfProteinEdit s t
unfolding parse parse_with
sound s t h = go (starts (ascii "fs") y) (starts (ascii "ext") y) (starts (ascii "=") s) (starts (ascii "?") s) refl refl refl refl
  where
    n : ℕ
    n = residue_len s

    y : List ℕ
    y = drop n s

    go : (a b c d : Bool) → starts (ascii "fs") y ≡ a → starts (ascii "ext") y ≡ b → starts (ascii "=") s ≡ c → starts (ascii "?") s ≡ d → Front print_protein_edit WfProteinEdit s t
    go true b c d ea eb ec ed =
        let f = fs_sound (drop 2 y) in
        let q : some (fs (bytes_of n s) (stop_at (drop 2 y))) ≡ some t = rw (ea, parse, parse_with) at h in
        let i : fs (bytes_of n s) (stop_at (drop 2 y)) ≡ t = cc in
        rw (← i) (record { wf = (optional_sound s, f.wf); after = f.after; text = joined n (ascii "fs") (print_fs_end (stop_at (drop 2 y))) f.after s ea f.text })
    go false true c d ea eb ec ed =
        let f = ext_sound (drop 3 y) in
        let q : some (ext (bytes_of n s) (ext_end_at (drop 3 y))) ≡ some t = rw (ea, eb, parse, parse_with) at h in
        let i : ext (bytes_of n s) (ext_end_at (drop 3 y)) ≡ t = cc in
        rw (← i) (record { wf = (optional_sound s, f.wf); after = f.after; text = joined n (ascii "ext") (print_ext_end (ext_end_at (drop 3 y))) f.after s eb f.text })
    go false false true d ea eb ec ed = only_word equal t s tt (rw (ea, eb, ec, parse, parse_with) at h) ec
    go false false false true ea eb ec ed = only_word subst_unknown t s tt (rw (ea, eb, ec, ed, parse, parse_with) at h) ed
    go false false false false ea eb ec ed =
        next_cases (map_o subst (bytes_of n s)) (worded_at s) (rw (ea, eb, ec, ed, parse, parse_with) at h) (subst_sound s t) (worded_sound s t)
