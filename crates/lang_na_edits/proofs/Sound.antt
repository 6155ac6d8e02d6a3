-- The parser finds the edits of the grammar, each followed by what does not continue it, and no others: the language of nucleotide edits.
use Prim.Native.Nat.{ℕ, ◌≤◌}
use Prim.Native.Char.{code}
use Rattle.std.specs.Prelude.{◌≡◌, Bool, not, ◌&&◌, length}
use Rattle.std.proofs.Math.Path.{refl, ap}
use Rattle.std.proofs.Common.{sym, ◌∙◌, arith}
use mathlib.Core.List.{List, [], ◌∷◌, ◌++◌, append_assoc}
use Rattle.std.proofs.Math.Option.{Option, none, some}
use Rattle.std.proofs.Math.Bool.{true, false}
use Rattle.std.proofs.Math.Dec.{eqb}
use Rattle.std.proofs.Math.ListN.{drop}
use borrow.Author.Tests.{eqb-true, ne_eqb, not-true}
use Rattle.texts.specs.Ascii.{ascii}
use Rattle.texts.proofs.Tests.{and-true, never, clash, none_some}
use Rattle.texts.specs.Runs.{every, Some, run, front, behind}
use Rattle.texts.proofs.Runs.{run_nil, run_first, run_other, front_is, behind_is, front_every, front_behind}
use Rattle.texts.specs.Words.{starts}
use Rattle.texts.proofs.Words.{starts_split, starts_other}
use Rattle.alphabet.specs.Letters.{letter, digit}
use Rattle.grammar.specs.Positions.{Digits}
use Rattle.grammar.specs.NucleotideEdits.{NaEditTree, NaEditTree.equal, NaEditTree.swap, NaEditTree.del_ins, NaEditTree.del_num_ins, NaEditTree.del_num, NaEditTree.del, NaEditTree.ins, NaEditTree.dup, NaEditTree.inv_num, NaEditTree.inv, print_na_edit, WfNaEdit}
use Rattle.lang.proofs.Choice.{next_cases}
use Rattle.lang.specs.Lang.{Front, Lang}
use Rattle.lang_na_edits.specs.Alphabet.{Alphabet}
use Rattle.lang_na_edits.proofs.Alphabet.{outside, no_digit}
use Rattle.lang_na_edits.specs.Choice.{on_some}
use Rattle.lang_na_edits.proofs.Choice.{if_holds, word_holds, on_some_lem, on_holds}
use Rattle.lang_na_edits.specs.Parse.{parse_ident, parse_subst, inserted, after_del_num, after_del, after_inv, parse_del, parse_ins, parse_dup, parse_inv, parse_na_edit}

-- what may follow an edit: no letter, no digit, no `ins`
pub record Follows (na : ℕ → Bool) (r : List ℕ) : Type 0 where
  pub no_letter : run na r ≡ 0
  pub no_digit : run digit r ≡ 0
  pub no_ins : starts (ascii "ins") r ≡ false

pub follows_nil : (na : ℕ → Bool) → Follows na []
unfolding starts
follows_nil na = record { no_letter = run_nil na; no_digit = run_nil digit; no_ins = refl }

-- a byte that is neither letter nor digit, and not the `i` of `ins`
pub follows_byte : (na : ℕ → Bool) (b : ℕ) (r : List ℕ) → na b ≡ false → digit b ≡ false → (b ≡ code "i" → ⊥) → Follows na (b ∷ r)
unfolding starts
follows_byte na b r l d n = record { no_letter = run_first na b r l; no_digit = run_first digit b r d; no_ins = rw (ne_eqb (code "i") b (λ e. n (sym e))) }

module _ (na : ℕ → Bool) (al : Alphabet na) where
  pub follows_close : (r : List ℕ) → Follows na (ascii ")" ++ r)
  unfolding letter digit
  follows_close r = follows_byte na (code ")") r (outside na al (code ")") refl) refl (λ e. omega arith)

  -- ---- complete
  letters_digits : (a r : List ℕ) → every na a ≡ true → run digit r ≡ 0 → run digit (a ++ r) ≡ 0
  unfolding every
  letters_digits [] r h e = e
  letters_digits (b ∷ a) r h e = run_first digit b (a ++ r) (no_digit na al b (and-true (na b) (every na a) h).0)

  -- no `=` stands behind the letters at the front where, up to a byte that is no letter, no byte is `=`
  no_equal : (a : List ℕ) (b : ℕ) (x : List ℕ) → every (λ c. not (eqb (code "=") c)) (a ++ (b ∷ [])) ≡ true → na b ≡ false → starts (ascii "=") (behind na (a ++ (b ∷ x))) ≡ false
  unfolding every starts behind run
  no_equal [] b x h n = rw (n, not-true (eqb (code "=") b) (and-true (not (eqb (code "=") b)) true h).0)
  no_equal (c ∷ a) b x h n =
      let d = and-true (not (eqb (code "=") c)) _ h in
      go (na c) refl (not-true (eqb (code "=") c) d.0) (no_equal a b x d.1 n)
    where
      go : (t : Bool) → na c ≡ t → eqb (code "=") c ≡ false → starts (ascii "=") (behind na (a ++ (b ∷ x))) ≡ false → starts (ascii "=") (behind na (c ∷ (a ++ (b ∷ x)))) ≡ false
      go true e f r = rw e r
      go false e f r = rw (e, f)

  -- so behind a word the parser goes on
  parse_del_lem : (x : List ℕ) → parse_na_edit na (ascii "del" ++ x) ≡ some (after_del na x)
  unfolding parse_na_edit parse_ident parse_subst parse_del starts every
  parse_del_lem x = rw (no_equal (ascii "d") (code "e") (code "l" ∷ x) refl al.no_e)

  parse_ins_lem : (x : List ℕ) (t : NaEditTree) → parse_ins na (ascii "ins" ++ x) ≡ some t → parse_na_edit na (ascii "ins" ++ x) ≡ some t
  unfolding parse_na_edit parse_ident parse_subst parse_del starts every
  parse_ins_lem x t e = rw (no_equal [] (code "i") (ascii "ns" ++ x) refl al.no_i, e)

  parse_dup_lem : (x : List ℕ) → parse_na_edit na (ascii "dup" ++ x) ≡ some (dup (front na x))
  unfolding parse_na_edit parse_ident parse_subst parse_del parse_ins inserted on_some parse_dup starts every
  parse_dup_lem x = rw (no_equal (ascii "du") (code "p") x refl al.no_p)

  parse_inv_lem : (x : List ℕ) → parse_na_edit na (ascii "inv" ++ x) ≡ some (after_inv na x)
  unfolding parse_na_edit parse_ident parse_subst parse_del parse_ins inserted on_some parse_dup parse_inv starts every
  parse_inv_lem x = rw (no_equal [] (code "i") (ascii "nv" ++ x) refl al.no_i)

  -- the letters behind `ins`
  inserted_none : (y : List ℕ) → starts (ascii "ins") y ≡ false → inserted na y ≡ []
  unfolding inserted
  inserted_none y e = rw e

  inserted_is : (b r : List ℕ) → every na b ≡ true → run na r ≡ 0 → inserted na (ascii "ins" ++ (b ++ r)) ≡ b
  unfolding inserted starts
  inserted_is b r h stop = front_is na b r h stop

  ins_letter : (x : List ℕ) → run na (ascii "ins" ++ x) ≡ 0
  ins_letter x = run_first na (code "i") (ascii "ns" ++ x) al.no_i

  ins_digit : (x : List ℕ) → run digit (ascii "ins" ++ x) ≡ 0
  unfolding digit
  ins_digit x = run_first digit (code "i") (ascii "ns" ++ x) refl

  digits_word : (ds y : List ℕ) → Digits ds → starts (ascii "ins") (ds ++ y) ≡ false
  unfolding digit
  digits_word ds y w = starts_other digit (code "i") (ascii "ns") ds y refl w

  -- behind `del`: letters, or digits, and y behind them
  del_letters : (a y : List ℕ) → every na a ≡ true → run na y ≡ 0 → run digit y ≡ 0 → after_del na (a ++ y) ≡ on_some (del a) (del_ins a) (inserted na y)
  unfolding after_del on_some every
  del_letters a y h l d =
      let e : front digit (a ++ y) ≡ [] = front_is digit [] (a ++ y) refl (letters_digits a y h d) in
      rw (front_is na a y h l, behind_is na a y h l, e)

  del_digits : (ds y : List ℕ) → Digits ds → run digit y ≡ 0 → after_del na (ds ++ y) ≡ on_some (del_num ds) (del_num_ins ds) (inserted na y)
  unfolding after_del after_del_num on_some every
  del_digits ds y w d =
      let z : run na (ds ++ y) ≡ 0 = run_other digit na ds y (λ b h. never (na b) (λ q. clash h (no_digit na al b q))) w in
      let e : behind na (ds ++ y) ≡ ds ++ y = behind_is na [] (ds ++ y) refl z in
      rw (e, inserted_none (ds ++ y) (digits_word ds y w), front_is digit ds y w.all d, behind_is digit ds y w.all d)
      (on_some_lem _ (λ ds. after_del_num na ds y) ds w.some)

  inv_letters : (a r : List ℕ) → every na a ≡ true → Follows na r → after_inv na (a ++ r) ≡ inv a
  unfolding after_inv on_some every
  inv_letters a r h st =
      let e : front digit (a ++ r) ≡ [] = front_is digit [] (a ++ r) refl (letters_digits a r h st.no_digit) in
      rw (e, front_is na a r h st.no_letter)

  inv_digits : (ds r : List ℕ) → Digits ds → Follows na r → after_inv na (ds ++ r) ≡ inv_num ds
  unfolding after_inv
  inv_digits ds r w st = rw (front_is digit ds r w.all st.no_digit) (on_some_lem _ inv_num ds w.some)

  equal_is : (a r : List ℕ) → every na a ≡ true → parse_na_edit na (a ++ (ascii "=" ++ r)) ≡ some (equal a)
  unfolding parse_na_edit parse_ident starts letter
  equal_is a r h =
      let stop = run_first na (code "=") r (outside na al (code "=") refl) in
      rw (behind_is na a (ascii "=" ++ r) h stop, front_is na a (ascii "=" ++ r) h stop)

  letter_no_equal : (a : ℕ) → na a ≡ true → eqb (code "=") a ≡ false
  unfolding letter
  letter_no_equal a h = ne_eqb (code "=") a (λ e. clash (rw (← e) at h) (outside na al (code "=") refl))

  swap_is : (a b : ℕ) (r : List ℕ) → na a ≡ true → na b ≡ true → parse_na_edit na (a ∷ (ascii ">" ++ (b ∷ r))) ≡ some (swap a b)
  unfolding parse_na_edit parse_ident parse_subst letter every
  swap_is a b r ha hb = rw (no_equal (a ∷ []) (code ">") (b ∷ r) (rw (letter_no_equal a ha)) (outside na al (code ">") refl), ha, hb)

  pub complete : (t : NaEditTree) (r : List ℕ) → WfNaEdit na t → Follows na r → parse_na_edit na (print_na_edit t ++ r) ≡ some t
  unfolding on_some parse_ins
  complete (equal seq) r w st = rw (append_assoc seq (ascii "=") r) (equal_is seq r w)
  complete (swap a b) r w st = swap_is a b r w.0 w.1
  complete (del_ins seq seq1) r w st =
      let y : List ℕ = ascii "ins" ++ (seq1 ++ r) in
      let e : print_na_edit (del_ins seq seq1) ++ r ≡ ascii "del" ++ (seq ++ y) = simp append_assoc in
      rw (e, parse_del_lem (seq ++ y), del_letters seq y w.0 (ins_letter (seq1 ++ r)) (ins_digit (seq1 ++ r)), inserted_is seq1 r w.1.all st.no_letter, on_some_lem (del seq) (del_ins seq) seq1 w.1.some)
  complete (del_num_ins ds seq1) r w st =
      let y : List ℕ = ascii "ins" ++ (seq1 ++ r) in
      let e : print_na_edit (del_num_ins ds seq1) ++ r ≡ ascii "del" ++ (ds ++ y) = simp append_assoc in
      rw (e, parse_del_lem (ds ++ y), del_digits ds y w.0 (ins_digit (seq1 ++ r)), inserted_is seq1 r w.1.all st.no_letter, on_some_lem (del_num ds) (del_num_ins ds) seq1 w.1.some)
  complete (del_num ds) r w st = rw (parse_del_lem (ds ++ r), del_digits ds r w st.no_digit, inserted_none r st.no_ins)
  complete (del seq) r w st = rw (parse_del_lem (seq ++ r), del_letters seq r w st.no_letter st.no_digit, inserted_none r st.no_ins)
  complete (ins seq1) r w st =
      parse_ins_lem (seq1 ++ r) (ins seq1) (rw (inserted_is seq1 r w.all st.no_letter) (on_some_lem none (λ seq1. some (ins seq1)) seq1 w.some))
  complete (dup seq) r w st = rw (parse_dup_lem (seq ++ r), front_is na seq r w st.no_letter)
  complete (inv_num ds) r w st = rw (parse_inv_lem (ds ++ r), inv_digits ds r w st)
  complete (inv seq) r w st = rw (parse_inv_lem (seq ++ r), inv_letters seq r w st)

-- ---- sound
module _ (na : ℕ → Bool) where
  abbrev FrontEdit : List ℕ → NaEditTree → Type 0
  FrontEdit s t = Front print_na_edit (WfNaEdit na) s t

  ident_sound : (s : List ℕ) (t : NaEditTree) → parse_ident na s ≡ some t → FrontEdit s t
  unfolding parse_ident
  ident_sound s t e =
      if_holds (FrontEdit s) (starts (ascii "=") (behind na s)) (equal (front na s)) t e
      (λ h. record {
        wf = front_every na s;
        after = drop 1 (behind na s);
        text = append_assoc (front na s) (ascii "=") (drop 1 (behind na s)) ∙ ap (λ (l : List ℕ). front na s ++ l) (starts_split (ascii "=") (behind na s) h) ∙ front_behind na s;
      })

  subst_sound : (s : List ℕ) (t : NaEditTree) → parse_subst na s ≡ some t → FrontEdit s t
  unfolding parse_subst
  subst_sound [] t e = absurd (none_some e)
  subst_sound (a ∷ []) t e = absurd (none_some e)
  subst_sound (a ∷ c ∷ []) t e = absurd (none_some e)
  subst_sound (a ∷ c ∷ b ∷ r) t e =
      if_holds (FrontEdit (a ∷ c ∷ b ∷ r)) (eqb c (code ">") && (na a && na b)) (swap a b) t e
      (λ h.
      let p = and-true (eqb c (code ">")) (na a && na b) h in
      let i = eqb-true c (code ">") p.0 in
      record { wf = and-true (na a) (na b) p.1; after = r; text = cc })

  -- letters behind `ins`, and what is behind them
  record Inserts (y : List ℕ) : Type 0 where
    some1 : Some na (inserted na y)
    after : List ℕ
    text : ascii "ins" ++ (inserted na y ++ after) ≡ y

  inserts : (y : List ℕ) → 1 ≤ length (inserted na y) → Inserts y
  unfolding inserted
  inserts y h = go (starts (ascii "ins") y) refl
    where
      go : (t : Bool) → starts (ascii "ins") y ≡ t → Inserts y
      go true e = record {
        some1 = record { some = h; all = rw (e, inserted) (front_every na (drop 3 y)) };
        after = behind na (drop 3 y);
        text = rw (e, inserted, front_behind) (starts_split (ascii "ins") y e);
      }
      go false e = absurd (let z : 1 ≤ 0 = rw (e, inserted) at h in omega arith)

  -- a tree of a word and the bytes at the front that pass a test
  word_run : (p : ℕ → Bool) (w x : List ℕ) (t : NaEditTree) → WfNaEdit na t → print_na_edit t ≡ w ++ front p x → FrontEdit (w ++ x) t
  word_run p w x t wf e = record {
    wf = wf;
    after = behind p x;
    text = rw e (append_assoc w (front p x) (behind p x) ∙ ap (λ (l : List ℕ). w ++ l) (front_behind p x));
  }

  -- a tree of `del`, the bytes at the front that pass, `ins` and letters
  del_ins_lem : (p : ℕ → Bool) (x : List ℕ) (t : NaEditTree) → (Some na (inserted na (behind p x)) → WfNaEdit na t) → print_na_edit t ≡ ascii "del" ++ (front p x ++ (ascii "ins" ++ inserted na (behind p x))) → 1 ≤ length (inserted na (behind p x)) → FrontEdit (ascii "del" ++ x) t
  del_ins_lem p x t wf e h =
      let i = inserts (behind p x) h in
      record {
        wf = wf i.some1;
        after = i.after;
        text = rw e (simp append_assoc (ap (λ (l : List ℕ). ascii "del" ++ (front p x ++ l)) i.text ∙ ap (λ (l : List ℕ). ascii "del" ++ l) (front_behind p x)));
      }

  some_front : (p : ℕ → Bool) (x : List ℕ) → 1 ≤ length (front p x) → Some p (front p x)
  some_front p x h = record { some = h; all = front_every p x }

  after_del_sound : (x : List ℕ) → FrontEdit (ascii "del" ++ x) (after_del na x)
  unfolding after_del after_del_num
  after_del_sound x =
      let P : NaEditTree → Type 0 = FrontEdit (ascii "del" ++ x) in
      let a : List ℕ = front na x in
      let ds : List ℕ = front digit x in
      on_holds _ (del_ins a) (inserted na (behind na x)) P
      (on_holds (del a) (λ ds. after_del_num na ds (behind digit x)) ds P
      (word_run na (ascii "del") x (del a) (front_every na x) refl)
      (λ h.
      on_holds (del_num ds) (del_num_ins ds) (inserted na (behind digit x)) P
      (word_run digit (ascii "del") x (del_num ds) (some_front digit x h) refl)
      (del_ins_lem digit x (del_num_ins ds (inserted na (behind digit x))) (λ w. (some_front digit x h, w)) refl)))
      (del_ins_lem na x (del_ins a (inserted na (behind na x))) (λ w. (front_every na x, w)) refl)

  ins_sound : (s : List ℕ) (t : NaEditTree) → parse_ins na s ≡ some t → FrontEdit s t
  unfolding parse_ins
  ins_sound s t =
      on_holds none (λ seq1. some (ins seq1)) (inserted na s) (λ (o : Option NaEditTree). o ≡ some t → FrontEdit s t)
      (λ e. absurd (none_some e))
      (λ h e.
      let i = inserts s h in
      let j : ins (inserted na s) ≡ t = cc in
      rw (← j) (record { wf = i.some1; after = i.after; text = i.text }))

  after_inv_sound : (x : List ℕ) → FrontEdit (ascii "inv" ++ x) (after_inv na x)
  unfolding after_inv
  after_inv_sound x =
      on_holds (inv (front na x)) inv_num (front digit x) (FrontEdit (ascii "inv" ++ x))
      (word_run na (ascii "inv") x (inv (front na x)) (front_every na x) refl)
      (λ h. word_run digit (ascii "inv") x (inv_num (front digit x)) (some_front digit x h) refl)

  pub sound : (s : List ℕ) (t : NaEditTree) → parse_na_edit na s ≡ some t → Front print_na_edit (WfNaEdit na) s t
  unfolding parse_na_edit parse_del parse_dup parse_inv
  sound s t h =
      next_cases (parse_ident na s) _ h (ident_sound s t) (λ h.
      next_cases (parse_subst na s) _ h (subst_sound s t) (λ h.
      next_cases (parse_del na s) _ h (word_holds (ascii "del") (after_del na) FrontEdit after_del_sound s t) (λ h.
      next_cases (parse_ins na s) _ h (ins_sound s t) (λ h.
      next_cases (parse_dup na s) _ h (word_holds (ascii "dup") (λ x. dup (front na x)) FrontEdit (λ x. word_run na (ascii "dup") x (dup (front na x)) (front_every na x) refl) s t)
      (word_holds (ascii "inv") (after_inv na) FrontEdit after_inv_sound s t)))))

module _ (na : ℕ → Bool) (al : Alphabet na) where
  abbrev pub na_edit_lang : Lang
  na_edit_lang = record { Tree = NaEditTree; print = print_na_edit; Wf = WfNaEdit na; Follows = Follows na; parse = parse_na_edit na; complete = complete na al; sound = sound na }
