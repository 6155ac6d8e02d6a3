-- The clauses of the parsers of positions, by the tests that the program makes, and the answer for each.
use Prim.Native.Nat.{ℕ, ◌+◌, ◌-◌, ◌≤◌}
use mathlib.Core.Path.{◌≡◌, sym, ap, ◌∙◌}
use mathlib.Core.List.{List, [], ◌∷◌, ◌++◌}
use mathlib.Core.Option.{none, some}
use mathlib.Core.Bool.{true, false, cond}
use native.Mathlib.Omega.{arith}
use mir.Syntax.{w32}
use mir.Val.{to_z, of_z}
use lib.IntN.{pos}
use lib.ListN.{length, take, drop, length-append, length-drop}
use lib.Seq.{drop-drop, length-take-le}
use borrow.Author.Tests.{ne_eqb}
use Rattle.texts.specs.Ascii.{ascii}
use Rattle.texts.specs.Runs.{run, front, behind}
use Rattle.texts.proofs.Runs.{front_length}
use Rattle.texts.proofs.Slices.{tail_part}
use Rattle.texts.specs.Words.{starts}
use Rattle.alphabet.specs.Letters.{digit}
use Rattle.numerals.specs.declared.Sign.TheVariants.{Unsigned}
use Rattle.numerals.specs.declared.Number.{Number}
use Rattle.numerals.specs.Reading.{number_at}
use Rattle.residue.specs.Reading.{residue_len}
use Rattle.residue.proofs.ResiduesRead.{residue_le}
use Rattle.record.specs.declared.Span.{Span}
use Rattle.record.specs.declared.Kind.{Kind}
use Rattle.record.specs.declared.Kind.TheVariants.{Cds, Genome, Prot}
use Rattle.grammar.specs.Positions as Tree
use Rattle.grammar.specs.Positions.{OffsetTree, Based.based, Genomic.known, Genomic.unknown, Residual.residual, print_mark, print_offset}
use Rattle.grammar.specs.Meaning.{number, sign_of}
use Rattle.grammar.specs.Records.{span}
use Rattle.grammar.specs.Numbers.{Numeral.numeral, offset_numbers}
use Rattle.std.specs.Prelude.{None, Some}
use Rattle.record.specs.Named.{Offset}
use Rattle.read_scan.specs.declared.Found.{Found}
use Rattle.read_scan.specs.Accounts.{found, answered, plain}
use Rattle.read_scan.specs.declared.Faults.{Faults}
use Rattle.read_scan.specs.Reading.{number_run, number_len, number_le, number_value, number_faults}
use Rattle.read_scan.specs.Faults.{faults, of_number, first, faults_nil, faults_append}
use Rattle.lang_locations.specs.Parse.{parse_mark, parse_offset, parse_based, parse_genomic, parse_residual}
use Rattle.lang_locations.proofs.Sound.{digits_none, digits_some, mark_split, offset_sound}
use Rattle.any_location.specs.declared.Position.{Position}
use Rattle.read_mark_offset.specs.declared.MarkRead.{MarkRead}
use Rattle.read_mark_offset.specs.MarkOffsetAnswers.{mark_of, offset_answer}
use Rattle.read_position.specs.Forms.{is_barred, parse_based_for}
use Rattle.any_location.specs.OfTree.{unmarked_of, based_of}
use Rattle.read_position.specs.PositionAnswers.{position_answer}

-- ---- the lengths of a mark and of an offset
mark_le : (s : List ℕ) → length (print_mark (parse_mark s)) ≤ length s
mark_le s = omega (arith, simp length-append at (ap length (mark_split s)))

offset_le : (at : ℕ) (s : List ℕ) → (offset_answer at (parse_offset s)).len ≤ length s
unfolding offset_answer
offset_le at s = omega (arith, simp length-append at (ap length (offset_sound s).text))

-- ---- c, n, r
based_found : (at : ℕ) (m : Tree.Mark) (ds : List ℕ) (o : OffsetTree)
    → found (based_of (based m ds o)) (length (print_mark m) + length ds + length (print_offset o)) (first (faults (numeral (at + length (print_mark m)) (sign_of m) ds ∷ []) true) (faults (offset_numbers (at + length (print_mark m) + length ds) o) true))
    ≡ position_answer Cds at (some (based m ds o))
unfolding answered
based_found at m ds o =
    let l : length (print_mark m) + length ds + length (print_offset o) ≡ length (print_mark m ++ (ds ++ print_offset o)) = simp length-append (omega arith) in
    let ms = numeral (at + length (print_mark m)) (sign_of m) ds ∷ [] in
    let ns = offset_numbers (at + length (print_mark m) + length ds) o in
    rw (l, ← faults_append ms ns true true)

-- the mark m, the number n behind it, and the offset o behind that
module _ (at : ℕ) (s : List ℕ) (m : MarkRead) (em : m ≡ mark_of (parse_mark s)) where
  pub based_mark : m.len ≤ length s
  based_mark = omega (arith, mark_le s, ap (λ (x : MarkRead). x.len) em)

  module _ (n : Number) (en : n ≡ number_at m.sign (take (length s - m.len) (drop m.len s))) where
    -- what is behind the mark
    y : List ℕ
    y = drop (length (print_mark (parse_mark s))) s

    read : n ≡ number_at (sign_of (parse_mark s)) y
    unfolding y
    read = en ∙ rw (tail_part m.len s, em)

    pub based_number_lem : m.len + n.len ≤ length s
    unfolding y
    based_number_lem = omega (arith, based_mark, number_le (sign_of (parse_mark s)) y n read, length-drop (length (print_mark (parse_mark s))) s, ap (λ (x : MarkRead). x.len) em)

    pub based_none : n.len ≡ 0 → None ≡ position_answer Cds at (parse_based s)
    unfolding y parse_based answered
    based_none z = rw (digits_none none (λ ds. some (based (parse_mark s) ds (parse_offset (behind digit y)))) y (sym (number_run (sign_of (parse_mark s)) y n read) ∙ z))

    module _ (z : n.len ≡ 0 → ⊥) (o : Found Offset) (eo : o ≡ offset_answer (at + (m.len + n.len)) (parse_offset (take (length s - (m.len + n.len)) (drop (m.len + n.len) s)))) where
      pub based_offset : m.len + n.len + o.len ≤ length s
      based_offset =
          let e = m.len + n.len in
          let l : o.len ≤ length (drop e s) = rw (eo, tail_part e s) (offset_le (at + e) (drop e s)) in
          omega (arith, based_number_lem, length-drop e s)

      offset_read : o ≡ offset_answer (at + length (print_mark (parse_mark s)) + length (front digit y)) (parse_offset (behind digit y))
      unfolding y behind
      offset_read =
          let k = length (print_mark (parse_mark s)) in
          let l : n.len ≡ run digit (drop k s) = number_run (sign_of (parse_mark s)) (drop k s) n read in
          let q : at + (k + run digit (drop k s)) ≡ at + k + length (front digit (drop k s)) = omega (arith, front_length digit (drop k s)) in
          eo ∙ rw (tail_part (m.len + n.len) s, em, l, q, drop-drop (run digit (drop k s)) k s)

      pub based_some : (aa : Span) (f g : Faults) → aa ≡ span 0 0 → f ≡ of_number n.fits n.plain (at + m.len) → g ≡ first f o.faults
          → found (record { aa = aa; number = to_z w32 (of_z w32 n.value); unknown = false; cds_from = m.cds_from; offset = o.value }) (m.len + n.len + o.len) g ≡ position_answer Cds at (parse_based s)
      unfolding y parse_based offset_answer
      based_some aa f g ea ef eg =
          let k = length (print_mark (parse_mark s)) in
          let ds = front digit y in
          let v : to_z w32 (of_z w32 n.value) ≡ number (sign_of (parse_mark s)) ds = number_value (sign_of (parse_mark s)) y n read in
          let l : n.len ≡ length ds = number_len (sign_of (parse_mark s)) y n read in
          let h : f ≡ faults (numeral (at + k) (sign_of (parse_mark s)) ds ∷ []) true = ef ∙ rw em (number_faults (sign_of (parse_mark s)) y n read (at + k)) in
          rw (digits_some none (λ ds. some (based (parse_mark s) ds (parse_offset (behind digit y)))) y (λ q. z (number_run (sign_of (parse_mark s)) y n read ∙ q)), eg, h, ea, v, l, offset_read, em)
          (based_found at (parse_mark s) ds (parse_offset (behind digit y)))

module _ (k : Kind) (at : ℕ) (s : List ℕ) where
  pub based_barred : is_barred k s ≡ true → None ≡ position_answer Cds at (parse_based_for k s)
  unfolding parse_based_for answered
  based_barred e = rw e

  pub based_free : is_barred k s ≡ false → position_answer Cds at (parse_based s) ≡ position_answer Cds at (parse_based_for k s)
  unfolding parse_based_for
  based_free e = rw e

-- ---- g, m
module _ (at : ℕ) (s : List ℕ) (n : Number) (en : n ≡ number_at Unsigned s) where
  pub genomic_unknown : n.len ≡ 0 → starts (ascii "?") s ≡ true → (aa : Span) (p : Position) → aa ≡ span 0 0 → p ≡ unmarked_of aa (pos 0) true
      → Some (plain p 1) ≡ position_answer Genome at (parse_genomic s)
  unfolding parse_genomic answered
  genomic_unknown z q aa p ea ep =
      rw (digits_none (cond (starts (ascii "?") s) (some unknown) none) (λ ds. some (known ds)) s (sym (number_run Unsigned s n en) ∙ z), q, ep, ea, faults_nil)

  pub genomic_none : n.len ≡ 0 → starts (ascii "?") s ≡ false → None ≡ position_answer Genome at (parse_genomic s)
  unfolding parse_genomic answered
  genomic_none z q = rw (digits_none (cond (starts (ascii "?") s) (some unknown) none) (λ ds. some (known ds)) s (sym (number_run Unsigned s n en) ∙ z), q)

  pub genomic_some : (n.len ≡ 0 → ⊥) → (aa : Span) (p : Position) (f : Faults) → aa ≡ span 0 0 → p ≡ unmarked_of aa (to_z w32 (of_z w32 n.value)) false → f ≡ of_number n.fits n.plain at
      → found p n.len f ≡ position_answer Genome at (parse_genomic s)
  unfolding parse_genomic answered
  genomic_some z aa p f ea ep ef =
      rw (digits_some (cond (starts (ascii "?") s) (some unknown) none) (λ ds. some (known ds)) s (λ q. z (number_run Unsigned s n en ∙ q)), ep, ea, number_value Unsigned s n en, ef, number_faults Unsigned s n en at, number_len Unsigned s n en)

-- ---- p: k, the residue's length, and the number n behind it
module _ (at : ℕ) (s : List ℕ) (k : ℕ) (ek : k ≡ residue_len s) where
  pub residual_le : k ≤ length s
  residual_le = omega (arith, residue_le s)

  pub residual_none : k ≡ 0 → None ≡ position_answer Prot at (parse_residual s)
  unfolding parse_residual answered
  residual_none z = rw (← ek, z)

  module _ (n : Number) (en : n ≡ number_at Unsigned (take (length s - k) (drop k s))) where
    behind_residue : n ≡ number_at Unsigned (drop k s)
    behind_residue = en ∙ rw (tail_part k s)

    pub residual_number_lem : k + n.len ≤ length s
    residual_number_lem = omega (arith, residual_le, number_le Unsigned (drop k s) n behind_residue, length-drop k s)

    pub residual_bare : (k ≡ 0 → ⊥) → n.len ≡ 0 → None ≡ position_answer Prot at (parse_residual s)
    unfolding parse_residual answered
    residual_bare zk z = rw (← ek, ne_eqb k 0 zk, digits_none none (λ ds. some (residual (take k s) ds)) (drop k s) (sym (number_run Unsigned (drop k s) n behind_residue) ∙ z))

    pub residual_some : (k ≡ 0 → ⊥) → (n.len ≡ 0 → ⊥) → (aa : Span) (p : Position) (f : Faults) → aa ≡ span at k → p ≡ unmarked_of aa (to_z w32 (of_z w32 n.value)) false → f ≡ of_number n.fits n.plain (at + k)
        → found p (k + n.len) f ≡ position_answer Prot at (parse_residual s)
    unfolding parse_residual answered
    residual_some zk z aa p f ea ep ef =
        let y = drop k s in
        let a : length (take k s) ≡ k = length-take-le k s residual_le in
        let l : k + n.len ≡ length (take k s ++ front digit y) = simp length-append (omega (arith, number_len Unsigned y n behind_residue)) in
        rw (← ek, ne_eqb k 0 zk, digits_some none (λ ds. some (residual (take k s) ds)) y (λ q. z (number_run Unsigned y n behind_residue ∙ q)), ep, ea, number_value Unsigned y n behind_residue, ef, number_faults Unsigned y n behind_residue (at + k), l, a)
