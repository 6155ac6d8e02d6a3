-- What stands behind `fs` and `ext`: the clauses of the list parser, by the tests that the program makes.
use Rattle.std.specs.Prelude as Prelude
use Rattle.std.specs.Prelude.{None, Some}
use Rattle.std.specs.Option.{MatchOption}
use Prim.Native.Nat.{ℕ, ◌+◌, ◌-◌, ◌≤◌}
use mathlib.Core.Path.{◌≡◌, refl, sym, ap, ◌∙◌}
use mathlib.Core.List.{List, [], ◌∷◌}
use mathlib.Core.Option.{Option, none, some}
use mathlib.Core.Bool.{Bool, true, false}
use native.Mathlib.Omega.{arith}
use mir.Syntax.{w32}
use mir.Val.{to_z, of_z}
use lib.Dec.{eqb}
use lib.ListN.{length, take, drop, length-append, length-drop}
use lib.Seq.{length-take-le}
use borrow.Author.Tests.{eq-eqb, ne_eqb}
use Rattle.texts.specs.Ascii.{ascii}
use Rattle.texts.specs.Slices.{tail}
use Rattle.texts.proofs.Slices.{tail_part}
use Rattle.texts.specs.Runs.{run, front}
use Rattle.texts.specs.Words.{starts}
use Rattle.texts.proofs.Words.{starts_length}
use Rattle.alphabet.specs.Letters.{digit}
use Rattle.numerals.specs.Reading.{number_at}
use Rattle.numerals.specs.declared.Number.{Number}
use Rattle.numerals.specs.declared.Sign.TheVariants.{Unsigned, Negated}
use Rattle.residue.specs.Reading.{residue_len}
use Rattle.residue.proofs.ResiduesRead.{residue_le}
use Rattle.record.specs.declared.Span.{Span}
use Rattle.record.specs.Named.{Part}
use Rattle.record.specs.declared.UncertainLengthChange.{UncertainLengthChange}
use Rattle.record.specs.declared.UncertainLengthChange.TheVariants.{None as NoLength, Unknown, Known}
use Rattle.record.specs.declared.ProteinEdit as D
use Rattle.record.specs.declared.ProteinEdit.TheVariants.{Fs, Ext}
use Rattle.grammar.specs.Optional.{print_optional}
use Rattle.grammar.specs.ProteinEdits.{Terminal, Terminal.ter, Terminal.x, Terminal.star, Stop, Stop.stop, ExtEnd, ExtEnd.earlier, print_terminal, print_fs_end, print_ext_end}
use Rattle.grammar.specs.Records.{span, part_of}
use Rattle.lang.proofs.Lang.{front_within}
use Rattle.grammar.specs.Numbers.{Numeral.numeral}
use Rattle.read_scan.specs.Faults.{faults, of_number, settled_if, faults_nil, settled_only}
use Rattle.read_scan.specs.Reading.{number_run, number_len, number_le, number_value, number_faults}
use Rattle.read_scan.specs.declared.Faults.{Faults}
use Rattle.read_scan.specs.declared.Found.{Found}
use Rattle.read_scan.specs.Accounts.{found, plain}
use Rattle.lang_protein_edits.specs.Parse.{bytes_of, terminal_at, length_at, stop_at, earlier_with, earlier_at, later_of, ext_end_at}
use Rattle.lang_protein_edits.proofs.Complete.{bytes_some}
use Rattle.lang_protein_edits.proofs.Sound.{bytes_print, terminal_sound, length_sound, fs_sound}
use Rattle.read_protein_ends.specs.declared.Stop as Declared
use Rattle.read_protein_ends.specs.EndAnswers.{terminal_len, length_read, stop_read, residue_part, fs_read, ext_read, earlier_read}

-- ---- terminals
module _ (s : List ℕ) where
  pub terminal_ter : starts (ascii "Ter") s ≡ true → 3 ≡ terminal_len (terminal_at s)
  unfolding terminal_len terminal_at
  terminal_ter a = rw a

  pub terminal_x : starts (ascii "Ter") s ≡ false → starts (ascii "X") s ≡ true → 1 ≡ terminal_len (terminal_at s)
  unfolding terminal_len terminal_at
  terminal_x a b = rw (a, b)

  pub terminal_star : starts (ascii "Ter") s ≡ false → starts (ascii "X") s ≡ false → starts (ascii "*") s ≡ true → 1 ≡ terminal_len (terminal_at s)
  unfolding terminal_len terminal_at
  terminal_star a b c = rw (a, b, c)

  pub terminal_none : starts (ascii "Ter") s ≡ false → starts (ascii "X") s ≡ false → starts (ascii "*") s ≡ false → 0 ≡ terminal_len (terminal_at s)
  unfolding terminal_len terminal_at
  terminal_none a b c = rw (a, b, c)

  pub terminal_le : terminal_len (terminal_at s) ≤ length s
  unfolding terminal_len
  terminal_le = go (terminal_at s) refl
    where
      go : (o : Option Terminal) → terminal_at s ≡ o → terminal_len o ≤ length s
      go none e = omega arith
      go (some t) e = omega (arith, ap length (terminal_sound s t e), length-append (print_terminal t) (drop (length (print_terminal t)) s))

-- ---- lengths
module _ (at : ℕ) (s : List ℕ) (n : Number) (e : n ≡ number_at Unsigned s) where
  pub length_counted : (f : Faults) → (n.len ≡ 0 → ⊥) → f ≡ of_number n.fits n.plain at
      → ◌≡◌ {A = Found UncertainLengthChange} (record { value = Known (to_z w32 (of_z w32 n.value)); len = n.len; faults = f }) (length_read at (length_at s))
  unfolding length_read length_at
  length_counted f h ef =
      let z : run digit s ≡ 0 → ⊥ = λ q. h (number_run Unsigned s n e ∙ q) in
      rw (ne_eqb (run digit s) 0 z, number_value Unsigned s n e, number_len Unsigned s n e, ef, number_faults Unsigned s n e at)

  module _ (h : n.len ≡ 0) where
    none_counted : eqb (run digit s) 0 ≡ true
    none_counted = eq-eqb (run digit s) 0 (sym (number_run Unsigned s n e) ∙ h)

    pub length_unknown : starts (ascii "?") s ≡ true → plain Unknown 1 ≡ length_read at (length_at s)
    unfolding length_read length_at
    length_unknown q = rw (none_counted, q, faults_nil)

    pub length_unsaid : starts (ascii "?") s ≡ false → plain NoLength 0 ≡ length_read at (length_at s)
    unfolding length_read length_at
    length_unsaid q = rw (none_counted, q, faults_nil)

pub length_le : (at : ℕ) (s : List ℕ) → (length_read at (length_at s)).len ≤ length s
unfolding length_read
length_le at s = front_within (length_sound s)

-- ---- a terminal of t bytes, and the length behind it
terminal_some : (t : Terminal) → terminal_len (some t) ≡ 0 → ⊥
unfolding terminal_len
terminal_some ter e = omega arith
terminal_some x e = omega arith
terminal_some star e = omega arith

abbrev no_stop : Declared.Stop
no_stop = record { terminal = None; change = NoLength }

module _ (at : ℕ) (s : List ℕ) (t : ℕ) (et : t ≡ terminal_len (terminal_at s)) where
  pub stop_none : t ≡ 0 → plain no_stop 0 ≡ stop_read at (stop_at s)
  unfolding stop_read stop_at
  stop_none h = go (terminal_at s) refl
    where
      go : (o : Option Terminal) → terminal_at s ≡ o → plain no_stop 0 ≡ stop_read at (stop_at s)
      go none e = rw (e, stop_at, faults_nil)
      go (some u) e = absurd (terminal_some u (ap terminal_len (sym e) ∙ sym et ∙ h))

  pub stop_some : (n : Found UncertainLengthChange) (p : Span) → (t ≡ 0 → ⊥) → n ≡ length_read (at + t) (length_at (take (length s - t) (drop t s))) → p ≡ span at t
      → ◌≡◌ {A = Found Declared.Stop} (record { value = record { terminal = Some p; change = n.value }; len = t + n.len; faults = n.faults }) (stop_read at (stop_at s))
  unfolding stop_read stop_at length_read terminal_len
  stop_some n p h en ep = go (terminal_at s) refl
    where
      go : (o : Option Terminal) → terminal_at s ≡ o → ◌≡◌ {A = Found Declared.Stop} (record { value = record { terminal = Some p; change = n.value }; len = t + n.len; faults = n.faults }) (stop_read at (stop_at s))
      go none e = absurd (h (et ∙ ap terminal_len e))
      go (some u) e =
          let l : t ≡ length (print_terminal u) = et ∙ ap terminal_len e in
          let m : n ≡ length_read (at + t) (length_at (drop t s)) = rw (tail_part t s) at en in
          rw (e, stop_at, m, ep, l, length-append)

pub stop_le : (at : ℕ) (s : List ℕ) → (stop_read at (stop_at s)).len ≤ length s
unfolding stop_read
stop_le at s = go (stop_at s) (front_within (fs_sound s))
  where
    go : (o : Option Stop) → length (print_fs_end o) ≤ length s → (stop_read at o).len ≤ length s
    go none h = omega arith
    go (some (stop t n)) h = h

-- ---- behind `fs`, and behind `ext` where no `-` stands
module _ (k n : ℕ) (o : Option Stop) (e : Found Declared.Stop) (p : Part) (ep : p ≡ residue_part k n) where
  abbrev Gives : D.ProteinEdit → ℕ → Found D.ProteinEdit → Type 0
  Gives d m = ◌≡◌ (record { value = d; len = m; faults = e.faults })

  pub fs_found : e ≡ stop_read (k + n + 2) o → Gives (Fs p e.value.terminal e.value.change) (n + 2 + e.len) (fs_read k n o)
  unfolding fs_read stop_read
  fs_found ee = go o ee
    where
      go : (o : Option Stop) → e ≡ stop_read (k + n + 2) o → Gives (Fs p e.value.terminal e.value.change) (n + 2 + e.len) (fs_read k n o)
      go none q = rw (q, ep)
      go (some (stop t m)) q = rw (q, ep)

  pub later_found : e ≡ stop_read (k + n + 3) o → Gives (Ext p e.value.terminal e.value.change) (n + 3 + e.len) (ext_read k n (later_of o))
  unfolding ext_read stop_read
  later_found ee = go o ee
    where
      go : (o : Option Stop) → e ≡ stop_read (k + n + 3) o → Gives (Ext p e.value.terminal e.value.change) (n + 3 + e.len) (ext_read k n (later_of o))
      go none q = rw (q, ep)
      go (some (stop t m)) q = rw (q, ep)

-- ---- an optional residue of n bytes
pub part_absent : (k n : ℕ) → n ≡ 0 → None ≡ residue_part k n
unfolding residue_part
part_absent k n e = rw e

pub part_present : (k n : ℕ) (p : Span) → (n ≡ 0 → ⊥) → p ≡ span k n → Some p ≡ residue_part k n
unfolding residue_part
part_present k n p h e = rw (ne_eqb n 0 h, e)

pub bytes_part : (k n : ℕ) (s : List ℕ) → n ≤ length s → residue_part k n ≡ part_of k (bytes_of n s)
unfolding residue_part bytes_of
bytes_part k n s h = go (eqb n 0) refl
  where
    go : (b : Bool) → eqb n 0 ≡ b → residue_part k n ≡ part_of k (bytes_of n s)
    go true e = rw (e, residue_part, bytes_of)
    go false e = rw (e, residue_part, bytes_of, length-take-le n s h)

pub bytes_length : (n : ℕ) (s : List ℕ) → n ≤ length s → length (print_optional [] (bytes_of n s)) ≡ n
bytes_length n s h = ap length (bytes_print n s) ∙ length-take-le n s h

-- ---- behind `ext`: a residue of m bytes, and what is behind it
-- behind the residue and `-`
abbrev digits_of : ℕ → List ℕ → List ℕ
digits_of m s = drop 1 (drop m s)

module _ (k n : ℕ) (s : List ℕ) (m : ℕ) (em : m ≡ residue_len s) where
  pub behind_residue : m ≤ length s
  behind_residue = omega (arith, residue_le s)

  pub no_minus : starts (ascii "-") (tail m s) ≡ false → None ≡ earlier_read k n (earlier_at s)
  unfolding earlier_read earlier_at earlier_with
  no_minus h = let q : starts (ascii "-") (drop m s) ≡ false = rw (tail_part m s) at h in rw (← em, q)

  module _ (h : starts (ascii "-") (tail m s) ≡ true) (d : Number) (ed : d ≡ number_at Negated (tail 1 (tail m s))) where
    minus : starts (ascii "-") (drop m s) ≡ true
    minus = rw (tail_part m s) at h

    digits : d ≡ number_at Negated (digits_of m s)
    digits = rw (tail_part 1 (drop m s)) at (rw (tail_part m s) at ed)

    earlier_is : earlier_at s ≡ earlier_with m s
    unfolding earlier_at
    earlier_is = rw em

    pub no_digits : d.len ≡ 0 → None ≡ earlier_read k n (earlier_at s)
    unfolding earlier_read earlier_with bytes_of
    no_digits e = let q : run digit (digits_of m s) ≡ 0 = sym (number_run Negated (digits_of m s) d digits) ∙ e in rw (earlier_is, minus, q)

    pub earlier_room : m + 1 + d.len ≤ length s
    earlier_room =
        omega (arith, number_le Negated (digits_of m s) d digits, length-drop 1 (drop m s), length-drop m s, starts_length (ascii "-") (drop m s) minus, behind_residue)

    found_earlier : (d.len ≡ 0 → ⊥) → earlier_at s ≡ some (earlier (bytes_of m s) (front digit (digits_of m s)))
    unfolding earlier_with front
    found_earlier e =
        let q : run digit (digits_of m s) ≡ 0 → ⊥ = λ i. e (number_run Negated (digits_of m s) d digits ∙ i) in
        rw (earlier_is, minus, bytes_some (run digit (digits_of m s)) (digits_of m s) q)

    pub earlier_found : (p q : Part) (f g : Faults) → (d.len ≡ 0 → ⊥) → p ≡ residue_part k n → q ≡ residue_part (k + n + 3) m → f ≡ of_number d.fits d.plain (k + n + 3 + m + 1) → g ≡ settled_if false f
        → found (Ext p q (Known (to_z w32 (of_z w32 d.value)))) (n + 3 + m + 1 + d.len) g ≡ earlier_read k n (earlier_at s)
    unfolding earlier_read ext_read
    earlier_found p q f g e ep eq ef eg =
        let l : length (print_optional [] (bytes_of m s)) ≡ m = bytes_length m s behind_residue in
        let a : length (print_ext_end (earlier (bytes_of m s) (front digit (digits_of m s)))) ≡ m + (1 + d.len) = rw (length-append, l, number_len Negated (digits_of m s) d digits) (omega arith) in
        let b : n + 3 + m + 1 + d.len ≡ n + 3 + length (print_ext_end (earlier (bytes_of m s) (front digit (digits_of m s)))) = rw a (omega arith) in
        let ns = numeral (k + n + 3 + m + 1) Negated (front digit (digits_of m s)) ∷ [] in
        let c : g ≡ faults ns false = eg ∙ ap (settled_if false) (ef ∙ number_faults Negated (digits_of m s) d digits (k + n + 3 + m + 1)) ∙ settled_only false ns in
        rw (found_earlier e, b, ep, eq, bytes_part (k + n + 3) m s behind_residue, number_value Negated (digits_of m s) d digits, c, l)

-- ---- behind `ext`: r is what the first of the two finds, and q what the second finds where the first finds nothing
pub ext_found : (k n : ℕ) (s : List ℕ) (r : Prelude.Option (Found D.ProteinEdit)) (q : Found D.ProteinEdit) {P : Type 0} → r ≡ earlier_read k n (earlier_at s) → MatchOption r P (λ x. q ≡ x) → (P → q ≡ ext_read k n (later_of (stop_at s))) → q ≡ ext_read k n (ext_end_at s)
unfolding ext_end_at earlier_read
ext_found k n s r q {P} e m h = go (earlier_at s) refl
  where
    go : (o : Option ExtEnd) → earlier_at s ≡ o → q ≡ ext_read k n (ext_end_at s)
    go none i = rw (i, ext_end_at) (h (rw (e, i) at m))
    go (some a) i = rw (i, ext_end_at) (rw (e, i) at m)
