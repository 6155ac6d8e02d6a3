-- From the answers for positions to the answer for an interval.
use Prim.Native.Nat.{ℕ, ◌+◌, ◌-◌, ◌≤◌}
use mathlib.Core.Path.{◌≡◌, refl, sym, ap, ◌∙◌}
use mathlib.Core.List.{List, ◌++◌}
use mathlib.Core.Option.{none, some}
use mathlib.Core.Bool.{true, false, not}
use native.Mathlib.Omega.{arith}
use mir.Syntax.{w32}
use mir.Val.{SFits, of_z}
use lib.Dec.{eqb}
use lib.ListN.{length, take, drop, length-append, length-drop}
use Rattle.texts.specs.Ascii.{ascii}
use Rattle.texts.proofs.Slices.{tail_part, tail_at, tail_beyond}
use Rattle.texts.specs.Words.{starts}
use Rattle.texts.proofs.Words.{starts_length}
use Rattle.numerals.specs.declared.Sign.TheVariants.{Unsigned}
use Rattle.numerals.specs.Digits.{val}
use Rattle.numerals.proofs.Signs.{or_zero_fits}
use Rattle.record.specs.declared.Kind.{Kind}
use Rattle.record.specs.declared.Kind.TheVariants.{Cds, Genome, Mt, Tx, Prot, Rna}
use Rattle.grammar.specs.Positions as Tree
use Rattle.grammar.specs.Positions.{Based.based, Genomic.known, Genomic.unknown, Residual.residual, print_position}
use Rattle.grammar.specs.Shapes.{Interval.one, Interval.two}
use Rattle.grammar.specs.Meaning.{sign_of}
use Rattle.grammar.specs.Numbers.{position_numbers}
use Rattle.lang.proofs.Lang.{within}
use Rattle.lang.specs.IntervalLang.{parse_interval}
use Rattle.std.specs.Prelude.{None}
use Rattle.read_scan.specs.declared.Found.{Found}
use Rattle.read_scan.specs.Accounts.{found, answered}
use Rattle.read_scan.specs.declared.Faults.{Faults}
use Rattle.read_scan.specs.Faults.{faults, first, settled_if, faults_append, settled_only}
use Rattle.lang_locations.specs.Parse.{parse_position}
use Rattle.lang_locations.proofs.Languages.{pos_lang, ends_lang}
use Rattle.lang_locations.specs.Equal.{eqℤ}
use Rattle.lang_locations.proofs.Equal.{machine_equal}
use Rattle.lang_locations.specs.Settled.{number_in}
use Rattle.any_location.specs.declared.Position.{Position}
use Rattle.read_position.specs.Told.{PositionTold, position_unread}
use Rattle.any_location.specs.OfTree.{position_of, interval_of}
use Rattle.read_position.specs.PositionAnswers.{position_answer}
use Rattle.read_location.specs.LocationAnswers.{interval_answer}

number_in_lem : (k : Kind) (at : ℕ) (t : Tree.PositionTree k) → (position_of k at t).number ≡ number_in k t
number_in_lem Cds at (based m ds o) = refl
number_in_lem Genome at (known ds) = refl
number_in_lem Genome at unknown = refl
number_in_lem Mt at (known ds) = refl
number_in_lem Mt at unknown = refl
number_in_lem Tx at (based m ds o) = refl
number_in_lem Prot at (residual r ds) = refl
number_in_lem Rna at (based m ds o) = refl

number_fits : (k : Kind) (t : Tree.PositionTree k) → SFits w32 (number_in k t)
number_fits Cds (based m ds o) = or_zero_fits (sign_of m) (val ds)
number_fits Genome (known ds) = or_zero_fits Unsigned (val ds)
number_fits Genome unknown = record { sfits = omega arith }
number_fits Mt (known ds) = or_zero_fits Unsigned (val ds)
number_fits Mt unknown = record { sfits = omega arith }
number_fits Tx (based m ds o) = or_zero_fits (sign_of m) (val ds)
number_fits Prot (residual r ds) = or_zero_fits Unsigned (val ds)
number_fits Rna (based m ds o) = or_zero_fits (sign_of m) (val ds)

module _ (k : Kind) (at : ℕ) (s : List ℕ) where
  pub interval_none : None ≡ position_answer k at (parse_position k s) → None ≡ interval_answer k at ((ends_lang k).parse s)
  unfolding parse_interval answered
  interval_none e = rw (position_unread k at s e)

  -- where t stands first
  module _ (t : Tree.PositionTree k) (q : parse_position k s ≡ some t) where
    one_is : starts (ascii "_") (drop (length (print_position k t)) s) ≡ false
        → found (interval_of k true at (one t)) (length (print_position k t)) (faults (position_numbers k at t) true) ≡ interval_answer k at ((ends_lang k).parse s)
    unfolding parse_interval answered
    one_is j = rw (q, j)

    module _ (j : starts (ascii "_") (drop (length (print_position k t)) s) ≡ true) where
      half_is : parse_position k (drop 1 (drop (length (print_position k t)) s)) ≡ none → None ≡ interval_answer k at ((ends_lang k).parse s)
      unfolding parse_interval answered
      half_is h = rw (q, j, h)

      two_is : (u : Tree.PositionTree k) → parse_position k (drop 1 (drop (length (print_position k t)) s)) ≡ some u
          → found (interval_of k true at (two t u)) (length (print_position k t) + 1 + length (print_position k u)) (settled_if (not (eqℤ (number_in k t) (number_in k u))) (first (faults (position_numbers k at t) true) (faults (position_numbers k (at + length (print_position k t) + 1) u) true))) ≡ interval_answer k at ((ends_lang k).parse s)
      unfolding parse_interval answered
      two_is u h =
          let l : length (print_position k t) + 1 + length (print_position k u) ≡ length (print_position k t ++ (ascii "_" ++ print_position k u)) = simp length-append (omega arith) in
          let ms = position_numbers k at t in
          let ns = position_numbers k (at + length (print_position k t) + 1) u in
          rw (q, j, h, l, ← faults_append ms ns true true, settled_only (not (eqℤ (number_in k t) (number_in k u))) (ms ++ ns))

-- what was read first
module _ (k : Kind) {at : ℕ} {s : List ℕ} {x : Found Position} (a : PositionTold k at s x) where
  pub start_le : x.len ≤ length s
  start_le = omega (arith, a.long, within (pos_lang k) s a.tree a.parsed)

  rest_is : take (length s - x.len) (drop x.len s) ≡ drop (length (print_position k a.tree)) s
  rest_is = tail_at s a.long

  pub interval_one : starts (ascii "_") (take (length s - x.len) (drop x.len s)) ≡ false → found (record { certain = true; start = x.value; end = x.value }) x.len x.faults ≡ interval_answer k at ((ends_lang k).parse s)
  interval_one j = cc (one_is k at s a.tree a.parsed (sym (ap (starts (ascii "_")) rest_is) ∙ j))

  module _ (j : starts (ascii "_") (take (length s - x.len) (drop x.len s)) ≡ true) where
    joined : starts (ascii "_") (drop (length (print_position k a.tree)) s) ≡ true
    joined = sym (ap (starts (ascii "_")) rest_is) ∙ j

    pub join_le : x.len + 1 ≤ length s
    join_le = omega (arith, starts_length (ascii "_") (drop x.len s) (rw (tail_part x.len s) at j), length-drop x.len s, start_le)

    next_is : take (length s - (x.len + 1)) (drop (x.len + 1) s) ≡ drop 1 (drop (length (print_position k a.tree)) s)
    next_is = tail_beyond 1 s a.long

    pub interval_half : None ≡ position_answer k (at + (x.len + 1)) (parse_position k (take (length s - (x.len + 1)) (drop (x.len + 1) s))) → None ≡ interval_answer k at ((ends_lang k).parse s)
    interval_half h = half_is k at s a.tree a.parsed joined (ap (parse_position k) (sym next_is) ∙ position_unread k (at + (x.len + 1)) _ h)

    -- what was read behind the bar
    module _ {y : Found Position} (b : PositionTold k (at + (x.len + 1)) (take (length s - (x.len + 1)) (drop (x.len + 1) s)) y) where
      pub end_le : x.len + 1 + y.len ≤ length s
      end_le =
          let r = take (length s - (x.len + 1)) (drop (x.len + 1) s) in
          let w : length r ≡ length s - (x.len + 1) = rw (tail_part (x.len + 1) s) (length-drop (x.len + 1) s) in
          omega (arith, b.long, within (pos_lang k) r b.tree b.parsed, join_le)

      pub interval_two : (f g : Faults) → f ≡ first x.faults y.faults → g ≡ settled_if (not (eqb (of_z w32 x.value.number) (of_z w32 y.value.number))) f → found (record { certain = true; start = x.value; end = y.value }) (x.len + 1 + y.len) g ≡ interval_answer k at ((ends_lang k).parse s)
      interval_two f g ef eg =
          let number : x.value.number ≡ number_in k a.tree = ap (λ (v : Position). v.number) a.means ∙ number_in_lem k at a.tree in
          let other : y.value.number ≡ number_in k b.tree = ap (λ (v : Position). v.number) b.means ∙ number_in_lem k (at + (x.len + 1)) b.tree in
          let test : eqb (of_z w32 x.value.number) (of_z w32 y.value.number) ≡ eqℤ (number_in k a.tree) (number_in k b.tree) = rw (number, other) (machine_equal _ _ (number_fits k a.tree) (number_fits k b.tree)) in
          let place : at + (x.len + 1) ≡ at + length (print_position k a.tree) + 1 = omega (arith, a.long) in
          let means : y.value ≡ position_of k (at + length (print_position k a.tree) + 1) b.tree = b.means ∙ ap (λ (i : ℕ). position_of k i b.tree) place in
          let wrong : y.faults ≡ faults (position_numbers k (at + length (print_position k a.tree) + 1) b.tree) true = b.wrong ∙ ap (λ (i : ℕ). faults (position_numbers k i b.tree) true) place in
          cc (two_is k at s a.tree a.parsed joined b.tree (ap (parse_position k) (sym next_is) ∙ b.parsed))
