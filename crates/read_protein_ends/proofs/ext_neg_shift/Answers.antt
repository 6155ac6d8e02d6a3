-- A residue that may be missing, `-` and digits.
use Prim.Native.Nat.{◌+◌, ◌≤◌}
use mathlib.Core.Path.{◌≡◌, sym, ◌∙◌}
use mathlib.Core.Bool.{true}
use native.Mathlib.Omega.{arith}
use lib.ListN.{length}
use Rattle.texts.specs.Slices.{tail}
use Rattle.texts.specs.Ascii.{ascii}
use Rattle.texts.specs.Words.{starts}
use Rattle.texts.proofs.Words.{starts_length}
use Rattle.read_protein_ends.proofs.Ends.{behind_residue, no_minus, no_digits, earlier_room, earlier_found}
use Rattle.read_protein_ends.proofs.ext_neg_shift.Goals as goal

pub slice_bounds-rest-count : goal.slice_bounds-rest-count
slice_bounds-rest-count c =
    let m-le : c.residue_at-m.result ≤ length c.args.s.now = behind_residue 0 0 c.args.s.now _ c.residue_at-m.ensures in
    m-le

pub slice_bounds-rest-start : goal.slice_bounds-rest-start
slice_bounds-rest-start c =
    let m-le : c.residue_at-m.result ≤ length c.args.s.now = behind_residue 0 0 c.args.s.now _ c.residue_at-m.ensures in
    m-le

pub returns-then-not-begins : goal.returns-then-not-begins
returns-then-not-begins c = no_minus _ _ c.args.s.now _ c.residue_at-m.ensures (sym c.begins.ensures ∙ c.if-not-begins.true)

pub slice_bounds-number_at-count : goal.slice_bounds-number_at-count
slice_bounds-number_at-count c =
    let minus : starts (ascii "-") (tail c.residue_at-m.result c.args.s.now) ≡ true = sym c.begins.ensures ∙ c.if-not-begins.false in
    starts_length (ascii "-") _ minus

pub slice_bounds-number_at-start : goal.slice_bounds-number_at-start
slice_bounds-number_at-start c =
    let minus : starts (ascii "-") (tail c.residue_at-m.result c.args.s.now) ≡ true = sym c.begins.ensures ∙ c.if-not-begins.false in
    starts_length (ascii "-") _ minus

pub returns-then-d-eq0 : goal.returns-then-d-eq0
returns-then-d-eq0 c =
    let minus : starts (ascii "-") (tail c.residue_at-m.result c.args.s.now) ≡ true = sym c.begins.ensures ∙ c.if-not-begins.false in
    no_digits _ _ c.args.s.now _ c.residue_at-m.ensures minus c.number_at-d.result c.number_at-d.ensures c.if-d-eq0.true

pub residue_part-requires-2 : goal.residue_part-requires-2
residue_part-requires-2 c =
    let all-le : c.residue_at-m.result + 1 + c.number_at-d.result.len ≤ length c.args.s.now = let minus : starts (ascii "-") (tail c.residue_at-m.result c.args.s.now) ≡ true = sym c.begins.ensures ∙ c.if-not-begins.false in
    earlier_room 0 0 c.args.s.now _ c.residue_at-m.ensures minus c.number_at-d.result c.number_at-d.ensures in
    omega (arith, all-le)

pub overflow_add-result-2 : goal.overflow_add-result-2
overflow_add-result-2 c =
    let all-le : c.residue_at-m.result + 1 + c.number_at-d.result.len ≤ length c.args.s.now = let minus : starts (ascii "-") (tail c.residue_at-m.result c.args.s.now) ≡ true = sym c.begins.ensures ∙ c.if-not-begins.false in
    earlier_room 0 0 c.args.s.now _ c.residue_at-m.ensures minus c.number_at-d.result c.number_at-d.ensures in
    omega (arith, all-le)

pub overflow_add-result-3 : goal.overflow_add-result-3
overflow_add-result-3 c =
    let all-le : c.residue_at-m.result + 1 + c.number_at-d.result.len ≤ length c.args.s.now = let minus : starts (ascii "-") (tail c.residue_at-m.result c.args.s.now) ≡ true = sym c.begins.ensures ∙ c.if-not-begins.false in
    earlier_room 0 0 c.args.s.now _ c.residue_at-m.ensures minus c.number_at-d.result c.number_at-d.ensures in
    omega (arith, all-le)

pub overflow_add-result-4 : goal.overflow_add-result-4
overflow_add-result-4 c =
    let all-le : c.residue_at-m.result + 1 + c.number_at-d.result.len ≤ length c.args.s.now = let minus : starts (ascii "-") (tail c.residue_at-m.result c.args.s.now) ≡ true = sym c.begins.ensures ∙ c.if-not-begins.false in
    earlier_room 0 0 c.args.s.now _ c.residue_at-m.ensures minus c.number_at-d.result c.number_at-d.ensures in
    omega (arith, all-le)

pub overflow_add-k-3 : goal.overflow_add-k-3
overflow_add-k-3 c =
    let all-le : c.residue_at-m.result + 1 + c.number_at-d.result.len ≤ length c.args.s.now = let minus : starts (ascii "-") (tail c.residue_at-m.result c.args.s.now) ≡ true = sym c.begins.ensures ∙ c.if-not-begins.false in
    earlier_room 0 0 c.args.s.now _ c.residue_at-m.ensures minus c.number_at-d.result c.number_at-d.ensures in
    omega (arith, all-le)

pub overflow_add-k-4 : goal.overflow_add-k-4
overflow_add-k-4 c =
    let all-le : c.residue_at-m.result + 1 + c.number_at-d.result.len ≤ length c.args.s.now = let minus : starts (ascii "-") (tail c.residue_at-m.result c.args.s.now) ≡ true = sym c.begins.ensures ∙ c.if-not-begins.false in
    earlier_room 0 0 c.args.s.now _ c.residue_at-m.ensures minus c.number_at-d.result c.number_at-d.ensures in
    omega (arith, all-le)

pub of_number-requires : goal.of_number-requires
of_number-requires c =
    let all-le : c.residue_at-m.result + 1 + c.number_at-d.result.len ≤ length c.args.s.now = let minus : starts (ascii "-") (tail c.residue_at-m.result c.args.s.now) ≡ true = sym c.begins.ensures ∙ c.if-not-begins.false in
    earlier_room 0 0 c.args.s.now _ c.residue_at-m.ensures minus c.number_at-d.result c.number_at-d.ensures in
    omega (arith, all-le)

pub returns : goal.returns
returns c =
    let minus : starts (ascii "-") (tail c.residue_at-m.result c.args.s.now) ≡ true = sym c.begins.ensures ∙ c.if-not-begins.false in
    earlier_found _ _ c.args.s.now _ c.residue_at-m.ensures minus c.number_at-d.result c.number_at-d.ensures _ _ _ _ c.if-d-eq0.false c.residue_part.ensures c.residue_part-2.ensures c.of_number.ensures c.settled_if.ensures
