-- A letter, a name, and what may follow it.
use Prim.Native.Nat.{◌+◌, ◌≤◌}
use mathlib.Core.Path.{sym, ◌∙◌}
use native.Mathlib.Omega.{arith}
use lib.ListN.{length}
use Rattle.alphabet.specs.Classes.{member}
use Rattle.header_lengths.proofs.CountedParts.{no_accession_end, no_initial, no_name, name_le, suffix_le, version_le, accession_is}
use Rattle.header_lengths.proofs.accession.Goals as goal
use Rattle.header_lengths.proofs.accession.Goals.{then-is_empty-via-then-is_empty, then-is_empty-via-else-is_empty+then-not-is_in}

pub returns-then-is_empty : goal.returns-then-is_empty
unfolding member
returns-then-is_empty c =
    elim c.then-is_empty.branch [
      | then-is_empty-via-then-is_empty w ↦ no_accession_end c.args.s.now (sym w.if-is_empty.ensures)
      | then-is_empty-via-else-is_empty+then-not-is_in w ↦ no_initial c.args.s.now (sym w.if-is_empty.ensures) (sym w.is_in.ensures ∙ w.if-not-is_in.true)
    ]

pub returns-then-n-eq0 : goal.returns-then-n-eq0
unfolding member
returns-then-n-eq0 c = no_name c.args.s.now (sym c.if-is_empty.ensures) c.run_of-n.ensures c.if-n-eq0.true

pub overflow_add-name : goal.overflow_add-name
unfolding member
overflow_add-name c =
    let name-ends : 1 + c.run_of-n.result ≤ length c.args.s.now = name_le c.args.s.now (sym c.if-is_empty.ensures) c.run_of-n.ensures in
    omega (arith, name-ends)

pub slice_bounds-optional-count : goal.slice_bounds-optional-count
unfolding member
slice_bounds-optional-count c =
    let name-ends : 1 + c.run_of-n.result ≤ length c.args.s.now = name_le c.args.s.now (sym c.if-is_empty.ensures) c.run_of-n.ensures in
    name-ends

pub slice_bounds-optional-start : goal.slice_bounds-optional-start
unfolding member
slice_bounds-optional-start c =
    let name-ends : 1 + c.run_of-n.result ≤ length c.args.s.now = name_le c.args.s.now (sym c.if-is_empty.ensures) c.run_of-n.ensures in
    name-ends

pub overflow_add-suffixed : goal.overflow_add-suffixed
unfolding member
overflow_add-suffixed c =
    let suffix-ends : 1 + c.run_of-n.result + c.optional-suffix.result ≤ length c.args.s.now = suffix_le c.args.s.now (sym c.if-is_empty.ensures) c.run_of-n.ensures c.optional-suffix.ensures in
    omega (arith, suffix-ends)

pub slice_bounds-optional-count-2 : goal.slice_bounds-optional-count-2
unfolding member
slice_bounds-optional-count-2 c =
    let suffix-ends : 1 + c.run_of-n.result + c.optional-suffix.result ≤ length c.args.s.now = suffix_le c.args.s.now (sym c.if-is_empty.ensures) c.run_of-n.ensures c.optional-suffix.ensures in
    suffix-ends

pub slice_bounds-optional-start-2 : goal.slice_bounds-optional-start-2
unfolding member
slice_bounds-optional-start-2 c =
    let suffix-ends : 1 + c.run_of-n.result + c.optional-suffix.result ≤ length c.args.s.now = suffix_le c.args.s.now (sym c.if-is_empty.ensures) c.run_of-n.ensures c.optional-suffix.ensures in
    suffix-ends

pub overflow_add-result : goal.overflow_add-result
unfolding member
overflow_add-result c = omega (arith, version_le c.args.s.now (sym c.if-is_empty.ensures) c.run_of-n.ensures c.optional-suffix.ensures c.optional-version.ensures)

pub returns : goal.returns
unfolding member
returns c =
    accession_is c.args.s.now (sym c.if-is_empty.ensures) (sym c.is_in.ensures ∙ c.if-not-is_in.false)
    c.run_of-n.ensures c.if-n-eq0.false c.optional-suffix.ensures c.optional-version.ensures
