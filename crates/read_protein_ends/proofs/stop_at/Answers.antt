-- No terminal; or a terminal and the length behind it.
use Prim.Native.Nat.{◌+◌, ◌≤◌}
use mathlib.Core.Path.{ap, ◌∙◌}
use native.Mathlib.Omega.{arith}
use lib.ListN.{length, length-drop}
use Rattle.texts.specs.Slices.{tail}
use Rattle.texts.proofs.Slices.{tail_part}
use Rattle.read_protein_ends.proofs.Ends.{terminal_le, length_le, stop_none, stop_some}
use Rattle.read_protein_ends.proofs.stop_at.Goals as goal

pub returns-then-t-eq0 : goal.returns-then-t-eq0
returns-then-t-eq0 c = c.plain.ensures ∙ stop_none _ c.args.s.now _ c.terminal_at-t.ensures c.if-t-eq0.true

pub slice_bounds-length_at-count : goal.slice_bounds-length_at-count
slice_bounds-length_at-count c =
    let t-le : c.terminal_at-t.result ≤ length c.args.s.now = omega (arith, c.terminal_at-t.ensures, terminal_le c.args.s.now) in
    t-le

pub slice_bounds-length_at-start : goal.slice_bounds-length_at-start
slice_bounds-length_at-start c =
    let t-le : c.terminal_at-t.result ≤ length c.args.s.now = omega (arith, c.terminal_at-t.ensures, terminal_le c.args.s.now) in
    t-le

pub overflow_add-at : goal.overflow_add-at
overflow_add-at c =
    let t-le : c.terminal_at-t.result ≤ length c.args.s.now = omega (arith, c.terminal_at-t.ensures, terminal_le c.args.s.now) in
    omega (arith, t-le)

pub length_at-n-requires : goal.length_at-n-requires
length_at-n-requires c =
    let t-le : c.terminal_at-t.result ≤ length c.args.s.now = omega (arith, c.terminal_at-t.ensures, terminal_le c.args.s.now) in
    omega (arith, t-le)

pub span-requires : goal.span-requires
span-requires c =
    let t-le : c.terminal_at-t.result ≤ length c.args.s.now = omega (arith, c.terminal_at-t.ensures, terminal_le c.args.s.now) in
    omega (arith, t-le)

pub overflow_add-result : goal.overflow_add-result
overflow_add-result c =
    let all-le : c.terminal_at-t.result + c.length_at-n.result.len ≤ length c.args.s.now = let t-le : c.terminal_at-t.result ≤ length c.args.s.now = omega (arith, c.terminal_at-t.ensures, terminal_le c.args.s.now) in
    let s = c.args.s.now in
    omega (arith, t-le, ap (λ n. n.len) c.length_at-n.ensures, length_le (c.args.at + c.terminal_at-t.result) (tail c.terminal_at-t.result s), ap length (tail_part c.terminal_at-t.result s), length-drop c.terminal_at-t.result s) in
    omega (arith, all-le)

pub returns : goal.returns
returns c = stop_some _ c.args.s.now _ c.terminal_at-t.ensures c.length_at-n.result _ c.if-t-eq0.false c.length_at-n.ensures c.span.ensures
