-- The accession, then the gene in its brackets or none.
use Prim.Native.Nat.{◌+◌, ◌≤◌}
use native.Mathlib.Omega.{arith}
use lib.ListN.{length}
use Rattle.header_lengths.specs.Lengths.{accession_le}
use Rattle.read_header.proofs.HeaderCases.{gene_le, no_header, header_alone, header_gene}
use Rattle.read_header.proofs.header_at.Goals as goal

pub returns-then-n-eq0 : goal.returns-then-n-eq0
returns-then-n-eq0 c = no_header c.args.s.now c.accession-n.ensures c.args.at c.if-n-eq0.true

pub span-accession-requires : goal.span-accession-requires
span-accession-requires c =
    let name-ends : c.accession-n.result ≤ length c.args.s.now = accession_le c.args.s.now c.accession-n.ensures in
    omega (arith, name-ends)

pub slice_bounds-gene_symbol-count : goal.slice_bounds-gene_symbol-count
slice_bounds-gene_symbol-count c =
    let name-ends : c.accession-n.result ≤ length c.args.s.now = accession_le c.args.s.now c.accession-n.ensures in
    name-ends

pub slice_bounds-gene_symbol-start : goal.slice_bounds-gene_symbol-start
slice_bounds-gene_symbol-start c =
    let name-ends : c.accession-n.result ≤ length c.args.s.now = accession_le c.args.s.now c.accession-n.ensures in
    name-ends

pub returns-then-g-eq0 : goal.returns-then-g-eq0
returns-then-g-eq0 c =
    let a = c.args in
    header_alone a.s.now c.accession-n.ensures c.if-n-eq0.false c.gene_symbol-g.ensures a.at c.span-accession.ensures c.if-g-eq0.true

pub overflow_add-at-2 : goal.overflow_add-at-2
overflow_add-at-2 c =
    let gene-ends : c.accession-n.result + 1 + c.gene_symbol-g.result + 1 ≤ length c.args.s.now = gene_le c.args.s.now c.accession-n.ensures c.if-n-eq0.false c.gene_symbol-g.ensures c.if-g-eq0.false in
    omega (arith, gene-ends)

pub span-requires : goal.span-requires
span-requires c =
    let gene-ends : c.accession-n.result + 1 + c.gene_symbol-g.result + 1 ≤ length c.args.s.now = gene_le c.args.s.now c.accession-n.ensures c.if-n-eq0.false c.gene_symbol-g.ensures c.if-g-eq0.false in
    omega (arith, gene-ends)

pub overflow_add-result-3 : goal.overflow_add-result-3
overflow_add-result-3 c =
    let gene-ends : c.accession-n.result + 1 + c.gene_symbol-g.result + 1 ≤ length c.args.s.now = gene_le c.args.s.now c.accession-n.ensures c.if-n-eq0.false c.gene_symbol-g.ensures c.if-g-eq0.false in
    omega (arith, gene-ends)

pub returns : goal.returns
returns c =
    let a = c.args in
    header_gene a.s.now c.accession-n.ensures c.if-n-eq0.false c.gene_symbol-g.ensures a.at c.span-accession.ensures c.if-g-eq0.false c.span.ensures
