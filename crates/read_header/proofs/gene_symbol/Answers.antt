-- The bracket and the gene, then the closing bracket.
use Prim.Native.Nat.{◌≤◌}
use mathlib.Core.Path.{sym, ◌∙◌}
use mathlib.Core.Bool.{true, false}
use lib.ListN.{length}
use Rattle.texts.specs.Ascii.{ascii}
use Rattle.alphabet.specs.Letters.{alphanumeric}
use Rattle.alphabet.specs.Classes.{member}
use Rattle.header_lengths.specs.Lengths.{optional_le}
use Rattle.read_header.proofs.HeaderCases.{no_gene, gene_is}
use Rattle.read_header.proofs.gene_symbol.Goals as goal

pub returns-then-n-eq0 : goal.returns-then-n-eq0
unfolding member
returns-then-n-eq0 c = no_gene c.args.s.now c.optional-n.ensures c.if-n-eq0.true

pub slice_bounds-begins-count : goal.slice_bounds-begins-count
unfolding member
slice_bounds-begins-count c =
    let gene-ends : c.optional-n.result ≤ length c.args.s.now = optional_le (ascii "(") alphanumeric c.args.s.now c.optional-n.ensures in
    gene-ends

pub slice_bounds-begins-start : goal.slice_bounds-begins-start
unfolding member
slice_bounds-begins-start c =
    let gene-ends : c.optional-n.result ≤ length c.args.s.now = optional_le (ascii "(") alphanumeric c.args.s.now c.optional-n.ensures in
    gene-ends

pub returns-then-begins : goal.returns-then-begins
unfolding member
returns-then-begins c = gene_is c.args.s.now c.optional-n.ensures c.if-n-eq0.false true (sym c.begins.ensures ∙ c.if-begins.true)

pub returns-else-begins : goal.returns-else-begins
unfolding member
returns-else-begins c = gene_is c.args.s.now c.optional-n.ensures c.if-n-eq0.false false (sym c.begins.ensures ∙ c.if-begins.false)
