-- The alternatives in the crate's order.
use Prim.Native.Nat.{◌≤◌}
use mathlib.Core.Path.{◌≡◌, sym, ◌∙◌}
use mathlib.Core.Bool.{true, false}
use native.Mathlib.Omega.{arith}
use lib.ListN.{length}
use Rattle.texts.specs.Slices.{tail}
use Rattle.texts.specs.Ascii.{ascii}
use Rattle.texts.specs.Words.{starts}
use Rattle.texts.proofs.Words.{starts_length}
use Rattle.read_protein_edit.proofs.ProteinEditCases.{front_le, word_room, found_fs, found_ext, found_equal, found_unknown, found_subst, found_worded}
use Rattle.read_protein_edit.proofs.protein_edit_at.Goals as goal

pub slice_bounds-rest-count : goal.slice_bounds-rest-count
slice_bounds-rest-count c =
    let n-le : c.residue_at-n.result ≤ length c.args.s.now = front_le 0 c.args.s.now _ c.residue_at-n.ensures in
    n-le

pub slice_bounds-rest-start : goal.slice_bounds-rest-start
slice_bounds-rest-start c =
    let n-le : c.residue_at-n.result ≤ length c.args.s.now = front_le 0 c.args.s.now _ c.residue_at-n.ensures in
    n-le

pub slice_bounds-fs-count : goal.slice_bounds-fs-count
slice_bounds-fs-count c =
    let is-fs : starts (ascii "fs") (tail c.residue_at-n.result c.args.s.now) ≡ true = sym c.begins.ensures ∙ c.if-begins.true in
    starts_length (ascii "fs") _ is-fs

pub slice_bounds-fs-start : goal.slice_bounds-fs-start
slice_bounds-fs-start c =
    let is-fs : starts (ascii "fs") (tail c.residue_at-n.result c.args.s.now) ≡ true = sym c.begins.ensures ∙ c.if-begins.true in
    starts_length (ascii "fs") _ is-fs

pub fs-requires : goal.fs-requires
fs-requires c =
    let is-fs : starts (ascii "fs") (tail c.residue_at-n.result c.args.s.now) ≡ true = sym c.begins.ensures ∙ c.if-begins.true in
    word_room _ c.args.s.now _ c.residue_at-n.ensures (ascii "fs") is-fs c.requires

pub returns-then-begins : goal.returns-then-begins
returns-then-begins c =
    let is-fs : starts (ascii "fs") (tail c.residue_at-n.result c.args.s.now) ≡ true = sym c.begins.ensures ∙ c.if-begins.true in
    found_fs _ c.args.s.now _ c.residue_at-n.ensures _ is-fs c.fs.ensures

pub slice_bounds-ext-count : goal.slice_bounds-ext-count
slice_bounds-ext-count c =
    let is-ext : starts (ascii "ext") (tail c.residue_at-n.result c.args.s.now) ≡ true = sym c.begins-2.ensures ∙ c.if-begins-2.true in
    starts_length (ascii "ext") _ is-ext

pub slice_bounds-ext-start : goal.slice_bounds-ext-start
slice_bounds-ext-start c =
    let is-ext : starts (ascii "ext") (tail c.residue_at-n.result c.args.s.now) ≡ true = sym c.begins-2.ensures ∙ c.if-begins-2.true in
    starts_length (ascii "ext") _ is-ext

pub ext-requires : goal.ext-requires
ext-requires c =
    let is-ext : starts (ascii "ext") (tail c.residue_at-n.result c.args.s.now) ≡ true = sym c.begins-2.ensures ∙ c.if-begins-2.true in
    word_room _ c.args.s.now _ c.residue_at-n.ensures (ascii "ext") is-ext c.requires

pub returns-then-begins-2 : goal.returns-then-begins-2
returns-then-begins-2 c =
    let is-ext : starts (ascii "ext") (tail c.residue_at-n.result c.args.s.now) ≡ true = sym c.begins-2.ensures ∙ c.if-begins-2.true in
    let no_fs : starts (ascii "fs") (tail c.residue_at-n.result c.args.s.now) ≡ false = sym c.begins.ensures ∙ c.if-begins.false in
    found_ext _ c.args.s.now _ c.residue_at-n.ensures _ no_fs is-ext c.ext.ensures

pub returns-then-begins-3 : goal.returns-then-begins-3
returns-then-begins-3 c =
    let no-ext : starts (ascii "ext") (tail c.residue_at-n.result c.args.s.now) ≡ false = sym c.begins-2.ensures ∙ c.if-begins-2.false in
    let no_fs : starts (ascii "fs") (tail c.residue_at-n.result c.args.s.now) ≡ false = sym c.begins.ensures ∙ c.if-begins.false in
    rw c.plain.ensures (found_equal _ c.args.s.now _ c.residue_at-n.ensures no_fs no-ext (sym c.begins-3.ensures ∙ c.if-begins-3.true))

pub returns-then-begins-4 : goal.returns-then-begins-4
returns-then-begins-4 c =
    let no_equal : starts (ascii "=") c.args.s.now ≡ false = sym c.begins-3.ensures ∙ c.if-begins-3.false in
    let no-ext : starts (ascii "ext") (tail c.residue_at-n.result c.args.s.now) ≡ false = sym c.begins-2.ensures ∙ c.if-begins-2.false in
    let no_fs : starts (ascii "fs") (tail c.residue_at-n.result c.args.s.now) ≡ false = sym c.begins.ensures ∙ c.if-begins.false in
    found_unknown _ c.args.s.now _ c.residue_at-n.ensures no_fs no-ext no_equal _ (sym c.begins-4.ensures ∙ c.if-begins-4.true) c.span.ensures

pub span-requires-then-n-ne0 : goal.span-requires-then-n-ne0
span-requires-then-n-ne0 c =
    let n-le : c.residue_at-n.result ≤ length c.args.s.now = front_le 0 c.args.s.now _ c.residue_at-n.ensures in
    omega (arith, n-le)

pub returns-then-n-ne0 : goal.returns-then-n-ne0
returns-then-n-ne0 c =
    let no-unknown : starts (ascii "?") c.args.s.now ≡ false = sym c.begins-4.ensures ∙ c.if-begins-4.false in
    let no_equal : starts (ascii "=") c.args.s.now ≡ false = sym c.begins-3.ensures ∙ c.if-begins-3.false in
    let no-ext : starts (ascii "ext") (tail c.residue_at-n.result c.args.s.now) ≡ false = sym c.begins-2.ensures ∙ c.if-begins-2.false in
    let no_fs : starts (ascii "fs") (tail c.residue_at-n.result c.args.s.now) ≡ false = sym c.begins.ensures ∙ c.if-begins.false in
    rw c.plain-then-n-ne0.ensures (found_subst _ c.args.s.now _ c.residue_at-n.ensures no_fs no-ext no_equal no-unknown _ c.if-n-ne0.true c.span-then-n-ne0.ensures)

pub returns : goal.returns
returns c =
    let no-unknown : starts (ascii "?") c.args.s.now ≡ false = sym c.begins-4.ensures ∙ c.if-begins-4.false in
    let no_equal : starts (ascii "=") c.args.s.now ≡ false = sym c.begins-3.ensures ∙ c.if-begins-3.false in
    let no-ext : starts (ascii "ext") (tail c.residue_at-n.result c.args.s.now) ≡ false = sym c.begins-2.ensures ∙ c.if-begins-2.false in
    let no_fs : starts (ascii "fs") (tail c.residue_at-n.result c.args.s.now) ≡ false = sym c.begins.ensures ∙ c.if-begins.false in
    found_worded _ c.args.s.now _ c.residue_at-n.ensures no_fs no-ext no_equal no-unknown _ c.if-n-ne0.false c.worded.ensures
