-- The words in the crate's order.
use Prim.Native.Nat.{◌+◌, ◌≤◌}
use mathlib.Core.Path.{◌≡◌, sym, ◌∙◌}
use mathlib.Core.Bool.{false}
use native.Mathlib.Omega.{arith}
use lib.ListN.{length}
use Rattle.texts.specs.Ascii.{ascii}
use Rattle.texts.specs.Words.{starts}
use Rattle.read_protein_edit.proofs.ProteinEditCases.{behind_room, found_delins, found_del, found_ins, found_dup, found_nothing}
use Rattle.read_protein_edit.proofs.worded.Goals as goal

pub span-residues-requires : goal.span-residues-requires
span-residues-requires c =
    let delins-room : 6 + c.residues_behind-m.result ≤ length c.args.s.now = behind_room (ascii "delins") _ _ c.residues_behind-m.ensures c.if-m-ne0.true in
    omega (arith, delins-room)

pub returns-then-m-ne0 : goal.returns-then-m-ne0
returns-then-m-ne0 c = rw c.plain.ensures (found_delins _ c.args.s.now _ c.residues_behind-m.ensures _ c.if-m-ne0.true c.span-residues.ensures)

pub returns-then-begins : goal.returns-then-begins
returns-then-begins c = rw c.plain-then-begins.ensures (found_del _ c.args.s.now _ c.residues_behind-m.ensures c.if-m-ne0.false (sym c.begins.ensures ∙ c.if-begins.true))

pub span-residues-requires-then-k-ne0 : goal.span-residues-requires-then-k-ne0
span-residues-requires-then-k-ne0 c =
    let ins-room : 3 + c.residues_behind-k.result ≤ length c.args.s.now = behind_room (ascii "ins") _ _ c.residues_behind-k.ensures c.if-k-ne0.true in
    omega (arith, ins-room)

pub returns-then-k-ne0 : goal.returns-then-k-ne0
returns-then-k-ne0 c =
    let no-del : starts (ascii "del") c.args.s.now ≡ false = sym c.begins.ensures ∙ c.if-begins.false in
    rw c.plain-then-k-ne0.ensures (found_ins _ c.args.s.now _ c.residues_behind-m.ensures c.if-m-ne0.false no-del _ c.residues_behind-k.ensures _ c.if-k-ne0.true c.span-residues-then-k-ne0.ensures)

pub returns-then-begins-2 : goal.returns-then-begins-2
returns-then-begins-2 c =
    let no-del : starts (ascii "del") c.args.s.now ≡ false = sym c.begins.ensures ∙ c.if-begins.false in
    rw c.plain-then-begins-2.ensures (found_dup _ c.args.s.now _ c.residues_behind-m.ensures c.if-m-ne0.false no-del _ c.residues_behind-k.ensures c.if-k-ne0.false (sym c.begins-2.ensures ∙ c.if-begins-2.true))

pub returns : goal.returns
returns c =
    let no-del : starts (ascii "del") c.args.s.now ≡ false = sym c.begins.ensures ∙ c.if-begins.false in
    found_nothing _ c.args.s.now _ c.residues_behind-m.ensures c.if-m-ne0.false no-del _ c.residues_behind-k.ensures c.if-k-ne0.false (sym c.begins-2.ensures ∙ c.if-begins-2.false)
