-- The three words, one test behind the other.
use mathlib.Core.Path.{◌≡◌, sym, ◌∙◌}
use mathlib.Core.Bool.{false}
use Rattle.texts.proofs.Tests.{clash}
use Rattle.texts.specs.Ascii.{ascii}
use Rattle.texts.specs.Words.{starts}
use Rattle.read_protein_ends.proofs.Ends.{terminal_ter, terminal_x, terminal_star, terminal_none}
use Rattle.read_protein_ends.proofs.terminal_at.Goals as goal
use Rattle.read_protein_ends.proofs.terminal_at.Goals.{then-begins-2, else-begins-2}

pub returns-then-begins : goal.returns-then-begins
returns-then-begins c = terminal_ter _ (sym c.begins.ensures ∙ c.if-begins.true)

pub returns-then-begins-3 : goal.returns-then-begins-3
returns-then-begins-3 c =
    let no-ter : starts (ascii "Ter") c.args.s.now ≡ false = sym c.begins.ensures ∙ c.if-begins.false in
    elim c.if-begins-2.branch [
      | then-begins-2 w ↦ terminal_x _ no-ter (sym c.begins-else-begins.ensures ∙ w.if-begins-2.true)
      | else-begins-2 w ↦ terminal_star _ no-ter (sym c.begins-else-begins.ensures ∙ w.if-begins-2.false) (sym w.begins-else-begins-2.ensures ∙ sym w.value-is ∙ c.if-begins-3.true)
    ]

pub returns-else-begins-3 : goal.returns-else-begins-3
returns-else-begins-3 c =
    let no-ter : starts (ascii "Ter") c.args.s.now ≡ false = sym c.begins.ensures ∙ c.if-begins.false in
    elim c.if-begins-2.branch [
      | then-begins-2 w ↦ absurd (clash (w.value-is ∙ w.if-begins-2.true) c.if-begins-3.false)
      | else-begins-2 w ↦ terminal_none _ no-ter (sym c.begins-else-begins.ensures ∙ w.if-begins-2.false) (sym w.begins-else-begins-2.ensures ∙ sym w.value-is ∙ c.if-begins-3.false)
    ]
