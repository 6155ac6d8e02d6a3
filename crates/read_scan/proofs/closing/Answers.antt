use Prim.Native.Nat.{◌+◌}
use mathlib.Core.Path.{◌≡◌, sym, ap, ◌∙◌}
use lib.ListN.{drop}
use Rattle.texts.specs.Ascii.{ascii}
use Rattle.texts.specs.Words.{starts}
use Rattle.texts.proofs.Slices.{tail_part}
use Rattle.read_scan.specs.Closing.{none_opened, is_closed, is_missing}
use Rattle.read_scan.proofs.closing.Goals as goal

pub returns-then-opening-eq0 : goal.returns-then-opening-eq0
returns-then-opening-eq0 c = none_opened _ _ _ c.if-opening-eq0.true

pub returns-then-begins : goal.returns-then-begins
returns-then-begins c =
    let test : c.begins.result ≡ starts (ascii ")") (drop (c.args.opening + c.args.n) c.args.s.now) = c.begins.ensures ∙ ap (starts (ascii ")")) (tail_part (c.args.opening + c.args.n) c.args.s.now) in
    is_closed _ _ _ c.if-opening-eq0.false (sym test ∙ c.if-begins.true)

pub returns-else-begins : goal.returns-else-begins
returns-else-begins c =
    let test : c.begins.result ≡ starts (ascii ")") (drop (c.args.opening + c.args.n) c.args.s.now) = c.begins.ensures ∙ ap (starts (ascii ")")) (tail_part (c.args.opening + c.args.n) c.args.s.now) in
    is_missing _ _ _ c.if-opening-eq0.false (sym test ∙ c.if-begins.false)
