use Prim.Native.Nat.{ℕ, ◌<◌, ◌≤◌}
use mathlib.Core.Path.{◌≡◌, ◌∙◌}
use lib.Dec.{leb}
use borrow.Author.Tests.{le-leb, lt-leb}
use Rattle.alphabet.specs.Classes.{member}
use Rattle.alphabet.specs.Cells.{within, lowest, highest, numbered, Cell}
use Rattle.alphabet.specs.declared.Class.{Class}
use Rattle.alphabet.proofs.is_in.Goals as goal

-- from the class's lowest number on its highest decides, and below it the byte is of another
module _ {b k low : ℕ} (class : Class) (h : Cell b k) where
  above : {high : ℕ} → low ≡ lowest class → high ≡ highest class → low ≤ k → leb k high ≡ member class b
  unfolding numbered within
  above l u e =
      let rule : numbered class k ≡ member class b = h.rule class in
      rw (← l, ← u, le-leb _ _ e) at rule

  below : low ≡ lowest class → k < low → leb low k ≡ member class b
  unfolding numbered within
  below l e =
      let rule : numbered class k ≡ member class b = h.rule class in
      lt-leb _ _ e ∙ (rw (← l, lt-leb _ _ e) at rule)

pub returns-then-lowest-number : goal.returns-then-lowest-number
returns-then-lowest-number c = above _ c.number_of-number.ensures.1 c.lowest.ensures c.highest.ensures c.if-lowest-number.true

pub returns-else-lowest-number : goal.returns-else-lowest-number
returns-else-lowest-number c = below _ c.number_of-number.ensures.1 c.lowest.ensures c.if-lowest-number.false
