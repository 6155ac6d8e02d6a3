-- Document 01, "Positions": intervals, and what is certain or uncertain; and one part behind another.
use Rattle.std.specs.Prelude.{ℕ, List, ◌++◌}
use Rattle.texts.specs.Ascii.{ascii}

-- interval: position, or position `_` position
pub data Interval (A : Type 0) : Type 0 where
  one : A → Interval A
  two : A → A → Interval A

-- certain, or uncertain when in round brackets
pub data Mu (A : Type 0) : Type 0 where
  certain uncertain : A → Mu A

pub data Both (A B : Type 0) : Type 0 where
  both : A → B → Both A B

module _ {A : Type 0} (print : A → List ℕ) where
  abbrev pub print_interval : Interval A → List ℕ
  print_interval (one a) = print a
  print_interval (two a b) = print a ++ (ascii "_" ++ print b)

  abbrev pub print_mu : Mu A → List ℕ
  print_mu (certain a) = print a
  print_mu (uncertain a) = ascii "(" ++ (print a ++ ascii ")")

module _ {A : Type 0} (Wf : A → Type 0) where
  abbrev pub WfInterval : Interval A → Type 0
  WfInterval (one a) = Wf a
  WfInterval (two a b) = Wf a × Wf b

  abbrev pub WfMu : Mu A → Type 0
  WfMu (certain a) = Wf a
  WfMu (uncertain a) = Wf a

module _ {A B : Type 0} where
  abbrev pub print_both : (A → List ℕ) → (B → List ℕ) → Both A B → List ℕ
  print_both printA printB (both a b) = printA a ++ printB b

  abbrev pub WfBoth : (A → Type 0) → (B → Type 0) → Both A B → Type 0
  WfBoth WfA WfB (both a b) = WfA a × WfB b
