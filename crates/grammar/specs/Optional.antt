-- A part of a text that may be missing, with the word in front of it.
use Rattle.std.specs.Prelude.{ℕ, List, [], ◌++◌}
use Rattle.std.proofs.Math.Option.{Option, none, some}

abbrev pub print_optional : List ℕ → Option (List ℕ) → List ℕ
print_optional word none = []
print_optional word (some s) = word ++ s

abbrev pub WfOptional : (List ℕ → Type 0) → Option (List ℕ) → Type 0
WfOptional Wf none = Unit
WfOptional Wf (some s) = Wf s
