-- Laws of residues: what is read at the front of a text is a residue, and each residue is read.
use Rattle.std.specs.Prelude.{ℕ, ◌≡◌, false}
use mathlib.Core.List.{List, ◌++◌}
use Rattle.texts.specs.Ascii.{ascii}
use Rattle.residue.specs.Reading.{continues}

-- the words that may stand behind a residue
pub record WordsBehind (x : List ℕ) : Type 0 where
  pub fs : continues (ascii "fs" ++ x) ≡ false
  pub ext : continues (ascii "ext" ++ x) ≡ false
  pub del : continues (ascii "del" ++ x) ≡ false
  pub dup : continues (ascii "dup" ++ x) ≡ false
  pub ins : continues (ascii "ins" ++ x) ≡ false
