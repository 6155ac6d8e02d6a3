-- Tests of the letters that spans name in a source.
use Rattle.std.specs.Prelude.{ℕ, List, Bool, ◌&&◌, leb, length}
use Rattle.texts.specs.Runs.{every}
use Rattle.texts.specs.Words.{same, one_each}
use Rattle.alphabet.specs.Letters.{nucleotide}
use Rattle.record.specs.declared.Span.{Span}
use Rattle.grammar.specs.Spans.{part}

module _ (s : List ℕ) where
  -- zero or more letters, one or more letters
  abbrev pub is_seq : Span → Bool
  is_seq p = every nucleotide (part s p)

  abbrev pub is_seq1 : Span → Bool
  is_seq1 q = is_seq q && leb 1 (length (part s q))

  abbrev pub same_parts : Span → Span → Bool
  same_parts p q = same (part s p) (part s q)

  abbrev pub one_each_parts : Span → Span → Bool
  one_each_parts p q = one_each (part s p) (part s q)
