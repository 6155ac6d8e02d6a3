-- Laws behind the proofs: how long an answer with LF is, and what is written at the end of the input.
use Prim.Native.Nat.{ℕ, ◌+◌, ◌≤◌}
use mathlib.Core.Path.{◌≡◌, refl, sym, ◌∙◌}
use mathlib.Core.Bool.{Bool, true, false, cond}
use mathlib.Core.List.{List, [], ◌∷◌, ◌++◌}
use native.Mathlib.Omega.{arith}
use native.Mathlib.Nat.{zero-add}
use lib.ListN.{length}
use Rattle.lent.specs.Put.{put, put_none}
use Rattle.lines.specs.declared.Line.{Line}
use Rattle.lines.specs.Lines.{line_end}
use Rattle.lines.specs.Taking.{begun, held_in, ended, longer, stored}
use Rattle.lines.specs.Feeding.{finished, clear, writes, said}
use Rattle.line_promise.specs.Computed.{line_answer}
use Rattle.line_promise.specs.Output.{most_bytes}
use Rattle.line_promise.proofs.Output.{ended_short}

module _ (buffer : List ℕ) (line : Line) where
  pub said_short : (piece : List ℕ) → length (said line_answer buffer line piece) ≤ most_bytes
  said_short piece = go (ended piece)
    where
      go : (t : Bool) → length (cond t (line_answer (held_in (stored buffer line piece) (longer (length buffer) line piece)) ++ (line_end ∷ [])) []) ≤ most_bytes
      go true = ended_short (held_in (stored buffer line piece) (longer (length buffer) line piece))
      go false = omega arith

  abbrev last : List ℕ
  last = finished (writes line_answer) (clear buffer line)

  pub last_some : begun line ≡ true → {r : ℕ} (out : List ℕ) {out' : List ℕ}
      → (r ≡ 0 + length (line_answer (held_in buffer line) ++ (line_end ∷ []))) × (out' ≡ put out 0 (line_answer (held_in buffer line) ++ (line_end ∷ [])))
      → (r ≡ length last) × (out' ≡ put out 0 last)
  unfolding finished
  last_some e out s = rw e (s.0 ∙ zero-add (length (line_answer (held_in buffer line) ++ (line_end ∷ []))), s.1)

  pub last_none : begun line ≡ false → (out : List ℕ) → (0 ≡ length last) × (out ≡ put out 0 last)
  unfolding finished
  last_none e out = rw e (refl, sym (put_none out 0))
