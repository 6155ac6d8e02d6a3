-- A program over an input that comes in pieces: it calls `take` until a piece is used up, and handles each line that is complete.
use Rattle.std.specs.Prelude.{ℕ, zero, suc, Bool, true, false, cond, length, drop}
use mathlib.Core.List.{List, [], ◌∷◌, ◌++◌, foldl}
use Rattle.lines.specs.Lines.{line_end, Held}
use Rattle.lines.specs.declared.Line.{Line}
use Rattle.lines.specs.Taking.{no_line, begun, held_in, ended, used, longer, taken, stored}

-- the buffer, the line so far, and what was made of the lines before
pub record Going (A : Type 0) : Type 0 where
  pub buffer : List ℕ
  pub line : Line
  pub made : A

-- the line so far behind one call of `take`
abbrev pub line_after : List ℕ → Line → List ℕ → Line
line_after buffer line piece = cond (ended piece) no_line (longer (length buffer) line piece)

-- ---- a program that makes of what it has and a line what it has next
module _ {A : Type 0} (handle : A → Held → A) where
  -- a line that is complete is handled, and the next has nothing yet
  abbrev pub settled : Bool → Going A → Going A
  settled true g = record { buffer = g.buffer; line = no_line; made = handle g.made (held_in g.buffer g.line) }
  settled false g = g

  -- one call of `take`
  unfoldable pub turn : Going A → List ℕ → Going A
  turn g piece =
      settled (taken (length g.buffer) g.line piece).complete
      (record { buffer = stored g.buffer g.line piece; line = (taken (length g.buffer) g.line piece).line; made = g.made })

  -- calls while some of the piece is left and the program is ready, as it may have to write first: where it stands then, and what is left
  unfoldable pub turns : (A → Bool) → ℕ → Going A → List ℕ → Going A × List ℕ
  turns ready zero g piece = (g, piece)
  turns ready (suc most) g [] = (g, [])
  turns ready (suc most) g (b ∷ s) = cond (ready g.made) (turns ready most (turn g (b ∷ s)) (drop (used (b ∷ s)) (b ∷ s))) (g, b ∷ s)

  -- each call uses a byte
  abbrev pub through : (A → Bool) → Going A → List ℕ → Going A × List ℕ
  through ready g piece = turns ready (length piece) g piece

  -- at the end of the input a line that has a byte is handled
  unfoldable pub finished : Going A → A
  finished g = cond (begun g.line) (handle g.made (held_in g.buffer g.line)) g.made

  -- a whole piece
  abbrev pub fed : Going A → List ℕ → Going A
  fed g piece = (through (λ made. true) g piece).0

  -- piece by piece, from a buffer and what is there at the start
  unfoldable pub run_over : List ℕ → A → List (List ℕ) → A
  run_over buffer a pieces = finished (foldl fed (record { buffer = buffer; line = no_line; made = a }) pieces)

-- ---- a program that answers each line by a text, and LF
-- nothing of it waits to be written
abbrev pub clear : List ℕ → Line → Going (List ℕ)
clear buffer line = record { buffer = buffer; line = line; made = [] }

module _ (answer : Held → List ℕ) where
  abbrev pub writes : List ℕ → Held → List ℕ
  writes made line = made ++ (answer line ++ (line_end ∷ []))

  -- what one call of `take` makes it write
  abbrev pub said : List ℕ → Line → List ℕ → List ℕ
  said buffer line piece = cond (ended piece) (answer (held_in (stored buffer line piece) (longer (length buffer) line piece)) ++ (line_end ∷ [])) []

  -- what it writes for one piece, then for the others, then at the end
  unfoldable pub written : List ℕ → Line → List (List ℕ) → List ℕ
  written buffer line [] = finished writes (clear buffer line)
  written buffer line (piece ∷ pieces) =
      let g = fed writes (clear buffer line) piece in
      g.made ++ written g.buffer g.line pieces

  -- one step of a program that stops where it is not ready, and what it has made is written
  abbrev pub step_on : (List ℕ → Bool) → List ℕ → Line → List ℕ → Going (List ℕ) × List ℕ
  step_on ready buffer line piece = through writes ready (clear buffer line) piece

  -- it writes t for the pieces that are left, the first of which may be what a step has left
  pub data WritesLines (ready : List ℕ → Bool) : List ℕ → Line → List (List ℕ) → List ℕ → Type 0 where
    ends : {buffer : List ℕ} {line : Line} → WritesLines ready buffer line [] (finished writes (clear buffer line))
    reads : {buffer : List ℕ} {line : Line} {pieces : List (List ℕ)} {t : List ℕ} → WritesLines ready buffer line pieces t → WritesLines ready buffer line ([] ∷ pieces) t
    steps : (buffer : List ℕ) (line : Line) (piece : List ℕ) {pieces : List (List ℕ)} {t : List ℕ}
        → WritesLines ready (step_on ready buffer line piece).0.buffer (step_on ready buffer line piece).0.line ((step_on ready buffer line piece).1 ∷ pieces) t
        → WritesLines ready buffer line (piece ∷ pieces) ((step_on ready buffer line piece).0.made ++ t)
