-- What `take` gives: the piece up to the end of the line, and as much of it as fits behind what the buffer holds.
use Rattle.std.specs.Prelude.{ℕ, ◌+◌, ◌-◌, min, Bool, false, cond, not, ◌||◌, List, ltb, eqb, length, take}
use Rattle.texts.specs.Runs.{run}
use Rattle.lent.specs.Put.{put}
use Rattle.lines.specs.Lines.{line_end, Held, Held.whole, Held.too_long}
use Rattle.lines.specs.declared.Line.{Line}
use Rattle.lines.specs.declared.Taken.{Taken}

abbrev pub in_line : ℕ → Bool
in_line b = not (eqb b line_end)

-- a line of which nothing has come
abbrev pub no_line : Line
no_line = record { len = 0; long = false }

-- the line has a byte
abbrev pub begun : Line → Bool
begun line = line.long || ltb 0 line.len

-- the line that a buffer holds
abbrev pub held_in : List ℕ → Line → Held
held_in buffer line = cond line.long too_long (whole (take line.len buffer))

-- LF is in the piece
abbrev pub ended : List ℕ → Bool
ended piece = ltb (run in_line piece) (length piece)

-- the bytes used: those of the line, and LF
abbrev pub used : List ℕ → ℕ
used piece = cond (ended piece) (run in_line piece + 1) (run in_line piece)

-- of the line's bytes, how many fit
abbrev pub fitting : ℕ → Line → List ℕ → ℕ
fitting room line piece = min (run in_line piece) (room - line.len)

-- the line with the bytes of the piece
abbrev pub longer : ℕ → Line → List ℕ → Line
longer room line piece = record { len = line.len + fitting room line piece; long = line.long || ltb (fitting room line piece) (run in_line piece) }

unfoldable pub taken : ℕ → Line → List ℕ → Taken
taken room line piece = record { used = used piece; complete = ended piece; line = longer room line piece }

-- the buffer with them
unfoldable pub stored : List ℕ → Line → List ℕ → List ℕ
stored buffer line piece = put buffer line.len (take (fitting (length buffer) line piece) piece)
