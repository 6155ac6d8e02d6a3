-- What `take` gives: byte by byte up to an empty line.
use Rattle.std.specs.Prelude.{ℕ, suc, ◌+◌, ◌*◌, ◌%◌, Bool, true, false, cond, ◌&&◌, ◌||◌, not, List, [], ◌∷◌, leb, ltb, eqb, length, take, set}
use Rattle.std.proofs.Math.Option.{Option, none, some}
use Rattle.lines.specs.Lines.{line_end, Held, Held.whole, Held.too_long}
use Rattle.frames.specs.declared.FrameState.{FrameState}
use Rattle.frames.specs.declared.FrameTaken.{FrameTaken}
use Rattle.frames.specs.Frames.{digit_value}

-- a text of which nothing has come
abbrev pub fresh : FrameState
fresh = record { len = 0; long = false; bad = false; digits = 0; high = 0 }

-- the text so far, and the buffer that holds its bytes
pub record Standing : Type 0 where
  pub state : FrameState
  pub buffer : List ℕ

-- LF where the line has no byte
abbrev pub closes : FrameState → ℕ → Bool
closes s b = eqb b line_end && eqb s.digits 0

-- behind a line that is not empty: an odd digit makes it bad
abbrev pub line_closed : FrameState → FrameState
line_closed s = record { len = s.len; long = s.long; bad = s.bad || not (eqb (s.digits % 2) 0); digits = 0; high = 0 }

-- a bad line, which is not empty
abbrev pub spoiled : FrameState → FrameState
spoiled s = record { len = s.len; long = s.long; bad = true; digits = 1; high = 0 }

-- the first digit of a pair waits
abbrev pub halved : FrameState → ℕ → FrameState
halved s v = record { len = s.len; long = s.long; bad = s.bad; digits = s.digits + 1; high = v }

-- a byte of the text: it is held where the buffer has room, and else the text is too long for it
unfoldable pub added : Standing → ℕ → Standing
added g b =
    let s = g.state in
    cond (ltb s.len (length g.buffer))
    (record { state = record { len = s.len + 1; long = s.long; bad = s.bad; digits = s.digits + 1; high = 0 }; buffer = set g.buffer s.len b })
    (record { state = record { len = s.len; long = true; bad = s.bad; digits = s.digits + 1; high = 0 }; buffer = g.buffer })

abbrev pub with_state : Standing → FrameState → Standing
with_state g s = record { state = s; buffer = g.buffer }

-- a digit, or another byte: of a bad text no more is held, and a line has no more than 64 digits
unfoldable pub digit_taken : Standing → Option ℕ → Standing
digit_taken g none = with_state g (spoiled g.state)
digit_taken g (some v) =
    cond g.state.bad (with_state g (spoiled g.state))
    (cond (leb 64 g.state.digits) (with_state g (spoiled g.state))
    (cond (eqb (g.state.digits % 2) 0) (with_state g (halved g.state v)) (added g (g.state.high % 16 * 16 + v))))

-- a byte that is no empty line
unfoldable pub after_byte : Standing → ℕ → Standing
after_byte g b = cond (eqb b line_end) (with_state g (line_closed g.state)) (digit_taken g (digit_value b))

-- how many bytes are used, whether the last is an empty line, and where the text stands then
pub record Took : Type 0 where
  pub used : ℕ
  pub ended : Bool
  pub at : Standing

abbrev pub one_more : Took → Took
one_more t = record { used = suc t.used; ended = t.ended; at = t.at }

-- what is taken behind n bytes
abbrev pub behind : ℕ → Took → Took
behind n t = record { used = n + t.used; ended = t.ended; at = t.at }

unfoldable pub takes : Standing → List ℕ → Took
takes g [] = record { used = 0; ended = false; at = g }
takes g (b ∷ s) = cond (closes g.state b) (record { used = 1; ended = true; at = g }) (one_more (takes (after_byte g b) s))

abbrev pub told : Took → FrameTaken
told t = record { used = t.used; ended = t.ended; state = t.at.state }

-- what is gathered of a text: nothing where a line is bad, else its bytes, or that the buffer does not hold them
unfoldable pub gathered : Standing → Option Held
gathered g =
    cond g.state.bad none
    (some (cond (g.state.long || ltb (length g.buffer) g.state.len) too_long (whole (take g.state.len g.buffer))))
