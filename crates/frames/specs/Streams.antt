-- However the bytes of a text are split into frames, it is gathered whole; and of a stream every text that an empty line ends is gathered.
use Rattle.std.specs.Prelude.{ℕ}
use mathlib.Core.List.{List}
use Rattle.frames.specs.Taking.{fresh, Standing}

-- ---- a text from the start
abbrev pub start_in : List ℕ → Standing
start_in buffer = record { state = fresh; buffer = buffer }
