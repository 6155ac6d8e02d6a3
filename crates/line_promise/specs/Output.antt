-- What is written for an input, computed: it is what is to be written, and an input cut into pieces anyhow has it written.
use Rattle.std.specs.Prelude.{ℕ}
use mathlib.Core.List.{List}
use Rattle.promise.specs.Outcome.{limit}
use Rattle.lines.specs.Lines.{output}
use Rattle.line_promise.specs.Computed.{line_answer}

-- with a line buffer of 4,096 bytes
abbrev pub program_output : List ℕ → List ℕ
program_output input = output line_answer limit input

-- an answer and LF have no more bytes
abbrev pub most_bytes : ℕ
most_bytes = 4097
