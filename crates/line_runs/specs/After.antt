-- What the line program does next, by what a read, a step or a write has given.
use Rattle.std.specs.Prelude.{ℕ, zero, suc, ◌+◌, ◌≤◌, ◌≡◌, Bool, true, false, cond, Option, Some, None, List, leb, min, length, take, drop}
use Rattle.lent.specs.Put.{put}
use Rattle.lines.specs.declared.Line.{Line}
use Rattle.lines.specs.declared.Progress.{Progress}
use Rattle.lines.specs.Feeding.{writes, finished, clear}
use Rattle.lines.proofs.Steps.{Stepped}
use Rattle.line_promise.specs.Computed.{line_answer}
use Rattle.line_promise.specs.Output.{most_bytes}
use Rattle.line_runs.specs.declared.Rest.{Rest}
use Rattle.line_runs.specs.declared.Waiting.{Waiting}
use Rattle.line_runs.specs.declared.Next.{Next}
use Rattle.line_runs.specs.declared.Next.TheVariants.{Read, Step, Write, Finish, WriteLast, Stop}

-- ---- decisions
-- in a piece: where it is used up more is read, else a step is made
unfoldable pub go_on : Rest → Next
go_on rest = cond (leb rest.piece rest.used) (Read rest.line) (Step rest)

-- how many bytes of room a read has filled: none where it has failed, and no more than there are
abbrev pub clamp_len : Option ℕ → ℕ → ℕ
clamp_len (Some k) most = min k most
clamp_len None most = 0

-- by what a read answers: it has failed, the input has ended, or a piece has come
unfoldable pub after_read : Option ℕ → ℕ → Line → Next
after_read None room line = Stop false
after_read (Some zero) room line = Finish line
after_read (Some (suc k)) room line = go_on (record { piece = clamp_len (Some (suc k)) room; used = 0; line = line })

-- the answers of a step are written
unfoldable pub after_step : Progress → Rest → Next
after_step s rest = Write (record { at = s.at; rest = record { piece = rest.piece; used = rest.used + s.used; line = s.line } })

-- by whether all was written
unfoldable pub after_write : Bool → Waiting → Next
after_write true w = go_on w.rest
after_write false w = Stop false

-- ---- one turn
-- what a read has put at the front of the room for the input
unfoldable pub piece_of : Option ℕ → List ℕ → List ℕ
piece_of got input = take (clamp_len got (length input)) input

-- what is left of it
abbrev pub left_of : Rest → List ℕ → List ℕ
left_of rest input = drop rest.used (take rest.piece input)

-- the answer to the last line, where it has a byte and no LF
abbrev pub last_answer : List ℕ → Line → List ℕ
last_answer buffer line = finished (writes line_answer) (clear buffer line)

-- what each needs of the room for the input, the line buffer and the room for the answers
unfoldable pub Ready : Next → List ℕ → List ℕ → List ℕ → Type 0
Ready (Read line) input buffer out = (line.len ≤ length buffer) × (4097 ≤ length out)
Ready (Step rest) input buffer out = (rest.used ≤ rest.piece) × (rest.piece ≤ length input) × (rest.line.len ≤ length buffer) × (4097 ≤ length out)
Ready (Write w) input buffer out = (w.at ≤ length out) × (w.rest.piece ≤ length input) × (w.rest.line.len ≤ length buffer) × (4097 ≤ length out)
Ready (Finish line) input buffer out = (line.len ≤ length buffer) × (4097 ≤ length out)
Ready (WriteLast at) input buffer out = at ≤ length out
Ready (Stop well) input buffer out = Unit

-- a read or a write, whatever it answers, or a step, or the answer to the last line
unfoldable pub Acted : Next → List ℕ → List ℕ → List ℕ → Next → List ℕ → List ℕ → List ℕ → Type 0
Acted (Read line) input buffer out r input' buffer' out' = (got : Option ℕ) × (r ≡ after_read got (length input') line) × (buffer' ≡ buffer) × (out' ≡ out)
Acted (Step rest) input buffer out r input' buffer' out' =
    (s : Progress) × Stepped line_answer most_bytes (left_of rest input) buffer rest.line out s buffer' out' × (r ≡ after_step s rest) × (input' ≡ input)
Acted (Write w) input buffer out r input' buffer' out' = (done : Bool) × (r ≡ after_write done w) × (input' ≡ input) × (buffer' ≡ buffer) × (out' ≡ out)
Acted (Finish line) input buffer out r input' buffer' out' =
    (r ≡ WriteLast (length (last_answer buffer line))) × (input' ≡ input) × (buffer' ≡ buffer) × (out' ≡ put out 0 (last_answer buffer line))
Acted (WriteLast at) input buffer out r input' buffer' out' = (done : Bool) × (r ≡ Stop done) × (input' ≡ input) × (buffer' ≡ buffer) × (out' ≡ out)
Acted (Stop well) input buffer out r input' buffer' out' = (r ≡ Stop well) × (input' ≡ input) × (buffer' ≡ buffer) × (out' ≡ out)
