-- What is written for an input, computed: it is what is to be written, and an input cut into pieces anyhow has it written.
use Rattle.std.specs.Prelude.{ℕ, ◌+◌, ◌≤◌, ◌≡◌, refl, length}
use mathlib.Core.List.{List, [], ◌∷◌, ◌++◌, flat_map, flatten}
use Rattle.std.proofs.Common.{arith, length-append, le-leb}
use Rattle.promise.specs.Outcome.{limit}
use Rattle.lines.specs.Lines.{line_end, lines_of, Held, held, output}
use Rattle.lines.specs.Taking.{no_line}
use Rattle.lines.specs.Feeding.{written, WritesLines}
use Rattle.lines.proofs.Cuts.{writes_some, written_anyhow, writes_anyhow}
use Rattle.lines.specs.Steps.{room_for}
use Rattle.line_promise.specs.LineAnswers.{AllAnswered, AllAnswered.nothing, AllAnswered.next}
use Rattle.line_promise.specs.Computed.{line_answer}
use Rattle.line_promise.proofs.OneLineAnswer.{answers_only, line_answers, answer_short}
use Rattle.line_promise.specs.Output.{program_output, most_bytes}

pub ended_short : (h : Held) → length (line_answer h ++ (line_end ∷ [])) ≤ most_bytes
ended_short h = rw length-append (omega (arith, answer_short h))

abbrev of_lines : List (List ℕ) → List ℕ
of_lines = flat_map (λ l. line_answer (held limit l) ++ (line_end ∷ []))

-- ---- it is what is to be written, and nothing else is
all_answered : (ls : List (List ℕ)) → AllAnswered ls (of_lines ls)
unfolding flat_map
all_answered [] = nothing
all_answered (l ∷ ls) = next (line_answers l) (all_answered ls)

only_answered : {ls : List (List ℕ)} {o : List ℕ} → AllAnswered ls o → o ≡ of_lines ls
unfolding flat_map
only_answered nothing = refl
only_answered (next {l} {a} {ls} {o} x xs) =
    let e : a ≡ line_answer (held limit l) = answers_only l x in
    let f : o ≡ of_lines ls = only_answered xs in
    rw (e, f)

module _ (input : List ℕ) where
  pub output_answers : AllAnswered (lines_of input) (program_output input)
  unfolding output
  output_answers = all_answered (lines_of input)

  pub output_only : {o : List ℕ} → AllAnswered (lines_of input) o → o ≡ program_output input
  unfolding output
  output_only x = only_answered x

-- ---- a program that reads pieces of the input, steps over them while it has room for an answer more, and writes
module _ (room : ℕ) (buffer : List ℕ) (holds : length buffer ≡ limit) (pieces : List (List ℕ)) where
  pub writes_output : {t : List ℕ} → WritesLines line_answer (room_for most_bytes room) buffer no_line pieces t → t ≡ program_output (flatten pieces)
  writes_output w = rw holds at (writes_anyhow line_answer w)

  -- it comes to the end of every input
  pub output_written : most_bytes ≤ room → WritesLines line_answer (room_for most_bytes room) buffer no_line pieces (program_output (flatten pieces))
  output_written h =
      let e : written line_answer buffer no_line pieces ≡ program_output (flatten pieces) = rw holds at (written_anyhow line_answer buffer pieces) in
      rw e at (writes_some line_answer (room_for most_bytes room) (le-leb (0 + most_bytes) room h) buffer no_line pieces)
