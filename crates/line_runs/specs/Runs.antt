-- Runs of the line program, whatever its reads and writes answer.
use Rattle.std.specs.Prelude.{ℕ, ◌+◌, ◌-◌, ◌^◌, ◌≤◌, ◌≡◌, Bool, true, false, Option, List, [], ◌∷◌, ◌++◌, length, take, replicate}
use Rattle.lent.specs.Put.{put}
use Rattle.promise.specs.Outcome.{limit}
use Rattle.lines.specs.declared.Line.{Line}
use Rattle.lines.specs.declared.Progress.{Progress}
use Rattle.lines.specs.Taking.{no_line}
use Rattle.lines.proofs.Steps.{Stepped}
use Rattle.line_promise.specs.Computed.{line_answer}
use Rattle.line_promise.specs.Output.{most_bytes}
use Rattle.line_runs.specs.declared.Rest.{Rest}
use Rattle.line_runs.specs.declared.Waiting.{Waiting}
use Rattle.line_runs.specs.declared.Next.{Next}
use Rattle.line_runs.specs.declared.Next.TheVariants.{Read, Step, Write, Finish, WriteLast, Stop}
use Rattle.line_runs.specs.After.{after_read, after_step, after_write, piece_of, left_of, last_answer}

-- a write takes all of its bytes, or it fails and has taken some
abbrev pub Took : Bool → ℕ → ℕ → Type 0
Took true n taken = taken ≡ n
Took false n taken = taken ≤ n

-- how it stands behind so many turns, the pieces that were read, in order, and the bytes that writes have taken
pub data Run (buffer₀ : List ℕ) : ℕ → Next → List ℕ → List ℕ → List ℕ → List (List ℕ) → List ℕ → Type 0 where
  begins : {input out : List ℕ} → most_bytes ≤ length out → Run buffer₀ 0 (Read no_line) input buffer₀ out [] []
  reading : {turns : ℕ} {line : Line} {input buffer out taken : List ℕ} {pieces : List (List ℕ)} → Run buffer₀ turns (Read line) input buffer out pieces taken
      → (got : Option ℕ) (input' : List ℕ) → Run buffer₀ (turns + 1) (after_read got (length input') line) input' buffer out (pieces ++ (piece_of got input' ∷ [])) taken
  stepping : {turns : ℕ} {rest : Rest} {input buffer out taken : List ℕ} {pieces : List (List ℕ)} → Run buffer₀ turns (Step rest) input buffer out pieces taken
      → (s : Progress) {buffer' out' : List ℕ} → Stepped line_answer most_bytes (left_of rest input) buffer rest.line out s buffer' out'
      → Run buffer₀ (turns + 1) (after_step s rest) input buffer' out' pieces taken
  writing : {turns : ℕ} {w : Waiting} {input buffer out taken : List ℕ} {pieces : List (List ℕ)} → Run buffer₀ turns (Write w) input buffer out pieces taken
      → (done : Bool) (n : ℕ) → Took done w.at n
      → Run buffer₀ (turns + 1) (after_write done w) input buffer out pieces (taken ++ take n out)
  finishing : {turns : ℕ} {line : Line} {input buffer out taken : List ℕ} {pieces : List (List ℕ)} → Run buffer₀ turns (Finish line) input buffer out pieces taken
      → Run buffer₀ (turns + 1) (WriteLast (length (last_answer buffer line))) input buffer (put out 0 (last_answer buffer line)) pieces taken
  writing_last : {turns : ℕ} {at : ℕ} {input buffer out taken : List ℕ} {pieces : List (List ℕ)} → Run buffer₀ turns (WriteLast at) input buffer out pieces taken
      → (done : Bool) (n : ℕ) → Took done at n → Run buffer₀ (turns + 1) (Stop done) input buffer out pieces (taken ++ take n out)

-- the turns that a program counts, more than any run has
abbrev pub most_turns : ℕ
most_turns = 2 ^ 64 - 1

-- it goes on until it has stopped, and says whether well; or all turns are used up, which is not well
pub data Ends : ℕ → Next → Bool → Type 0 where
  stopped : {turns : ℕ} {well : Bool} → Ends turns (Stop well) well
  used_up : {next : Next} → Ends most_turns next false

-- a whole run: what it says of itself, and what it leaves in its room
pub record Ran (buffer₀ : List ℕ) (well : Bool) (input buffer out : List ℕ) : Type 0 where
  pub turns : ℕ
  pub next : Next
  pub pieces : List (List ℕ)
  pub taken : List ℕ
  pub run : Run buffer₀ turns next input buffer out pieces taken
  pub ends : Ends turns next well

-- one line buffer of 4,096 bytes, zero at the start
pub record RanFromZeros (well : Bool) : Type 0 where
  pub input : List ℕ
  pub buffer : List ℕ
  pub out : List ℕ
  pub ran : Ran (replicate limit 0) well input buffer out
