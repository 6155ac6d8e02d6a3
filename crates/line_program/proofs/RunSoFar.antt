-- Laws behind the proofs: that the program stays within its room, and a run so far.
use Prim.Native.Nat.{ℕ, zero, suc, ◌+◌, ◌≤◌}
use mathlib.Core.Path.{◌≡◌, refl}
use mathlib.Core.Bool.{Bool, true, false, cond}
use mathlib.Core.List.{List, [], ◌∷◌, ◌++◌}
use native.Mathlib.Omega.{arith}
use Rattle.std.specs.Prelude.{Option, Some, None}
use lib.ListN.{length}
use Rattle.lent.specs.Put.{put, put_length}
use Rattle.lines.specs.declared.Line.{Line}
use Rattle.lines.specs.Lines.{line_end}
use Rattle.lines.specs.Taking.{no_line, begun, held_in}
use Rattle.lines.specs.Feeding.{finished}
use Rattle.line_promise.specs.Computed.{line_answer}
use Rattle.line_promise.specs.Output.{most_bytes}
use Rattle.line_promise.proofs.Output.{ended_short}
use Rattle.line_runs.specs.declared.Rest.{Rest}
use Rattle.line_runs.specs.declared.Waiting.{Waiting}
use Rattle.line_runs.specs.declared.Next.{Next}
use Rattle.line_runs.specs.declared.Next.TheVariants.{Read, Step, Write, Finish, WriteLast, Stop}
use Rattle.line_runs.specs.After.{go_on, clamp_len, after_read, after_step, after_write, last_answer, Ready, Acted}
use Rattle.line_runs.proofs.After.{goes_on}
use Rattle.line_runs.specs.Runs.{Run, Run.begins, Run.reading, Run.stepping, Run.writing, Run.finishing, Run.writing_last, most_turns, Ends.stopped, Ends.used_up, Ran}

-- ---- within its room
last_short : (buffer : List ℕ) (line : Line) → length (last_answer buffer line) ≤ most_bytes
unfolding finished
last_short buffer line = go (begun line)
  where
    go : (t : Bool) → length (cond t (line_answer (held_in buffer line) ++ (line_end ∷ [])) []) ≤ most_bytes
    go true = ended_short (held_in buffer line)
    go false = omega arith

module _ (input buffer out : List ℕ) where
  rest_ready : (rest : Rest) → rest.piece ≤ length input → rest.line.len ≤ length buffer → most_bytes ≤ length out → Ready (go_on rest) input buffer out
  unfolding Ready
  rest_ready rest p l h = goes_on (λ r. Ready r input buffer out) rest (λ k. (l, h)) (λ k. (omega arith, p, l, h))

  read_ready : (got : Option ℕ) (line : Line) → line.len ≤ length buffer → most_bytes ≤ length out → Ready (after_read got (length input) line) input buffer out
  unfolding after_read Ready
  read_ready None line l h = tt
  read_ready (Some zero) line l h = (l, h)
  read_ready (Some (suc k)) line l h = rest_ready (record { piece = clamp_len (Some (suc k)) (length input); used = 0; line = line }) (omega arith) l h

  write_ready : (done : Bool) (w : Waiting) → Ready (Write w) input buffer out → Ready (after_write done w) input buffer out
  unfolding after_write Ready
  write_ready true w h = rest_ready w.rest h.1 h.2 h.3
  write_ready false w h = tt

  finish_ready : (line : Line) → most_bytes ≤ length out → length (last_answer buffer line) ≤ length (put out 0 (last_answer buffer line))
  finish_ready line h = rw (put_length out 0 (last_answer buffer line) (omega (arith, last_short buffer line))) (omega (arith, last_short buffer line))

-- ---- a run so far
pub record Standing (buffer₀ : List ℕ) (turns : ℕ) (next : Next) (input buffer out : List ℕ) : Type 0 where
  pub pieces : List (List ℕ)
  pub taken : List ℕ
  pub run : Run buffer₀ turns next input buffer out pieces taken
  pub ready : Ready next input buffer out

pub standing_start : (input buffer out : List ℕ) {line : Line} → line ≡ no_line → most_bytes ≤ length out → Standing buffer 0 (Read line) input buffer out
unfolding Ready
standing_start input buffer out e h = record { pieces = []; taken = []; run = rw e (begins h); ready = rw e (omega arith, h) }

one_more : {taken : List ℕ} {pieces : List (List ℕ)} {buffer₀ input buffer out : List ℕ} {turns : ℕ} {next : Next}
    → Run buffer₀ turns next input buffer out pieces taken → Ready next input buffer out → Standing buffer₀ turns next input buffer out
one_more {taken} {pieces} run ready = record { pieces = pieces; taken = taken; run = run; ready = ready }

module _ {buffer₀ input buffer out : List ℕ} {turns : ℕ} where
  -- a turn of a program that has not stopped
  pub standing_more : (next : Next) → ((well : Bool) → next ≡ Stop well → ⊥) → Standing buffer₀ turns next input buffer out
      → {r : Next} {input' buffer' out' : List ℕ} → Acted next input buffer out r input' buffer' out' → Standing buffer₀ (turns + 1) r input' buffer' out'
  unfolding Acted Ready after_step after_write
  standing_more (Read line) k s {r} {input'} (got, q, f, g) = rw (q, f, g) (one_more (reading s.run got input') (read_ready input' buffer out got line s.ready.0 s.ready.1))
  standing_more (Step rest) k s (p, st, q, e) =
      rw (q, e) (one_more (stepping s.run p st) (st.at_in, s.ready.1, st.len_in, omega (arith, st.same_out, s.ready.3)))
  standing_more (Write w) k s (true, q, e, f, g) = rw (q, e, f, g) (one_more (writing s.run true w.at refl) (write_ready input buffer out true w s.ready))
  standing_more (Write w) k s (false, q, e, f, g) = rw (q, e, f, g) (one_more (writing s.run false 0 (omega arith)) tt)
  standing_more (Finish line) k s (q, e, f, g) = rw (q, e, f, g) (one_more (finishing s.run) (finish_ready input buffer out line s.ready.1))
  standing_more (WriteLast at) k s (true, q, e, f, g) = rw (q, e, f, g) (one_more (writing_last s.run true at refl) tt)
  standing_more (WriteLast at) k s (false, q, e, f, g) = rw (q, e, f, g) (one_more (writing_last s.run false 0 (omega arith)) tt)
  standing_more (Stop well) k s a = absurd (k well refl)

module _ {buffer₀ input buffer out : List ℕ} {turns : ℕ} {next : Next} (s : Standing buffer₀ turns next input buffer out) where
  pub ran_to_stop : {well : Bool} → next ≡ Stop well → Ran buffer₀ well input buffer out
  ran_to_stop e = record { turns = turns; next = next; pieces = s.pieces; taken = s.taken; run = s.run; ends = rw e stopped }

  pub ran_out : turns ≡ most_turns → Ran buffer₀ false input buffer out
  ran_out e = record { turns = turns; next = next; pieces = s.pieces; taken = s.taken; run = s.run; ends = rw e used_up }
