-- Whatever reads and writes answer: where one fails, what writes have taken is a front of what is to be written for the pieces that were
-- read, so that nothing is written twice; before each read it is all but the answer to the line that has no end yet; and where the program
-- stops well it is the whole.
use Rattle.std.specs.Prelude.{ℕ, zero, suc, ◌+◌, ◌≤◌, ◌≡◌, refl, Bool, Option, Some, None, length, replicate}
use Rattle.std.proofs.Math.Path.{sym, ap}
use Rattle.std.proofs.Common.{◌∙◌, arith, length-take, take-append-drop, drop_of_length-le, take-take, take_at, le-leb}
use Rattle.std.proofs.Math.Bool.{true, false}
use mathlib.Core.List.{List, [], ◌∷◌, ◌++◌, flatten, append-nil, append_assoc}
use Rattle.std.proofs.Math.Nat.{zero-min}
use Rattle.std.proofs.Math.ListN.{take, drop}
use Rattle.std.proofs.lemmas.List.{length-replicate}
use Rattle.std.proofs.Math.Seq.{append_snoc, drop-drop}
use Rattle.lent.specs.Put.{put, put_front}
use Rattle.promise.specs.Outcome.{limit}
use Rattle.lines.specs.declared.Line.{Line}
use Rattle.lines.specs.declared.Progress.{Progress}
use Rattle.lines.specs.Taking.{no_line}
use Rattle.lines.specs.Feeding.{step_on, written, WritesLines, WritesLines.ends}
use Rattle.lines.proofs.Cuts.{writes_some}
use Rattle.lines.specs.Steps.{room_for}
use Rattle.lines.proofs.Steps.{Stepped}
use Rattle.line_promise.specs.Computed.{line_answer}
use Rattle.line_promise.specs.Output.{program_output, most_bytes}
use Rattle.line_promise.proofs.Output.{writes_output}
use Rattle.line_runs.specs.declared.Rest.{Rest}
use Rattle.line_runs.specs.declared.Waiting.{Waiting}
use Rattle.line_runs.specs.declared.Next.{Next}
use Rattle.line_runs.specs.declared.Next.TheVariants.{Read, Step, Write, Finish, WriteLast, Stop}
use Rattle.line_runs.specs.After.{go_on, clamp_len, after_read, after_step, after_write, piece_of, left_of, last_answer}
use Rattle.line_runs.proofs.After.{goes_on}
use Rattle.line_runs.specs.Runs.{Took, Run, Run.begins, Run.reading, Run.stepping, Run.writing, Run.finishing, Run.writing_last, Ends, Ends.stopped, RanFromZeros}

put_taken : (out t : List ℕ) → take (length t) (put out 0 t) ≡ t
put_taken out t = rw (put_front out t) (take_at t (drop (length t) out) (length t) refl)

-- the first bytes of a front, and those behind them
front_split : (n at : ℕ) (out : List ℕ) → n ≤ at → take n out ++ drop n (take at out) ≡ take at out
front_split n at out h = ap (λ (x : List ℕ). x ++ drop n (take at out)) (sym (take-take n at out h)) ∙ take-append-drop n (take at out)

none_left : (rest : Rest) (input : List ℕ) → rest.piece ≤ rest.used → left_of rest input ≡ []
none_left rest input h =
    let within : length (take rest.piece input) ≤ rest.used = rw length-take (omega arith) in
    drop_of_length-le (take rest.piece input) within

abbrev Goes : ℕ → List ℕ → Line → List (List ℕ) → List ℕ → Type 0
Goes room = WritesLines line_answer (room_for most_bytes room)

goes_some : (room : ℕ) → most_bytes ≤ room → (buffer : List ℕ) (line : Line) (pieces : List (List ℕ)) → Goes room buffer line pieces (written line_answer buffer line pieces)
goes_some room h = writes_some line_answer (room_for most_bytes room) (le-leb (0 + most_bytes) room h)

module _ (buffer₀ : List ℕ) where
  -- with what is written for the rest, the bytes that were taken are what is written for all
  abbrev Before : ℕ → List ℕ → Line → (List (List ℕ) → List (List ℕ)) → List (List ℕ) → List ℕ → Type 0
  Before room buffer line rest pieces taken = (more : List (List ℕ)) (t : List ℕ) → Goes room buffer line (rest more) t → Goes room buffer₀ no_line (pieces ++ more) (taken ++ t)

  -- in each case of what comes next
  unfoldable Owes : Next → List ℕ → List ℕ → List ℕ → List (List ℕ) → List ℕ → Type 0
  Owes (Read line) input buffer out pieces taken = (most_bytes ≤ length out) × Before (length out) buffer line (λ more. more) pieces taken
  Owes (Step rest) input buffer out pieces taken = (most_bytes ≤ length out) × Before (length out) buffer rest.line (λ more. left_of rest input ∷ more) pieces taken
  Owes (Write w) input buffer out pieces taken =
      (most_bytes ≤ length out) × Before (length out) buffer w.rest.line (λ more. left_of w.rest input ∷ more) pieces (taken ++ take w.at out)
  Owes (Finish line) input buffer out pieces taken = (room : ℕ) × Goes room buffer₀ no_line pieces (taken ++ last_answer buffer line)
  Owes (WriteLast at) input buffer out pieces taken = (room : ℕ) × Goes room buffer₀ no_line pieces (taken ++ take at out)
  Owes (Stop true) input buffer out pieces taken = (room : ℕ) × Goes room buffer₀ no_line pieces taken
  Owes (Stop false) input buffer out pieces taken = (room : ℕ) × (rest : List ℕ) × Goes room buffer₀ no_line pieces (taken ++ rest)

  piece_owes : (input buffer out : List ℕ) (pieces : List (List ℕ)) (taken : List ℕ) (rest : Rest) → most_bytes ≤ length out
      → Before (length out) buffer rest.line (λ more. left_of rest input ∷ more) pieces taken → Owes (go_on rest) input buffer out pieces taken
  unfolding Owes
  piece_owes input buffer out pieces taken rest h f =
      goes_on (λ r. Owes r input buffer out pieces taken) rest (λ k. (h, λ more t g. f more t (rw (none_left rest input k) (WritesLines.reads g)))) (λ k. (h, f))

  module _ (input buffer out : List ℕ) (pieces : List (List ℕ)) (taken : List ℕ) where
    read_owes : (got : Option ℕ) (line : Line) → most_bytes ≤ length out → Before (length out) buffer line (λ more. more) pieces taken
        → Owes (after_read got (length input) line) input buffer out (pieces ++ (piece_of got input ∷ [])) taken
    unfolding Owes after_read piece_of
    read_owes None line h f = (length out, last_answer buffer line, f ([] ∷ []) (last_answer buffer line) (WritesLines.reads ends))
    read_owes (Some zero) line h f = (length out, rw (zero-min (length input)) (f ([] ∷ []) (last_answer buffer line) (WritesLines.reads ends)))
    read_owes (Some (suc k)) line h f =
        piece_owes input buffer out (pieces ++ (piece_of (Some (suc k)) input ∷ [])) taken (record { piece = clamp_len (Some (suc k)) (length input); used = 0; line = line }) h
        (λ more t g. rw (append_snoc pieces (piece_of (Some (suc k)) input) more) (f (piece_of (Some (suc k)) input ∷ more) t g))

    step_owes : (rest : Rest) (s : Progress) {buffer' out' : List ℕ} → Stepped line_answer most_bytes (left_of rest input) buffer rest.line out s buffer' out'
        → Owes (Step rest) input buffer out pieces taken → Owes (after_step s rest) input buffer' out' pieces taken
    unfolding Owes after_step
    step_owes rest s {buffer'} {out'} st f =
        let step = step_on line_answer (room_for most_bytes (length out)) buffer rest.line (left_of rest input) in
        let left : drop (rest.used + s.used) (take rest.piece input) ≡ step.1 = sym (st.left_is ∙ drop-drop s.used rest.used (take rest.piece input)) in
        let made : take s.at out' ≡ step.0.made = rw (st.at_is, st.out_is) (put_taken out step.0.made) in (
          omega (arith, st.same_out, f.0),
          λ more t g.
              rw (made, st.same_out, append_assoc taken step.0.made t)
              (f.1 more (step.0.made ++ t) (WritesLines.steps buffer rest.line (left_of rest input) (rw (left, st.same_out, st.buffer_is, st.line_is) at g))),
        )

    write_owes : (w : Waiting) (done : Bool) (n : ℕ) → Took done w.at n → Owes (Write w) input buffer out pieces taken
        → Owes (after_write done w) input buffer out pieces (taken ++ take n out)
    unfolding Owes after_write
    write_owes w true n e f = rw e (piece_owes input buffer out pieces (taken ++ take w.at out) w.rest f.0 f.1)
    write_owes w false n h f =
        let rest = left_of w.rest input ∷ [] in
        let t = written line_answer buffer w.rest.line rest in
        let g = f.1 [] t (goes_some (length out) f.0 buffer w.rest.line rest) in
        let a = take n out in
        let b = drop n (take w.at out) in
        let e : taken ++ take w.at out ++ t ≡ taken ++ a ++ (b ++ t) =
        ap (λ (x : List ℕ). taken ++ x ++ t) (sym (front_split n w.at out h)) ∙ ap (λ (x : List ℕ). x ++ t) (sym (append_assoc taken a b)) ∙ append_assoc (taken ++ a) b t
        in
        (length out, b ++ t, rw (append-nil, e) at g)

    finish_owes : (line : Line) → Owes (Finish line) input buffer out pieces taken
        → Owes (WriteLast (length (last_answer buffer line))) input buffer (put out 0 (last_answer buffer line)) pieces taken
    unfolding Owes
    finish_owes line f = (f.0, rw (put_taken out (last_answer buffer line)) f.1)

    last_owes : (at : ℕ) (done : Bool) (n : ℕ) → Took done at n → Owes (WriteLast at) input buffer out pieces taken
        → Owes (Stop done) input buffer out pieces (taken ++ take n out)
    unfolding Owes
    last_owes at true n e f = rw e f
    last_owes at false n h f = (f.0, drop n (take at out), rw (append_assoc taken (take n out) (drop n (take at out)), front_split n at out h) f.1)

    -- whatever comes next, what writes have taken is a front
    owes_front : (next : Next) → Owes next input buffer out pieces taken → (room : ℕ) × (rest : List ℕ) × Goes room buffer₀ no_line pieces (taken ++ rest)
    unfolding Owes
    owes_front (Read line) f = (length out, last_answer buffer line, rw append-nil at (f.1 [] (last_answer buffer line) ends))
    owes_front (Step rest) f =
        let left = left_of rest input ∷ [] in
        let t = written line_answer buffer rest.line left in
        (length out, t, rw append-nil at (f.1 [] t (goes_some (length out) f.0 buffer rest.line left)))
    owes_front (Write w) f =
        let left = left_of w.rest input ∷ [] in
        let t = written line_answer buffer w.rest.line left in
        (length out, take w.at out ++ t, rw (append-nil, append_assoc taken (take w.at out) t) at (f.1 [] t (goes_some (length out) f.0 buffer w.rest.line left)))
    owes_front (Finish line) f = (f.0, last_answer buffer line, f.1)
    owes_front (WriteLast at) f = (f.0, take at out, f.1)
    owes_front (Stop true) f = (f.0, [], rw append-nil f.1)
    owes_front (Stop false) f = f

  run_owes : {turns : ℕ} {next : Next} {input buffer out taken : List ℕ} {pieces : List (List ℕ)} → Run buffer₀ turns next input buffer out pieces taken → Owes next input buffer out pieces taken
  unfolding Owes
  run_owes (begins h) = (h, λ more t g. g)
  run_owes (reading {turns} {line} {input} {buffer} {out} {taken} {pieces} x got input') = let f = run_owes x in read_owes input' buffer out pieces taken got line f.0 f.1
  run_owes (stepping {turns} {rest} {input} {buffer} {out} {taken} {pieces} x s st) = step_owes input buffer out pieces taken rest s st (run_owes x)
  run_owes (writing {turns} {w} {input} {buffer} {out} {taken} {pieces} x done n e) = write_owes input buffer out pieces taken w done n e (run_owes x)
  run_owes (finishing {turns} {line} {input} {buffer} {out} {taken} {pieces} x) = finish_owes input buffer out pieces taken line (run_owes x)
  run_owes (writing_last {turns} {at} {input} {buffer} {out} {taken} {pieces} x done n e) = last_owes input buffer out pieces taken at done n e (run_owes x)

-- ---- with a line buffer of 4,096 bytes
module _ (buffer₀ : List ℕ) (holds : length buffer₀ ≡ limit) {turns : ℕ} {input buffer out taken : List ℕ} {pieces : List (List ℕ)} where
  pub whole_where_well : Run buffer₀ turns (Stop true) input buffer out pieces taken → taken ≡ program_output (flatten pieces)
  unfolding Owes
  whole_where_well x = let f = run_owes buffer₀ x in writes_output f.0 buffer₀ holds pieces f.1

  pub all_before_a_read : {line : Line} → Run buffer₀ turns (Read line) input buffer out pieces taken → taken ++ last_answer buffer line ≡ program_output (flatten pieces)
  unfolding Owes
  all_before_a_read {line} x =
      let f = run_owes buffer₀ x in
      writes_output (length out) buffer₀ holds pieces (rw append-nil at (f.1 [] (last_answer buffer line) ends))

  front_anywhere : {next : Next} → Run buffer₀ turns next input buffer out pieces taken → (rest : List ℕ) × (taken ++ rest ≡ program_output (flatten pieces))
  front_anywhere {next} x = let f = owes_front buffer₀ input buffer out pieces taken next (run_owes buffer₀ x) in (f.1, writes_output f.0 buffer₀ holds pieces f.2)

  pub front_at_a_fault : Run buffer₀ turns (Stop false) input buffer out pieces taken → (rest : List ℕ) × (taken ++ rest ≡ program_output (flatten pieces))
  front_at_a_fault x = front_anywhere x

-- ---- by what the program says of its run
zeros_hold : length (replicate {A = ℕ} limit 0) ≡ limit
zeros_hold = length-replicate {A = ℕ} limit 0

pub whole_where_said : (r : RanFromZeros true) → r.ran.taken ≡ program_output (flatten r.ran.pieces)
whole_where_said r = go r.ran.run r.ran.ends
  where
    go : {turns : ℕ} {next : Next} {pieces : List (List ℕ)} {taken : List ℕ} → Run (replicate limit 0) turns next r.input r.buffer r.out pieces taken → Ends turns next true
        → taken ≡ program_output (flatten pieces)
    go x stopped = whole_where_well (replicate limit 0) zeros_hold x

pub front_in_any_case : {well : Bool} (r : RanFromZeros well) → (rest : List ℕ) × (r.ran.taken ++ rest ≡ program_output (flatten r.ran.pieces))
front_in_any_case r = front_anywhere (replicate limit 0) zeros_hold r.ran.run
