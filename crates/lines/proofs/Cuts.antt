-- However an input is cut into pieces, a program makes of them what it is to make of the lines of the whole.
use Prim.Native.Nat.{ℕ, zero, suc, ◌+◌, ◌≤◌, ◌<◌}
use Rattle.std.specs.Prelude.{◌≡◌, Bool, ltb, length, get_or}
use Rattle.std.proofs.Math.Path.{refl, sym, ap}
use Rattle.std.proofs.Common.{◌∙◌, arith, add-one, take-append-drop, take-suc}
use Rattle.std.proofs.Math.Bool.{true, false, cond}
use mathlib.Core.List.{List, [], ◌∷◌, ◌++◌, map, foldl, foldl-append, flatten, flat_map, append-nil, append_assoc}
use Rattle.std.proofs.Math.Dec.{eqb}
use Rattle.std.proofs.Math.ListN.{take, drop}
use Rattle.std.proofs.Math.Seq.{append_snoc}
use borrow.Author.Tests.{lt-ltb, eqb-true, ltb-true, not-true, not-false}
use Rattle.texts.proofs.Tests.{and-true}
use Rattle.texts.specs.Runs.{every, run, front}
use Rattle.texts.proofs.Runs.{every_append, one_every, front_every}
use Rattle.lines.specs.declared.Line.{Line}
use Rattle.lines.specs.Lines.{line_end, lines_of, Held, held, handled, output}
use Rattle.lines.specs.Taking.{in_line, no_line, begun, held_in, ended, used, taken, stored}
use Rattle.lines.specs.Feeding.{Going, settled, turn, turns, finished, fed, run_over, writes, clear, written, step_on, WritesLines, WritesLines.ends, WritesLines.reads, WritesLines.steps}
use Rattle.lines.specs.HeldLines.{Holds}
use Rattle.lines.proofs.HeldLines.{lines_none, lines_end, lines_last, holds_none, begun_some, stored_length, holds_more}
use Rattle.lines.proofs.Turns.{less_left, through_less, through_rest}

-- the byte behind the bytes of a line is LF
run_stops : (p : ℕ → Bool) (s : List ℕ) → run p s < length s → p (get_or s (run p s) 0) ≡ false
unfolding run
run_stops p [] h = absurd (omega arith)
run_stops p (b ∷ s) h = go (p b) refl h (run_stops p s)
  where
    go : (t : Bool) → p b ≡ t → cond t (suc (run p s)) 0 < suc (length s) → (run p s < length s → p (get_or s (run p s) 0) ≡ false) → p (get_or (b ∷ s) (cond t (suc (run p s)) 0) 0) ≡ false
    go true e k rest = rest (omega arith)
    go false e k rest = e

used_ended : (piece : List ℕ) → ended piece ≡ true → take (run in_line piece + 1) piece ≡ front in_line piece ++ (line_end ∷ [])
unfolding front
used_ended piece e =
    let h : run in_line piece < length piece = ltb-true (run in_line piece) (length piece) e in
    rw (add-one, take-suc piece (run in_line piece) 0 h, eqb-true (get_or piece (run in_line piece) 0) line_end (not-false (eqb (get_or piece (run in_line piece) 0) line_end) (run_stops in_line piece h)))

-- the whole of the line so far, and what was made of the lines before
record Sofar (A : Type 0) : Type 0 where
  line : List ℕ
  made : A

module _ {A : Type 0} (handle : A → Held → A) (room : ℕ) where
  abbrev byte : Sofar A → ℕ → Sofar A
  byte s b = cond (eqb b line_end) (record { line = []; made = handle s.made (held room s.line) }) (record { line = s.line ++ (b ∷ []); made = s.made })

  abbrev closed : Sofar A → A
  closed s = cond (ltb 0 (length s.line)) (handle s.made (held room s.line)) s.made

  -- byte by byte, every line of the input is handled
  by_bytes : (l : List ℕ) (a : A) (s : List ℕ) → every in_line l ≡ true → closed (foldl byte (record { line = l; made = a }) s) ≡ handled handle room a (l ++ s)
  unfolding handled every
  by_bytes [] a [] e = rw lines_none
  by_bytes (x ∷ l) a [] e = rw (append-nil, lines_last x l e, lt-ltb 0 (length (x ∷ l)) (omega arith))
  by_bytes l a (b ∷ s) e = go (eqb b line_end) refl (by_bytes [] (handle a (held room l)) s refl) (λ d. by_bytes (l ++ (b ∷ [])) a s (every_append in_line l (b ∷ []) e (one_every in_line b d)))
    where
      go : (t : Bool) → eqb b line_end ≡ t → closed (foldl byte (record { line = []; made = handle a (held room l) }) s) ≡ handled handle room (handle a (held room l)) s
          → (in_line b ≡ true → closed (foldl byte (record { line = l ++ (b ∷ []); made = a }) s) ≡ handled handle room a (l ++ (b ∷ []) ++ s))
          → closed (foldl byte (cond t (record { line = []; made = handle a (held room l) }) (record { line = l ++ (b ∷ []); made = a })) s) ≡ handled handle room a (l ++ (b ∷ s))
      go true q r next = r ∙ rw (eqb-true b line_end q, lines_end l s e)
      go false q r next = rw append_snoc at (next (rw q))

  line_bytes : (s : Sofar A) (f : List ℕ) → every in_line f ≡ true → foldl byte s f ≡ record { line = s.line ++ f; made = s.made }
  unfolding every
  line_bytes s [] e = rw append-nil
  line_bytes s (b ∷ f) e =
      let h = and-true (in_line b) (every in_line f) e in
      rw (not-true (eqb b line_end) h.0) (line_bytes (record { line = s.line ++ (b ∷ []); made = s.made }) f h.1 ∙ rw append_snoc)

  -- a program and the bytes that it has taken
  record Agrees (g : Going A) (s : Sofar A) : Type 0 where
    room_is : length g.buffer ≡ room
    holds : Holds g.buffer g.line s.line
    made_is : g.made ≡ s.made

  turn_agrees : (g : Going A) (s : Sofar A) (piece : List ℕ) → Agrees g s → Agrees (turn handle g piece) (foldl byte s (take (used piece) piece))
  unfolding turn taken front
  turn_agrees g s piece h = go (ended piece) refl
    where
      more : Holds (stored g.buffer g.line piece) (taken (length g.buffer) g.line piece).line (s.line ++ front in_line piece)
      more = holds_more g.buffer g.line s.line h.holds piece

      same : length (stored g.buffer g.line piece) ≡ room
      same = stored_length g.buffer g.line piece h.holds.within ∙ h.room_is

      go : (t : Bool) → ended piece ≡ t
          → Agrees (settled handle t (record { buffer = stored g.buffer g.line piece; line = (taken (length g.buffer) g.line piece).line; made = g.made }))
          (foldl byte s (take (cond t (run in_line piece + 1) (run in_line piece)) piece))
      go true e =
          let q : foldl byte s (take (run in_line piece + 1) piece) ≡ record { line = []; made = handle s.made (held room (s.line ++ front in_line piece)) } = rw (used_ended piece e, foldl-append byte s (front in_line piece) (line_end ∷ []), line_bytes s (front in_line piece) (front_every in_line piece)) in
          let m : handle g.made (held_in (stored g.buffer g.line piece) (taken (length g.buffer) g.line piece).line) ≡ handle s.made (held room (s.line ++ front in_line piece)) = rw (h.made_is, more.held_is, same) in
          rw q (record { room_is = same; holds = holds_none (stored g.buffer g.line piece); made_is = m })
      go false e = rw (line_bytes s (front in_line piece) (front_every in_line piece)) (record { room_is = same; holds = more; made_is = h.made_is })

  turns_agree : (most : ℕ) (g : Going A) (s : Sofar A) (piece : List ℕ) → length piece ≤ most → Agrees g s → Agrees (turns handle (λ made. true) most g piece).0 (foldl byte s piece)
  unfolding turns
  turns_agree zero g s [] l h = h
  turns_agree zero g s (b ∷ p) l h = absurd (omega arith)
  turns_agree (suc most) g s [] l h = h
  turns_agree (suc most) g s (b ∷ p) l h =
      let front : List ℕ = take (used (b ∷ p)) (b ∷ p) in
      let rest : List ℕ = drop (used (b ∷ p)) (b ∷ p) in
      let q : foldl byte s (b ∷ p) ≡ foldl byte (foldl byte s front) rest = ap (foldl byte s) (sym (take-append-drop (used (b ∷ p)) (b ∷ p))) ∙ foldl-append byte s front rest in
      rw q (turns_agree most (turn handle g (b ∷ p)) (foldl byte s front) rest (omega (arith, less_left b p)) (turn_agrees g s (b ∷ p) h))

  pieces_agree : (g : Going A) (s : Sofar A) (pieces : List (List ℕ)) → Agrees g s → Agrees (foldl (fed handle) g pieces) (foldl byte s (flatten pieces))
  unfolding flatten
  pieces_agree g s [] h = h
  pieces_agree g s (p ∷ pieces) h =
      rw (foldl-append byte s p (flatten pieces)) (pieces_agree (fed handle g p) (foldl byte s p) pieces (turns_agree (length p) g s p (omega arith) h))

  finish_agrees : (g : Going A) (s : Sofar A) → Agrees g s → finished handle g ≡ closed s
  unfolding finished
  finish_agrees g s h = rw (begun_some g.buffer g.line s.line h.holds, h.made_is, h.holds.held_is, h.room_is)

-- the pieces may be cut anyhow, and some may be empty
module _ {A : Type 0} (handle : A → Held → A) (buffer : List ℕ) (a : A) (pieces : List (List ℕ)) where
  pub cut_anyhow : run_over handle buffer a pieces ≡ handled handle (length buffer) a (flatten pieces)
  unfolding run_over every
  cut_anyhow =
      let start : Going A = record { buffer = buffer; line = no_line; made = a } in
      let s : Sofar A = record { line = []; made = a } in
      finish_agrees handle (length buffer) (foldl (fed handle) start pieces) (foldl (byte handle (length buffer)) s (flatten pieces))
      (pieces_agree handle (length buffer) start s pieces (record { room_is = refl; holds = holds_none buffer; made_is = refl }))
      ∙ by_bytes handle (length buffer) [] a (flatten pieces) refl

-- ---- a program that writes
module _ (answer : Held → List ℕ) where
  -- behind what was written before
  abbrev pub behind : List ℕ → Going (List ℕ) → Going (List ℕ)
  behind a g = record { buffer = g.buffer; line = g.line; made = a ++ g.made }

  turn_behind : (a : List ℕ) (g : Going (List ℕ)) (piece : List ℕ) → turn (writes answer) (behind a g) piece ≡ behind a (turn (writes answer) g piece)
  unfolding turn taken
  turn_behind a g piece = go (ended piece)
    where
      go : (t : Bool)
          → settled (writes answer) t (record { buffer = stored g.buffer g.line piece; line = (taken (length g.buffer) g.line piece).line; made = a ++ g.made })
          ≡ behind a (settled (writes answer) t (record { buffer = stored g.buffer g.line piece; line = (taken (length g.buffer) g.line piece).line; made = g.made }))
      go true = rw append_assoc
      go false = refl

  turns_behind : (a : List ℕ) (most : ℕ) (g : Going (List ℕ)) (piece : List ℕ)
      → (turns (writes answer) (λ made. true) most (behind a g) piece).0 ≡ behind a (turns (writes answer) (λ made. true) most g piece).0
  unfolding turns
  turns_behind a zero g piece = refl
  turns_behind a (suc most) g [] = refl
  turns_behind a (suc most) g (b ∷ s) = rw turn_behind (turns_behind a most (turn (writes answer) g (b ∷ s)) (drop (used (b ∷ s)) (b ∷ s)))

  pub fed_behind : (a buffer : List ℕ) (line : Line) (piece : List ℕ) → fed (writes answer) (record { buffer = buffer; line = line; made = a }) piece ≡ behind a (fed (writes answer) (clear buffer line) piece)
  fed_behind a buffer line piece =
      ap (λ (m : List ℕ). fed (writes answer) (record { buffer = buffer; line = line; made = m }) piece) (sym (append-nil a))
      ∙ turns_behind a (length piece) (clear buffer line) piece

  written_behind : (a buffer : List ℕ) (line : Line) (pieces : List (List ℕ))
      → finished (writes answer) (foldl (fed (writes answer)) (record { buffer = buffer; line = line; made = a }) pieces) ≡ a ++ written answer buffer line pieces
  unfolding finished written
  written_behind a buffer line [] = go (begun line)
    where
      go : (t : Bool) → cond t (a ++ (answer (held_in buffer line) ++ (line_end ∷ []))) a ≡ a ++ cond t (answer (held_in buffer line) ++ (line_end ∷ [])) []
      go true = refl
      go false = sym (append-nil a)
  written_behind a buffer line (p ∷ pieces) =
      let g : Going (List ℕ) = fed (writes answer) (clear buffer line) p in
      ap (λ (x : Going (List ℕ)). finished (writes answer) (foldl (fed (writes answer)) x pieces)) (fed_behind a buffer line p)
      ∙ written_behind (a ++ g.made) g.buffer g.line pieces
      ∙ append_assoc a g.made (written answer g.buffer g.line pieces)

  -- what a step leaves of a piece is taken by the next
  written_rest : (ready : List ℕ → Bool) (buffer : List ℕ) (line : Line) (piece : List ℕ) (pieces : List (List ℕ))
      → (step_on answer ready buffer line piece).0.made ++ written answer (step_on answer ready buffer line piece).0.buffer (step_on answer ready buffer line piece).0.line ((step_on answer ready buffer line piece).1 ∷ pieces)
      ≡ written answer buffer line (piece ∷ pieces)
  unfolding written
  written_rest ready buffer line piece pieces =
      let h : Going (List ℕ) = (step_on answer ready buffer line piece).0 in
      let g : Going (List ℕ) = fed (writes answer) (clear h.buffer h.line) (step_on answer ready buffer line piece).1 in
      let q : fed (writes answer) (clear buffer line) piece ≡ behind h.made g =
      through_rest (writes answer) ready (clear buffer line) piece ∙ fed_behind h.made h.buffer h.line (step_on answer ready buffer line piece).1
      in
      sym
      (ap (λ (x : Going (List ℕ)). x.made ++ written answer x.buffer x.line pieces) q
      ∙ append_assoc h.made g.made (written answer g.buffer g.line pieces))

  writes_written : {ready : List ℕ → Bool} {buffer : List ℕ} {line : Line} {pieces : List (List ℕ)} {t : List ℕ} → WritesLines answer ready buffer line pieces t → t ≡ written answer buffer line pieces
  unfolding written turns
  writes_written ends = refl
  writes_written (reads w) = writes_written w
  writes_written {ready} (steps buffer line piece {pieces} w) =
      ap (λ (x : List ℕ). (step_on answer ready buffer line piece).0.made ++ x) (writes_written w) ∙ written_rest ready buffer line piece pieces

  -- where it is ready with nothing waiting to be written, it comes to the end of every input
  steps_through : (ready : List ℕ → Bool) → ready [] ≡ true → (pieces : List (List ℕ)) → ((buffer : List ℕ) (line : Line) → WritesLines answer ready buffer line pieces (written answer buffer line pieces))
      → (most : ℕ) (buffer : List ℕ) (line : Line) (piece : List ℕ) → length piece ≤ most → WritesLines answer ready buffer line (piece ∷ pieces) (written answer buffer line (piece ∷ pieces))
  unfolding written turns
  steps_through ready e pieces others zero buffer line [] h = reads (others buffer line)
  steps_through ready e pieces others zero buffer line (b ∷ s) h = absurd (omega arith)
  steps_through ready e pieces others (suc most) buffer line [] h = reads (others buffer line)
  steps_through ready e pieces others (suc most) buffer line (b ∷ s) h =
      let g : Going (List ℕ) = (step_on answer ready buffer line (b ∷ s)).0 in
      rw (written_rest ready buffer line (b ∷ s) pieces) at
      (steps buffer line (b ∷ s) (steps_through ready e pieces others most g.buffer g.line (step_on answer ready buffer line (b ∷ s)).1 (omega (arith, through_less (writes answer) ready (clear buffer line) (b ∷ s) (omega arith) e))))

  pub writes_some : (ready : List ℕ → Bool) → ready [] ≡ true → (buffer : List ℕ) (line : Line) (pieces : List (List ℕ)) → WritesLines answer ready buffer line pieces (written answer buffer line pieces)
  unfolding written
  writes_some ready e buffer line [] = ends
  writes_some ready e buffer line (piece ∷ pieces) = steps_through ready e pieces (λ b l. writes_some ready e b l pieces) (length piece) buffer line piece (omega arith)

  writes_all : (room : ℕ) (made : List ℕ) (ls : List (List ℕ)) → foldl (writes answer) made (map (held room) ls) ≡ made ++ flat_map (λ l. answer (held room l) ++ (line_end ∷ [])) ls
  unfolding flat_map
  writes_all room made [] = sym (append-nil made)
  writes_all room made (l ∷ ls) =
      writes_all room (writes answer made (held room l)) ls
      ∙ append_assoc made (answer (held room l) ++ (line_end ∷ [])) (flat_map (λ l. answer (held room l) ++ (line_end ∷ [])) ls)

  -- it writes its output
  pub written_anyhow : (buffer : List ℕ) (pieces : List (List ℕ)) → written answer buffer no_line pieces ≡ output answer (length buffer) (flatten pieces)
  unfolding run_over handled output
  written_anyhow buffer pieces =
      sym (written_behind [] buffer no_line pieces)
      ∙ cut_anyhow (writes answer) buffer [] pieces
      ∙ writes_all (length buffer) [] (lines_of (flatten pieces))

  pub writes_anyhow : {ready : List ℕ → Bool} {buffer : List ℕ} {pieces : List (List ℕ)} {t : List ℕ} → WritesLines answer ready buffer no_line pieces t → t ≡ output answer (length buffer) (flatten pieces)
  writes_anyhow {buffer} {pieces} w = writes_written w ∙ written_anyhow buffer pieces
