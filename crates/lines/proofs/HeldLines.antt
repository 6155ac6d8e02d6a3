-- Lines of an input that is put together, and what a buffer holds of a line that grows.
use Rattle.std.specs.Prelude.{ℕ, ◌+◌, ◌≤◌, ◌<◌, ◌≡◌, Bool, ◌||◌, List, [], ◌∷◌, ◌++◌, leb, eqb, drop}
use Rattle.std.proofs.Math.Path.{refl, sym}
use Rattle.std.proofs.Common.{ap, ◌∙◌, arith, length-append, length-take-le}
use Rattle.std.proofs.Math.Bool.{true, false, cond}
use Rattle.std.proofs.Math.Dec.{ltb}
use Rattle.std.proofs.Math.ListN.{length, take}
use Rattle.std.proofs.Math.Seq.{take_at}
use borrow.Author.Tests.{le-leb, lt-leb, leb-true, leb-false, lt-ltb, ltb-true, ltb-false, not-true}
use Rattle.texts.proofs.Tests.{and-true}
use Rattle.texts.specs.Runs.{every, run, front}
use Rattle.texts.proofs.Runs.{run_le, front_length}
use Rattle.lent.specs.Put.{put, put_length}
use Rattle.lines.specs.declared.Line.{Line}
use Rattle.lines.specs.Lines.{line_end, lines_of, Held.whole, Held.too_long, held}
use Rattle.lines.specs.Taking.{in_line, no_line, begun, held_in, ended, used, fitting, longer, stored}
use Rattle.lines.specs.HeldLines.{Holds}

-- ---- the lines of an input: of none, of one that begins with a whole line, of one that is a line without LF
pub lines_none : lines_of [] ≡ []
unfolding lines_of
lines_none = refl

pub lines_end : (l s : List ℕ) → every in_line l ≡ true → lines_of (l ++ (line_end ∷ s)) ≡ l ∷ lines_of s
unfolding lines_of every
lines_end [] s e = refl
lines_end (b ∷ l) s e =
    let h = and-true (in_line b) (every in_line l) e in
    rw (not-true (eqb b line_end) h.0, lines_end l s h.1)

pub lines_last : (b : ℕ) (l : List ℕ) → every in_line (b ∷ l) ≡ true → lines_of (b ∷ l) ≡ (b ∷ l) ∷ []
unfolding lines_of every
lines_last b [] e = rw (not-true (eqb b line_end) (and-true (in_line b) true e).0)
lines_last b (x ∷ l) e =
    let h = and-true (in_line b) (every in_line (x ∷ l)) e in
    rw (not-true (eqb b line_end) h.0, lines_last x l h.1)

-- ---- a line that fits, and one that does not
pub held_fits : (room : ℕ) (l : List ℕ) → length l ≤ room → held room l ≡ whole l
unfolding held
held_fits room l h = rw (le-leb (length l) room h)

pub held_long : (room : ℕ) (l : List ℕ) → room < length l → held room l ≡ too_long
unfolding held
held_long room l h = rw (lt-leb (length l) room h)

pub fits_held : {room : ℕ} (l : List ℕ) {t : List ℕ} → held room l ≡ whole t → (l ≡ t) × (length l ≤ room)
unfolding held
fits_held {room} l {t} e = go (leb (length l) room) refl
  where
    go : (b : Bool) → leb (length l) room ≡ b → (l ≡ t) × (length l ≤ room)
    go true q = (cc, leb-true (length l) room q)
    go false q = absurd (let z : ◌≡◌ {A = ℕ} 0 1 = cc in omega arith)

pub long_held : {room : ℕ} (l : List ℕ) → held room l ≡ too_long → room < length l
unfolding held
long_held {room} l e = go (leb (length l) room) refl
  where
    go : (b : Bool) → leb (length l) room ≡ b → room < length l
    go false q = leb-false (length l) room q
    go true q = absurd (let z : ◌≡◌ {A = ℕ} 0 1 = cc in omega arith)

-- ---- how much of a piece is used
pub used_le : (piece : List ℕ) → used piece ≤ length piece
used_le piece = go (ended piece) refl
  where
    go : (t : Bool) → ended piece ≡ t → cond t (run in_line piece + 1) (run in_line piece) ≤ length piece
    go true e = omega (arith, ltb-true (run in_line piece) (length piece) e)
    go false e = run_le in_line piece

pub used_some : (piece : List ℕ) → 1 ≤ length piece → 1 ≤ used piece
used_some piece h = go (ended piece) refl
  where
    go : (t : Bool) → ended piece ≡ t → 1 ≤ cond t (run in_line piece + 1) (run in_line piece)
    go true e = omega arith
    go false e = omega (arith, ltb-false (run in_line piece) (length piece) e)

-- ---- the buffer with the bytes of a piece
module _ (buffer : List ℕ) (line : Line) (piece : List ℕ) (h : line.len ≤ length buffer) where
  abbrev k : ℕ
  k = fitting (length buffer) line piece

  kept_length : length (take k piece) ≡ k
  kept_length = length-take-le k piece (omega (arith, run_le in_line piece))

  pub stored_length : length (stored buffer line piece) ≡ length buffer
  unfolding stored
  stored_length = put_length buffer line.len (take k piece) (omega (arith, kept_length))

  pub longer_within : (longer (length buffer) line piece).len ≤ length (stored buffer line piece)
  longer_within = omega (arith, stored_length)

  stored_front : take (line.len + k) (stored buffer line piece) ≡ take line.len buffer ++ take k piece
  unfolding stored put
  stored_front =
      take_at (take line.len buffer ++ take k piece) (drop (line.len + length (take k piece)) buffer) (line.len + k)
      (length-append (take line.len buffer) (take k piece) ∙ simp (length-take-le line.len buffer h, kept_length))

pub holds_none : (buffer : List ℕ) → Holds buffer no_line []
holds_none buffer = record { within = omega arith; held_is = sym (held_fits (length buffer) [] (omega arith)) }

module _ (buffer : List ℕ) (line : Line) (l : List ℕ) (h : Holds buffer line l) where
  whole_length : whole (take line.len buffer) ≡ held (length buffer) l → (l ≡ take line.len buffer) × (length l ≡ line.len)
  whole_length q = let f = (fits_held l (sym q)).0 in (f, ap length f ∙ length-take-le line.len buffer h.within)

  -- it has begun where it has a byte
  pub begun_some : begun line ≡ ltb 0 (length l)
  begun_some = go line.long h.held_is
    where
      go : (t : Bool) → cond t too_long (whole (take line.len buffer)) ≡ held (length buffer) l → (t || ltb 0 line.len) ≡ ltb 0 (length l)
      go true q = sym (lt-ltb 0 (length l) (omega (arith, long_held l (sym q))))
      go false q = rw (whole_length q).1

  module _ (piece : List ℕ) where
    abbrev grown : List ℕ
    grown = l ++ front in_line piece

    grown_length : length grown ≡ length l + run in_line piece
    grown_length = length-append l (front in_line piece) ∙ ap (λ (m : ℕ). length l + m) (front_length in_line piece)

    held_more : held_in (stored buffer line piece) (longer (length buffer) line piece) ≡ held (length buffer) grown
    unfolding front
    held_more = go line.long (ltb (fitting (length buffer) line piece) (run in_line piece)) refl h.held_is
      where
        go : (t u : Bool) → ltb (fitting (length buffer) line piece) (run in_line piece) ≡ u → cond t too_long (whole (take line.len buffer)) ≡ held (length buffer) l
            → cond (t || u) too_long (whole (take (line.len + fitting (length buffer) line piece) (stored buffer line piece))) ≡ held (length buffer) grown
        go true u e q = sym (held_long (length buffer) grown (omega (arith, grown_length, long_held l (sym q))))
        go false true e q = sym (held_long (length buffer) grown (omega (arith, grown_length, (whole_length q).1, ltb-true (fitting (length buffer) line piece) (run in_line piece) e)))
        go false false e q =
            let w = whole_length q in
            let all : fitting (length buffer) line piece ≡ run in_line piece = omega (arith, ltb-false (fitting (length buffer) line piece) (run in_line piece) e) in
            rw (held_fits (length buffer) grown (omega (arith, grown_length, (fits_held l (sym q)).1)), stored_front buffer line piece h.within, all, w.0)

    pub holds_more : Holds (stored buffer line piece) (longer (length buffer) line piece) grown
    holds_more = record { within = longer_within buffer line piece h.within; held_is = rw (stored_length buffer line piece h.within) held_more }
