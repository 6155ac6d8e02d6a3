-- A byte leaves the buffer as long as it is, and a text that lies within it goes on to.
use Rattle.std.specs.Prelude.{ℕ, ◌+◌, ◌*◌, ◌%◌, ◌≤◌, ◌≡◌, refl, Bool, cond, leb, ltb, eqb, length}
use Rattle.std.proofs.Common.{◌∙◌, arith, length-set, ltb-true, ltb-false}
use Rattle.std.proofs.Math.Bool.{true, false}
use mathlib.Core.List.{List, [], ◌∷◌, foldl}
use Rattle.std.proofs.Math.Option.{Option, none, some}
use Rattle.lines.specs.Lines.{line_end}
use Rattle.frames.specs.Frames.{digit_value}
use Rattle.frames.proofs.Bytes.{added_room, added_full}
use Rattle.frames.specs.Taking.{Standing, line_closed, spoiled, halved, closes, added, with_state, digit_taken, after_byte, Took, one_more, takes}
use Rattle.frames.specs.Room.{InRoom}

record Keeps (g h : Standing) : Type 0 where
  same_room : length h.buffer ≡ length g.buffer
  still_within : g.state.len ≤ length g.buffer → h.state.len ≤ length g.buffer

module _ (g : Standing) where
  added_keeps : (b : ℕ) → Keeps g (added g b)
  added_keeps b = go (ltb g.state.len (length g.buffer)) refl
    where
      go : (t : Bool) → ltb g.state.len (length g.buffer) ≡ t → Keeps g (added g b)
      go true e =
          let k = ltb-true g.state.len (length g.buffer) e in
          rw (added_room g b k) (record { same_room = length-set g.buffer g.state.len b; still_within = λ h. omega arith })
      go false e = rw (added_full g b (ltb-false g.state.len (length g.buffer) e)) (record { same_room = refl; still_within = λ h. h })

  digit_keeps : (o : Option ℕ) → Keeps g (digit_taken g o)
  unfolding digit_taken
  digit_keeps none = record { same_room = refl; still_within = λ h. h }
  digit_keeps (some v) = go g.state.bad (leb 64 g.state.digits) (eqb (g.state.digits % 2) 0)
    where
      go : (t u w : Bool)
          → Keeps g (cond t (with_state g (spoiled g.state)) (cond u (with_state g (spoiled g.state)) (cond w (with_state g (halved g.state v)) (added g (g.state.high % 16 * 16 + v)))))
      go true u w = record { same_room = refl; still_within = λ h. h }
      go false true w = record { same_room = refl; still_within = λ h. h }
      go false false true = record { same_room = refl; still_within = λ h. h }
      go false false false = added_keeps (g.state.high % 16 * 16 + v)

  byte_keeps : (b : ℕ) → Keeps g (after_byte g b)
  unfolding after_byte
  byte_keeps b = go (eqb b line_end)
    where
      go : (t : Bool) → Keeps g (cond t (with_state g (line_closed g.state)) (digit_taken g (digit_value b)))
      go true = record { same_room = refl; still_within = λ h. h }
      go false = digit_keeps (digit_value b)

keeps_fits : {room : ℕ} {g h : Standing} → Keeps g h → InRoom room g → InRoom room h
keeps_fits k f = record { room_is = k.same_room ∙ f.room_is; within = rw f.room_is at k.still_within f.within }

pub added_fits : {room : ℕ} (g : Standing) (b : ℕ) → InRoom room g → InRoom room (added g b)
added_fits g b = keeps_fits (added_keeps g b)

pub bytes_fit : {room : ℕ} (g : Standing) → InRoom room g → (s : List ℕ) → InRoom room (foldl after_byte g s)
bytes_fit g f [] = f
bytes_fit g f (b ∷ s) = bytes_fit (after_byte g b) (keeps_fits (byte_keeps g b) f) s

pub takes_room : (g : Standing) (p : List ℕ) → length (takes g p).at.buffer ≡ length g.buffer
unfolding takes
takes_room g [] = refl
takes_room g (b ∷ s) = go (closes g.state b) (takes_room (after_byte g b) s)
  where
    go : (t : Bool) → length (takes (after_byte g b) s).at.buffer ≡ length (after_byte g b).buffer
        → length (cond {A = Took} t (record { used = 1; ended = true; at = g }) (one_more (takes (after_byte g b) s))).at.buffer ≡ length g.buffer
    go true e = refl
    go false e = e ∙ (byte_keeps g b).same_room
