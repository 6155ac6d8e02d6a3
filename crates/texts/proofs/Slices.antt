-- A part of a slice, as the borrow checker states it.
use Rattle.std.specs.Prelude.{ℕ, ◌+◌, ◌-◌, ◌≤◌, ◌≡◌, List, length, take, drop}
use Rattle.std.proofs.Common.{sym, ap, ◌∙◌, arith, length-drop, take_all, drop-drop}
use Rattle.texts.specs.Slices.{tail}

pub tail_part : (k : ℕ) (s : List ℕ) → tail k s ≡ drop k s
tail_part k s = take_all (length s - k) (drop k s) (rw length-drop (omega arith))

-- behind a front that is m long, and k bytes further on
pub tail_at : {n m : ℕ} (s : List ℕ) → n ≡ m → take (length s - n) (drop n s) ≡ drop m s
tail_at {n} s e = tail_part n s ∙ ap (λ (i : ℕ). drop i s) e

pub tail_beyond : {n m : ℕ} (k : ℕ) (s : List ℕ) → n ≡ m → take (length s - (n + k)) (drop (n + k) s) ≡ drop k (drop m s)
tail_beyond {n} k s e = tail_part (n + k) s ∙ sym (drop-drop k n s) ∙ ap (λ (i : ℕ). drop k (drop i s)) e

-- it ends where s does, so it lies within a limit too
pub tail_room : {most : ℕ} (at k : ℕ) (s : List ℕ) → at + length s ≤ most → k ≤ length s → at + k + length (take (length s - k) (drop k s)) ≤ most
tail_room at k s h l = rw (tail_part k s, length-drop k s) (omega arith)
