-- The search for LF, and from what the parts of `take` give to what it gives.
use Prim.Native.Nat.{ℕ, zero, suc, ◌+◌, ◌-◌, ◌≤◌, ◌<◌, min}
use mathlib.Core.Path.{◌≡◌, refl, sym, ap, ◌∙◌}
use mathlib.Core.Bool.{Bool, true, false, cond, ◌&&◌, ◌||◌, and-true}
use mathlib.Core.List.{List, ◌++◌}
use native.Mathlib.Omega.{arith}
use native.Mathlib.Numerals.{add-one}
use lib.Dec.{ltb}
use lib.ListN.{length, get_or, take, drop, length-append, length-drop, drop_of_length-le}
use lib.Seq.{length-take-le, take-take, drop-cons, drop-drop, drop_at}
use Rattle.std.specs.List.{AllWithin, HoldsAt}
use Rattle.std.specs.Prelude.{Option}
use Rattle.std.specs.Option.{MatchOption, unwrap_or}
use Rattle.std.proofs.lemmas.Iterator.{index_from_first}
use Rattle.texts.specs.Runs.{every, run}
use Rattle.texts.proofs.Runs.{run_le, run_append}
use Rattle.lent.specs.Put.{put, put_none}
use Rattle.lines.specs.declared.Line.{Line}
use Rattle.lines.specs.Taking.{in_line, fitting, taken, stored}

-- ---- every byte, as a loop goes that does not stop
module _ (p : ℕ → Bool) (s : List ℕ) (i : ℕ) (sofar : Bool) where
  pub every_more : i < length s → sofar && every p (drop i s) ≡ (sofar && p (get_or s i 0)) && every p (drop (i + 1) s)
  unfolding every
  every_more h = rw (add-one, drop-cons s i 0) (go sofar)
    where
      go : (t : Bool) → t && (p (get_or s i 0) && every p (drop (suc i) s)) ≡ (t && p (get_or s i 0)) && every p (drop (suc i) s)
      go true = refl
      go false = refl

  pub every_end : length s ≤ i → sofar && every p (drop i s) ≡ sofar
  unfolding every
  every_end h = rw (drop_of_length-le s h) (and-true sofar)

-- a block of m bytes that pass, in front of what is left behind i bytes
pub run_block : (p : ℕ → Bool) (s : List ℕ) (i m : ℕ) (block left : List ℕ) → i ≤ length s → drop i s ≡ block ++ left → length block ≡ m → every p block ≡ true
    → (i + m ≤ length s) × (i + run p (drop i s) ≡ i + m + run p (drop (i + m) s)) × (left ≡ drop (i + m) s)
run_block p s i m block left h split long all =
    let behind : left ≡ drop (i + m) s = sym (drop_at block left m long) ∙ ap (drop m) (sym split) ∙ drop-drop m i s in
    let both : run p (drop i s) ≡ length block + run p left = ap (run p) split ∙ run_append p block left all in
    let same : run p left ≡ run p (drop (i + m) s) = ap (run p) behind in
    (omega (arith, length-drop i s, ap length split, length-append block left), omega arith, behind)

-- the first byte that does not pass, as the library finds it
pub run_from_first : (p : ℕ → Bool) (s : List ℕ) (r : Option ℕ)
    → MatchOption r (AllWithin (λ b. p b ≡ true) s 0 (length s)) (λ i. (i < length s) × HoldsAt (λ b. p b ≡ false) s i × AllWithin (λ b. p b ≡ true) s 0 i) → run p s ≡ unwrap_or r (length s)
unfolding run
run_from_first p s r found = index_from_first (run p) (λ b. p b ≡ false) (λ b. p b ≡ true) refl (λ b t e. rw e) (λ b t e. rw (e, add-one)) s r found

-- ---- no byte of a text is written
pub put_nothing : (buffer : List ℕ) (at : ℕ) (text : List ℕ) (n : ℕ) → n ≤ 0 → buffer ≡ put buffer at (take n text)
put_nothing buffer at text zero h = sym (put_none buffer at)
put_nothing buffer at text (suc n) h = absurd (omega arith)

-- ---- `take`: n bytes stand before the end of the line, and k of them fit
pub took : (buffer : List ℕ) (line : Line) (piece : List ℕ) {n k used : ℕ} {after : List ℕ} {long : Bool} → n ≡ run in_line piece
    → (k ≡ min (length (take n piece)) (length buffer - line.len)) × (after ≡ put buffer line.len (take k (take n piece)))
    → long ≡ (line.long || ltb k n) → used ≡ cond (ltb n (length piece)) (n + 1) n
    → (record { used = used; complete = ltb n (length piece); line = record { len = line.len + k; long = long } } ≡ taken (length buffer) line piece) × (after ≡ stored buffer line piece)
unfolding taken stored
took buffer line piece {n} {k} e s l u =
    let part : length (take n piece) ≡ n = length-take-le n piece (omega (arith, run_le in_line piece)) in
    let fits : k ≡ fitting (length buffer) line piece = omega (arith, s.0) in
    (rw (u, l, fits, e), s.1 ∙ rw (take-take k n piece (omega (arith, s.0)), fits))
