-- What writing a text answers and leaves.
use Rattle.std.specs.Prelude.{ℕ, ◌≤◌, ◌<◌, ◌≡◌, refl, List, ◌++◌, cond, leb, length, drop, Ok, Err}
use borrow.Author.Tests.{le-leb, lt-leb}
use Rattle.lent.specs.Put.{put, put_front}
use Rattle.record.specs.declared.Refusal.TheVariants.{TooLong, NoRoom}
use Rattle.record.specs.Named.{WriteAnswer}

-- the text t, of at most 4,096 bytes, where the output has room for it
unfoldable pub answered : List ℕ → List ℕ → WriteAnswer
answered t output = cond (leb (length t) 4096) (cond (leb (length t) (length output)) (Ok (length t)) (Err NoRoom)) (Err TooLong)

unfoldable pub left : List ℕ → List ℕ → List ℕ
left t output = cond (leb (length t) 4096) (cond (leb (length t) (length output)) (t ++ drop (length t) output) output) output

module _ (t output : List ℕ) where
  pub too_long : 4096 < length t → (Err TooLong ≡ answered t output) × (output ≡ left t output)
  unfolding answered left
  too_long h = rw (lt-leb (length t) 4096 h) (refl, refl)

  pub no_room : length t ≤ 4096 → length output < length t → (Err NoRoom ≡ answered t output) × (output ≡ left t output)
  unfolding answered left
  no_room h k = rw (le-leb (length t) 4096 h, lt-leb (length t) (length output) k) (refl, refl)

  pub written : length t ≤ 4096 → length t ≤ length output → (Ok (length t) ≡ answered t output) × (put output 0 t ≡ left t output)
  unfolding answered left
  written h k = rw (le-leb (length t) 4096 h, le-leb (length t) (length output) k) (refl, put_front output t)
