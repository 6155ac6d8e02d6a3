-- What a byte makes of a text, test by test.
use Rattle.std.specs.Prelude.{ℕ, ◌+◌, ◌*◌, ◌%◌, ◌≤◌, ◌<◌, ◌≡◌, refl, Bool, true, false, cond, not, ◌||◌, leb, eqb, length, set}
use Rattle.std.proofs.Common.{◌∙◌, le-leb, lt-ltb, le-ltb, eq-eqb, ne_eqb}
use Rattle.std.proofs.Math.Option.{Option, none, some}
use Rattle.std.proofs.lemmas.Bool.{lt-leb}
use Rattle.texts.proofs.Tests.{right_or}
use Rattle.lines.specs.Lines.{line_end}
use Rattle.frames.specs.declared.FrameState.{FrameState}
use Rattle.frames.specs.Frames.{digit_value}
use Rattle.frames.specs.Taking.{Standing, line_closed, spoiled, halved, added, with_state, digit_taken, after_byte}

-- a test and what it picks
module _ {A : Type 0} (t : Bool) (x y : A) where
  holds : t ≡ true → cond t x y ≡ x
  holds e = rw e

  fails : t ≡ false → cond t x y ≡ y
  fails e = rw e

pub or_false : (t : Bool) {u : Bool} → u ≡ false → t || u ≡ t
or_false true e = refl
or_false false e = e

-- ---- the end of a line
module _ (s : FrameState) where
  closed_as : {t : Bool} → s.bad || not (eqb (s.digits % 2) 0) ≡ t → line_closed s ≡ record { len = s.len; long = s.long; bad = t; digits = 0; high = 0 }
  closed_as e = rw e

  pub closed_even : s.digits % 2 ≡ 0 → line_closed s ≡ record { len = s.len; long = s.long; bad = s.bad; digits = 0; high = 0 }
  closed_even e = closed_as (or_false s.bad (rw (eq-eqb (s.digits % 2) 0 e)))

  pub closed_odd : (s.digits % 2 ≡ 0 → ⊥) → line_closed s ≡ record { len = s.len; long = s.long; bad = true; digits = 0; high = 0 }
  closed_odd n = closed_as (right_or s.bad (rw (ne_eqb (s.digits % 2) 0 n)))

module _ (g : Standing) (b : ℕ) where
  -- ---- a byte that the buffer has room for, and one that it has not
  pub added_room : g.state.len < length g.buffer
      → added g b ≡ record { state = record { len = g.state.len + 1; long = g.state.long; bad = g.state.bad; digits = g.state.digits + 1; high = 0 }; buffer = set g.buffer g.state.len b }
  unfolding added
  added_room h = holds _ _ _ (lt-ltb g.state.len (length g.buffer) h)

  pub added_full : length g.buffer ≤ g.state.len
      → added g b ≡ record { state = record { len = g.state.len; long = true; bad = g.state.bad; digits = g.state.digits + 1; high = 0 }; buffer = g.buffer }
  unfolding added
  added_full h = fails _ _ _ (le-ltb g.state.len (length g.buffer) h)

  -- ---- a byte that is no empty line
  pub after_end : b ≡ line_end → after_byte g b ≡ with_state g (line_closed g.state)
  unfolding after_byte
  after_end e = rw (eq-eqb b line_end e)

  module _ (inside : b ≡ line_end → ⊥) where
    after_digit : (o : Option ℕ) → digit_value b ≡ o → after_byte g b ≡ digit_taken g o
    unfolding after_byte
    after_digit o e = rw (ne_eqb b line_end inside, e)

    pub after_other : digit_value b ≡ none → after_byte g b ≡ with_state g (spoiled g.state)
    unfolding digit_taken
    after_other e = after_digit none e

    module _ {v : ℕ} (digit : digit_value b ≡ some v) where
      pub after_bad : g.state.bad ≡ true → after_byte g b ≡ with_state g (spoiled g.state)
      unfolding digit_taken
      after_bad e = after_digit (some v) digit ∙ holds g.state.bad _ _ e

      module _ (good : g.state.bad ≡ false) where
        pub after_full : 64 ≤ g.state.digits → after_byte g b ≡ with_state g (spoiled g.state)
        unfolding digit_taken
        after_full h = after_digit (some v) digit ∙ fails g.state.bad _ _ good ∙ holds (leb 64 g.state.digits) _ _ (le-leb 64 g.state.digits h)

        module _ (room : g.state.digits < 64) where
          digit_room : after_byte g b ≡ cond (eqb (g.state.digits % 2) 0) (with_state g (halved g.state v)) (added g (g.state.high % 16 * 16 + v))
          unfolding digit_taken
          digit_room = after_digit (some v) digit ∙ fails g.state.bad _ _ good ∙ fails (leb 64 g.state.digits) _ _ (lt-leb 64 g.state.digits room)

          pub after_first : g.state.digits % 2 ≡ 0 → after_byte g b ≡ with_state g (halved g.state v)
          after_first e = digit_room ∙ holds (eqb (g.state.digits % 2) 0) _ _ (eq-eqb (g.state.digits % 2) 0 e)

          pub after_second : (g.state.digits % 2 ≡ 0 → ⊥) → after_byte g b ≡ added g (g.state.high % 16 * 16 + v)
          after_second n = digit_room ∙ fails (eqb (g.state.digits % 2) 0) _ _ (ne_eqb (g.state.digits % 2) 0 n)
