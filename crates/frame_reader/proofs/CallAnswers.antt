-- From the tests on a text to its answer, and from what the parts of a call give to what it gives.
use Prim.Native.Nat.{ℕ, ◌≤◌, ◌<◌}
use mathlib.Core.Path.{◌≡◌, sym, ap, ◌∙◌}
use mathlib.Core.Bool.{true, false, ◌||◌}
use mathlib.Core.List.{List}
use mathlib.Core.Option.{Option, none, some}
use lib.Dec.{ltb}
use lib.ListN.{length, take}
use borrow.Author.Tests.{lt-ltb, le-ltb}
use Rattle.texts.proofs.Tests.{left_or, right_or}
use Rattle.record.specs.declared.Refusal.TheVariants.{TooLong, BadLine}
use Rattle.record.specs.Named.{ReadAnswer}
use Rattle.grammar.specs.Texts.{all_letters}
use Rattle.promise.specs.Outcome.{read_outcome, limit}
use Rattle.promise.specs.Reading.{Reads}
use Rattle.frames.specs.declared.FrameState.{FrameState}
use Rattle.frames.specs.declared.FrameTaken.{FrameTaken}
use Rattle.frames.specs.Taking.{fresh, Standing, takes, told, gathered}
use Rattle.frame_promise.specs.FrameAnswers.{Answer, Says.says_bad, Says.says_long, Says.says_read, Gives, Gives.silent, Gives.answered, Feeds}
use Rattle.std.specs.Prelude.{Some, Err}
use Rattle.frame_reader.specs.FrameOutcome.{frame_outcome, AnswersText}

-- ---- the answer of a text
module _ (g : Standing) where
  pub answers_bad : g.state.bad ≡ true → AnswersText g (Err BadLine)
  unfolding gathered
  answers_bad e = rw e says_bad

  module _ (good : g.state.bad ≡ false) where
    not_held : g.state.long || ltb (length g.buffer) g.state.len ≡ true → AnswersText g (Err TooLong)
    unfolding gathered
    not_held e = rw (good, e) says_long

    pub answers_long : g.state.long ≡ true → AnswersText g (Err TooLong)
    answers_long e = not_held (left_or (ltb (length g.buffer) g.state.len) e)

    pub answers_outside : length g.buffer < g.state.len → AnswersText g (Err TooLong)
    answers_outside h = not_held (right_or g.state.long (lt-ltb (length g.buffer) g.state.len h))

    pub answers_read : g.state.long ≡ false → g.state.len ≤ length g.buffer → (r : ReadAnswer) → Reads all_letters (take g.state.len g.buffer) (read_outcome r) → AnswersText g r
    unfolding gathered
    answers_read e h r reads = rw (good, e, le-ltb (length g.buffer) g.state.len h) (says_read reads)

-- ---- a call
module _ (g : Standing) (room : length g.buffer ≡ limit) (piece : List ℕ) {r : FrameTaken} {buffer : List ℕ} (took : (r ≡ told (takes g piece)) × (buffer ≡ (takes g piece).at.buffer)) where
  stands : ◌≡◌ {A = Standing} (record { state = r.state; buffer = buffer }) (takes g piece).at
  stands = rw (took.0, took.1)

  -- whatever the answer and the state are
  feeds : {a : Option Answer} {s : FrameState} → Gives (takes g piece) a s → Feeds g piece r.used r.state.len a (record { state = s; buffer = buffer })
  feeds gives =
      record {
        room_is = room;
        used_is = ap (λ (x : FrameTaken). x.used) took.0;
        len_is = ap (λ (x : FrameTaken). x.state.len) took.0;
        gives = gives;
        buffer_is = took.1;
      }

  pub fed_silent : r.ended ≡ false → Feeds g piece r.used r.state.len none (record { state = r.state; buffer = buffer })
  fed_silent e = feeds (rw (ap (λ (x : FrameTaken). x.state) took.0) (silent (sym (ap (λ (x : FrameTaken). x.ended) took.0) ∙ e)))

  pub fed_answered : r.ended ≡ true → (a : ReadAnswer) → AnswersText (record { state = r.state; buffer = buffer }) a → {s : FrameState} → s ≡ fresh
      → Feeds g piece r.used r.state.len (frame_outcome (Some a)) (record { state = s; buffer = buffer })
  fed_answered e a answer start = feeds (rw start (answered (sym (ap (λ (x : FrameTaken). x.ended) took.0) ∙ e) (rw stands at answer)))

-- the same, of a call's arguments one by one and of whatever is the answer
module _ (state : FrameState) (buffer piece : List ℕ) {r : FrameTaken} {after : List ℕ} where
  pub call_answered : length buffer ≡ limit → (r ≡ told (takes (record { state = state; buffer = buffer }) piece)) × (after ≡ (takes (record { state = state; buffer = buffer }) piece).at.buffer)
      → r.ended ≡ true → (a : ReadAnswer) → AnswersText (record { state = r.state; buffer = after }) a → {s : FrameState} → s ≡ fresh → {o : Option Answer} → o ≡ some (read_outcome a)
      → Feeds (record { state = state; buffer = buffer }) piece r.used r.state.len o (record { state = s; buffer = after })
  call_answered room took e a answer start same = rw same (fed_answered (record { state = state; buffer = buffer }) room piece took e a answer start)
