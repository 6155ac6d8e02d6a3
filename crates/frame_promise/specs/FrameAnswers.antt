-- Change request 1: the answer of a text, what one call gives, and a stream that is fed by calls.
use Rattle.std.specs.Prelude.{ℕ, ◌≤◌, ◌≡◌, true, false, List, [], ◌∷◌, ◌++◌, length, take, drop}
use Rattle.std.proofs.Math.Option.{Option, none, some}
use Rattle.record.specs.declared.HgvsVariant.{HgvsVariant}
use Rattle.grammar.specs.Texts.{all_letters}
use Rattle.promise.specs.Outcome.{Outcome, Outcome.refused, limit}
use Rattle.promise.specs.Reading.{Reads}
use Rattle.lines.specs.Lines.{Held, Held.whole, Held.too_long}
use Rattle.frames.specs.declared.FrameState.{FrameState}
use Rattle.frames.specs.Frames.{text_of}
use Rattle.frames.specs.Taking.{fresh, Standing, Took, takes, gathered}

abbrev pub Answer : Type 0
Answer = Outcome HgvsVariant

-- the answer of the text that has the lines ls: 8 for one with a bad line, before 1, 2 and 3; else what reading it whole gives
pub data TextAnswer (ls : List (List ℕ)) : Answer → Type 0 where
  bad_line : text_of ls ≡ none → TextAnswer ls (refused 8 0)
  read : {t : List ℕ} {o : Answer} → text_of ls ≡ some t → Reads all_letters t o → TextAnswer ls o

-- the reply at an empty line: the answer, and the bytes at the buffer's front
pub record Reply : Type 0 where
  pub answer : Answer
  pub front : List ℕ

-- they are the text's, where the buffer holds it, so that the answer's spans and its place are of them
pub record TextReply (ls : List (List ℕ)) (r : Reply) : Type 0 where
  pub answers : TextAnswer ls r.answer
  pub fronts : (t : List ℕ) → text_of ls ≡ some t → length t ≤ limit → r.front ≡ t

-- every text has its reply
pub data AllReplied : List (List (List ℕ)) → List Reply → Type 0 where
  no_text : AllReplied [] []
  next_text : {ls : List (List ℕ)} {r : Reply} {texts : List (List (List ℕ))} {rs : List Reply} → TextReply ls r → AllReplied texts rs → AllReplied (ls ∷ texts) (r ∷ rs)

-- ---- one call
-- the answer of what is gathered of a text
pub data Says : Option Held → Answer → Type 0 where
  says_bad : Says none (refused 8 0)
  says_long : Says (some too_long) (refused 1 0)
  says_read : {t : List ℕ} {o : Answer} → Reads all_letters t o → Says (some (whole t)) o

-- behind an empty line the answer, and nothing has come of the next text; else no answer
pub data Gives (t : Took) : Option Answer → FrameState → Type 0 where
  silent : t.ended ≡ false → Gives t none t.at.state
  answered : {o : Answer} → t.ended ≡ true → Says (gathered t.at) o → Gives t (some o) fresh

-- what a call with a piece and a buffer of 4,096 bytes gives: how many bytes it took, how many of the text are at the buffer's front, the
-- answer, and where the stream stands
pub record Feeds (g : Standing) (piece : List ℕ) (used len : ℕ) (answer : Option Answer) (after : Standing) : Type 0 where
  pub room_is : length g.buffer ≡ limit
  pub used_is : used ≡ (takes g piece).used
  pub len_is : len ≡ (takes g piece).at.state.len
  pub gives : Gives (takes g piece) answer after.state
  pub buffer_is : after.buffer ≡ (takes g piece).at.buffer

-- ---- a stream
-- a call's reply, where it answers
abbrev pub replies : Option Answer → ℕ → Standing → List Reply
replies none len after = []
replies (some o) len after = record { answer = o; front = take len after.buffer } ∷ []

-- it is fed by calls: each has any front of what is left of the stream, of any size, and takes some of it
pub data Feeding : Standing → List ℕ → List Reply → Standing → Type 0 where
  done : {g : Standing} → length g.buffer ≡ limit → Feeding g [] [] g
  call : {g after end : Standing} (piece rest : List ℕ) {used len : ℕ} {answer : Option Answer} {more : List Reply}
      → Feeds g piece used len answer after → Feeding after (drop used piece ++ rest) more end → Feeding g (piece ++ rest) (replies answer len after ++ more) end
