-- However a stream is cut into calls, the replies to its texts and its state at the end are the same.
use Rattle.std.specs.Prelude.{List, [], ◌∷◌, take}
use Rattle.frames.specs.Taking.{Standing, gathered}
use Rattle.frame_promise.specs.FrameAnswers.{Answer, Reply, Says}

-- where the stream stood at each empty line, and the reply
pub data AllSaid : List Standing → List Reply → Type 0 where
  nothing_said : AllSaid [] []
  next_said : {g : Standing} {o : Answer} {gs : List Standing} {ts : List Reply} → Says (gathered g) o → AllSaid gs ts → AllSaid (g ∷ gs) (record { answer = o; front = take g.state.len g.buffer } ∷ ts)
