-- What is told of a text, as what reading it answers.
use Prim.Native.Nat.{ℕ}
use mathlib.Core.Path.{◌≡◌, sym, ap, ◌∙◌}
use mathlib.Core.List.{List}
use Rattle.record.specs.declared.Body.{Body}
use Rattle.grammar.specs.Texts.{all_letters}
use Rattle.promise.specs.Outcome.{Outcome.given}
use Rattle.promise.specs.Reading.{Reads}
use Rattle.any_body.specs.RecordBodies.{record_body, record_any}
use Rattle.read_text.specs.declared.Reading.{Reading}
use Rattle.read_text.specs.Telling.{ReadAs}

pub reads_as : (t : List ℕ) (r : Reading) (body : Body) → body ≡ record_body r.body → ReadAs t r.header r.body r.settled → Reads all_letters t (given (record { header = r.header; body = body }))
reads_as t r body made x =
    let i : record_body r.body ≡ x.variant.body = ap record_body (sym x.body_is) ∙ record_any x.variant.body in
    rw (made, i, ← x.header_is) x.reads
