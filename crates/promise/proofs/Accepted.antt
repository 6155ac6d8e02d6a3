-- An accepted text reads as the content of its record, which no check on source and record refuses.
use Rattle.std.specs.Prelude.{ℕ, List, Bool}
use Rattle.std.proofs.Common.{sym}
use Rattle.record.specs.declared.Kind.{Kind}
use Rattle.record.specs.declared.HgvsVariant.{HgvsVariant}
use Rattle.grammar.specs.Contents.{content}
use Rattle.grammar.proofs.ContentLaw.{content_is}
use Rattle.grammar.proofs.SpanLaw.{spans_in_text}
use Rattle.promise.specs.Outcome.{Outcome.given}
use Rattle.promise.specs.Reading.{Reads, Reads.accepted}
use Rattle.promise.specs.Writing.{ReadsAsValue, Sound}

pub reads_content : (letters : Kind → ℕ → Bool) (t : List ℕ) (v : HgvsVariant) → Reads letters t (given v) → ReadsAsValue letters t (content t v)
reads_content letters t v (accepted short x tree fits) = record { tree = x; wf = tree.wf; fits = fits; text = tree.text; means = sym (rw tree.text at (content_is x)) }

pub accepted_sound : (letters : Kind → ℕ → Bool) (t : List ℕ) (v : HgvsVariant) → Reads letters t (given v) → Sound letters t v
accepted_sound letters t v (accepted short x tree fits) =
    record { short = short; inside = rw tree.text at (spans_in_text x); text = t; reads = reads_content letters t v (accepted short x tree fits) }
