-- No second answer of a call fits.
use Rattle.std.specs.Prelude as Prelude
use Rattle.std.specs.Prelude.{ℕ, ◌≡◌, refl, List, None, Some}
use Rattle.record.specs.Named.{ReadAnswer}
use Rattle.std.proofs.Common.{sym, ap}
use Rattle.texts.proofs.Tests.{none_some}
use Rattle.promise.proofs.Unique.{same_read}
use Rattle.frames.specs.declared.FrameState.{FrameState}
use Rattle.frames.specs.Taking.{Standing}
use Rattle.frame_promise.specs.FrameAnswers.{Feeds}
use Rattle.frame_promise.proofs.OneAnswer.{one_call}
use Rattle.frame_reader.specs.declared.Fed.{Fed}
use Rattle.frame_reader.specs.FrameOutcome.{frame_outcome}

same_answer : (a b : Prelude.Option ReadAnswer) → frame_outcome a ≡ frame_outcome b → a ≡ b
same_answer None None e = refl
same_answer None (Some r) e = absurd (none_some e)
same_answer (Some r) None e = absurd (none_some (sym e))
same_answer (Some r) (Some s) e = ap Some (same_read r s (cc))

-- the contract of `feed`
abbrev pub Contract : Standing → List ℕ → Fed → List ℕ → Type 0
Contract g piece r buffer = Feeds g piece r.used r.len (frame_outcome r.answer) (record { state = r.state; buffer = buffer })

same_fed : {m n k l : ℕ} {s u : FrameState} {a b : Prelude.Option ReadAnswer} → m ≡ n → k ≡ l → s ≡ u → a ≡ b → ◌≡◌ {A = Fed} (record { used = m; len = k; state = s; answer = a }) (record { used = n; len = l; state = u; answer = b })
same_fed p q r s = rw (p, q, r, s)

pub one_fed : (g : Standing) (piece : List ℕ) (a b : Fed) (x y : List ℕ) → Contract g piece a x → Contract g piece b y → (a ≡ b) × (x ≡ y)
one_fed g piece a b x y p q =
    let c = one_call p q in
    (same_fed c.0 c.1 (ap (λ (z : Standing). z.state) c.3) (same_answer a.answer b.answer c.2), ap (λ (z : Standing). z.buffer) c.3)
