-- Reading a text tells one thing.
use Rattle.std.specs.Prelude.{ℕ, ◌≡◌, List, Bool, Result, Ok, Err}
use Rattle.std.proofs.Common.{sym, ap, ◌∙◌, arith}
use Rattle.record.specs.declared.Header.{Header}
use Rattle.record.specs.declared.HgvsVariant.{HgvsVariant}
use Rattle.record.specs.declared.Refusal.{Refusal}
use Rattle.record.specs.Named.{ReadAnswer}
use Rattle.grammar.specs.Texts.{all_letters}
use Rattle.lang_na_edits.proofs.Alphabet.{alphabets}
use Rattle.lang_bodies.proofs.WholeText.{unambiguous}
use Rattle.promise.specs.Outcome.{refusal_outcome, read_outcome}
use Rattle.promise.specs.Reading.{Reads}
use Rattle.promise.proofs.Unique.{one_read_answer}
use Rattle.any_body.specs.declared.AnyBody.{AnyBody}
use Rattle.any_body.specs.AnyBodies.{any_body}
use Rattle.read_text.specs.declared.Reading.{Reading}
use Rattle.read_text.specs.Telling.{ReadAs, Tells}

one_answer : (t : List ℕ) (a b : ReadAnswer) → Reads all_letters t (read_outcome a) → Reads all_letters t (read_outcome b) → a ≡ b
one_answer = one_read_answer all_letters (unambiguous all_letters alphabets)

module _ (t : List ℕ) where
  read_not_refused : (why : Refusal) {h : Header} {b : AnyBody} {x : Bool} → Reads all_letters t (refusal_outcome why) → ReadAs t h b x → ⊥
  read_not_refused why p q = let e = one_answer t (Err why) (Ok q.variant) p q.reads in let z : ◌≡◌ {A = ℕ} 0 1 = cc in omega arith

  same_read : {g h : Header} {a b : AnyBody} {x y : Bool} → ReadAs t g a x → ReadAs t h b y → (g ≡ h) × (a ≡ b) × (x ≡ y)
  same_read p q =
      let e = one_answer t (Ok p.variant) (Ok q.variant) p.reads q.reads in
      let v : p.variant ≡ q.variant = cc in
      (sym p.header_is ∙ ap (λ (w : HgvsVariant). w.header) v ∙ q.header_is, sym p.body_is ∙ ap (λ (w : HgvsVariant). any_body w.body) v ∙ q.body_is, p.settled_is ∙ sym q.settled_is)

  -- no second answer fits
  pub one_reading : (a b : Result Reading Refusal) → Tells t a → Tells t b → a ≡ b
  one_reading (Err r) (Err s) p q = let e = one_answer t (Err r) (Err s) p q in cc
  one_reading (Err r) (Ok b) p q = absurd (read_not_refused r p q)
  one_reading (Ok a) (Err s) p q = absurd (read_not_refused s q p)
  one_reading (Ok a) (Ok b) p q = let e = same_read p q in rw (e.0, e.1, e.2)
