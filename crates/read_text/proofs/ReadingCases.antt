-- What the answer for a whole text says, and what it tells.
use Prim.Native.Nat.{ℕ, ◌≤◌}
use mathlib.Core.Path.{◌≡◌, sym, ap, ◌∙◌}
use mathlib.Core.List.{List}
use mathlib.Core.Option.{some}
use mathlib.Core.Bool.{Bool}
use lib.ListN.{length}
use Rattle.record.specs.declared.Refusal.TheVariants.{NotInGrammar, DoesNotFit}
use Rattle.std.specs.Prelude as Prelude
use Rattle.std.specs.Prelude.{Result, Ok, Err, None, Some}
use Rattle.std.specs.Option.{ok_or}
use Rattle.record.specs.declared.Refusal.{Refusal}
use Rattle.std.proofs.lemmas.Option.{none-some, same_Some}
use Rattle.record.specs.declared.Header.{Header}
use Rattle.grammar.specs.Texts.{Text, all_letters}
use Rattle.grammar.specs.Records.{record_at}
use Rattle.grammar.specs.Numbers.{numbers_at}
use Rattle.lang.proofs.ByParsed.{by_answer}
use Rattle.lang_bodies.proofs.WholeText.{parse_text}
use Rattle.lang_bodies.proofs.Outcomes.{unfit_outcome, faultless_outcome, parsed_outcome, outcome_reads}
use Rattle.lang_bodies.specs.Settled.{settled_text}
use Rattle.lang_bodies.proofs.Settled.{is_settled, parsed_settled}
use Rattle.promise.specs.Outcome.{Outcome.refused, limit}
use Rattle.promise.specs.Reading.{tree_outcome}
use Rattle.any_body.specs.declared.AnyBody.{AnyBody}
use Rattle.any_body.specs.AnyBodies.{any_body}
use Rattle.read_scan.specs.declared.Faults.{Faults}
use Rattle.read_scan.specs.declared.Verdict.{Verdict}
use Rattle.read_scan.specs.declared.Verdict.TheVariants as Said
use Rattle.read_scan.specs.Faults.{faults, is_settled as said_settled, verdict, verdict_settled, verdict_faultless, verdict_unfit}
use Rattle.lang_na_edits.proofs.Alphabet.{alphabets}
use Rattle.read_text.specs.TextAnswers.{text_answer}
use Rattle.read_text.specs.Telling.{Tells}

pub record TextTold (s : List ℕ) (h : Header) (b : AnyBody) (f : Faults) : Type 0 where
  pub tree : Text
  pub parsed : parse_text all_letters alphabets s ≡ some tree
  pub head : (record_at 0 tree).header ≡ h
  pub body : any_body (record_at 0 tree).body ≡ b
  pub wrong : f ≡ faults (numbers_at 0 tree) (settled_text tree)

pub text_told : (s : List ℕ) (h : Header) (b : AnyBody × Faults) → Some (h, b) ≡ text_answer (parse_text all_letters alphabets s) → TextTold s h b.0 b.1
unfolding text_answer
text_told s h b e =
    by_answer text_answer (parse_text all_letters alphabets s) e (λ q z. absurd (none-some _ (sym z)))
    (λ t q z. let i = same_Some (h, b) _ z in
    record { tree = t; parsed = q; head = sym (ap (λ (p : Header × (AnyBody × Faults)). p.0) i); body = sym (ap (λ (p : Header × (AnyBody × Faults)). p.1.0) i); wrong = ap (λ (p : Header × (AnyBody × Faults)). p.1.1) i })

-- what `ok_or` makes of nothing
pub told_unread : {A : Type 0} (s : List ℕ) {o : Prelude.Option A} {e : Refusal} → o ≡ None → ◌≡◌ {A = Result A Refusal} (Err e) (ok_or o NotInGrammar) → Tells s (Err NotInGrammar) → Tells s (Err e)
told_unread {A} s {o} {e} q i t =
    let j : ◌≡◌ {A = Result A Refusal} (Err e) (Err NotInGrammar) = rw q at i in
    let k : e ≡ NotInGrammar = cc in
    rw k t

module _ (s : List ℕ) (short : length s ≤ limit) where
  pub reads_nothing : None ≡ text_answer (parse_text all_letters alphabets s) → Tells s (Err NotInGrammar)
  unfolding text_answer
  reads_nothing e =
      by_answer text_answer (parse_text all_letters alphabets s) e
      (λ q z. outcome_reads all_letters alphabets s (parsed_outcome all_letters alphabets s short q))
      (λ x q z. absurd (none-some _ z))

  module _ {h : Header} {b : AnyBody} {f : Faults} (x : TextTold s h b f) (w : Verdict) (e : w ≡ verdict f) where
    is_said : w ≡ verdict (faults (numbers_at 0 x.tree) (settled_text x.tree))
    is_said = rw x.wrong at e

    settled_is : is_settled all_letters alphabets s ≡ said_settled w
    settled_is = parsed_settled all_letters alphabets s x.tree short x.parsed ∙ rw is_said (sym (verdict_settled (numbers_at 0 x.tree) (settled_text x.tree)))

    pub reads_unfit : {place : ℕ} → w ≡ Said.DoesNotFit place → Tells s (Err (DoesNotFit place))
    reads_unfit {place} i =
        let m : tree_outcome (some x.tree) ≡ refused 3 place = unfit_outcome x.tree (verdict_unfit (numbers_at 0 x.tree) (settled_text x.tree) (sym is_said ∙ i)) in
        outcome_reads all_letters alphabets s (parsed_outcome all_letters alphabets s short x.parsed ∙ m)

    pub reads_accepted : ((place : ℕ) → w ≡ Said.DoesNotFit place → ⊥) → (settled : Bool) → settled ≡ said_settled w → Tells s (Ok (record { header = h; body = b; settled = settled }))
    reads_accepted i settled j =
        let m = faultless_outcome x.tree (verdict_faultless (numbers_at 0 x.tree) (settled_text x.tree) (λ k q. i k (is_said ∙ q))) in
        record {
          variant = record_at 0 x.tree;
          reads = outcome_reads all_letters alphabets s (parsed_outcome all_letters alphabets s short x.parsed ∙ m);
          header_is = x.head;
          body_is = x.body;
          settled_is = j ∙ sym settled_is;
        }
