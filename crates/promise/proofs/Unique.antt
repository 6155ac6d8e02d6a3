-- No second answer fits.
use Rattle.std.specs.Prelude.{ℕ, ◌≡◌, refl, List, ◌++◌, Bool, cond, eqb, length, drop, Ok, Err}
use Rattle.std.proofs.Common.{sym, ap, ◌∙◌, arith}
use Rattle.std.proofs.Math.Option.{some}
use Rattle.texts.proofs.Tests.{clash, none_some}
use Rattle.record.specs.declared.Kind.{Kind}
use Rattle.record.specs.declared.Kind.TheVariants.{Cds, Genome, Mt, Tx, Prot, Rna}
use Rattle.record.specs.declared.HgvsVariant.{HgvsVariant}
use Rattle.record.specs.declared.Refusal.{Refusal}
use Rattle.record.specs.declared.Refusal.TheVariants.{TooLong, NotInGrammar, DoesNotFit, BadSpan, NoText, NoRoom, NoWidth, BadLine}
use Rattle.record.specs.Named.{ReadAnswer, WriteAnswer, WidthAnswer}
use Rattle.grammar.specs.Header.{print_header, WfHeader}
use Rattle.grammar.specs.Shapes.{Both.both}
use Rattle.grammar.specs.Bodies.{print_location, WfLocation}
use Rattle.grammar.specs.Texts.{Text, print, Wf}
use Rattle.grammar.specs.Values.{HeaderV, NaBodyV, Value, Value.value}
use Rattle.grammar.specs.Meaning.{meaning, meaning_header, meaning_ends, map_mu}
use Rattle.grammar.specs.Numbers.{Faultless, mu_numbers, ends_numbers, numbers_at, FaultlessText}
use Rattle.grammar.proofs.NumberLaws.{faultless_fits}
use Rattle.grammar.specs.Records.{record_at}
use Rattle.grammar.proofs.OneReading.{best_unique}
use Rattle.promise.specs.Outcome.{Outcome, Outcome.given, Outcome.refused, number_and_place, read_outcome, write_outcome, width_outcome}
use Rattle.promise.specs.Reading.{TreeOf, Reads, Reads.too_long, Reads.not_in_grammar, Reads.does_not_fit, Reads.accepted}
use Rattle.promise.specs.Writing.{Sound, Unsound, Unsound.too_long, Unsound.bad_span, Unsound.no_text, Writes, ToWrite}
use Rattle.promise.specs.NoRef.{NaNoRef, NoRefText}
use Rattle.promise.specs.Width.{Measures, Measures.unsound, Measures.no_width, Measures.measured}

-- ---- number and place determine the refusal: it is found from them
called : ℕ → ℕ → Refusal
called n place =
    cond (eqb n 1) TooLong
    (cond (eqb n 2) NotInGrammar
    (cond (eqb n 3) (DoesNotFit place)
    (cond (eqb n 4) BadSpan
    (cond (eqb n 5) NoText
    (cond (eqb n 6) NoRoom
    (cond (eqb n 7) NoWidth BadLine))))))

refusal_called : (r : Refusal) → called (number_and_place r).0 (number_and_place r).1 ≡ r
unfolding called
refusal_called TooLong = refl
refusal_called NotInGrammar = refl
refusal_called (DoesNotFit place) = refl
refusal_called BadSpan = refl
refusal_called NoText = refl
refusal_called NoRoom = refl
refusal_called NoWidth = refl
refusal_called BadLine = refl

-- and the outcome the answer, by how it is made of what is given or of a refusal
module _ {A B : Type 0} (ofGiven : A → B) (ofRefusal : Refusal → B) where
  answer_of : Outcome A → B
  answer_of (given a) = ofGiven a
  answer_of (refused n place) = ofRefusal (called n place)

  injective : (outcome : B → Outcome A) → ((b : B) → answer_of (outcome b) ≡ b) → (b c : B) → outcome b ≡ outcome c → b ≡ c
  injective outcome back b c e = sym (back b) ∙ ap answer_of e ∙ back c

read_back : (a : ReadAnswer) → answer_of Ok Err (read_outcome a) ≡ a
unfolding answer_of
read_back (Ok v) = refl
read_back (Err r) = ap Err (refusal_called r)

write_back : (a : WriteAnswer) → answer_of Ok Err (write_outcome a) ≡ a
unfolding answer_of
write_back (Ok n) = refl
write_back (Err r) = ap Err (refusal_called r)

width_back : (a : WidthAnswer) → answer_of Ok Err (width_outcome a) ≡ a
unfolding answer_of
width_back (Ok n) = refl
width_back (Err r) = ap Err (refusal_called r)

pub same_read : (a b : ReadAnswer) → read_outcome a ≡ read_outcome b → a ≡ b
same_read = injective Ok Err read_outcome read_back

pub same_written : (a b : WriteAnswer) → write_outcome a ≡ write_outcome b → a ≡ b
same_written = injective Ok Err write_outcome write_back

pub same_width : (a b : WidthAnswer) → width_outcome a ≡ width_outcome b → a ≡ b
same_width = injective Ok Err width_outcome width_back

module _ (letters : Kind → ℕ → Bool) where
  -- ---- reading, where the grammar is unambiguous
  module _ (unambiguous : (x y : Text) → Wf letters x → Wf letters y → print x ≡ print y → x ≡ y) where
    one_tree : {t : List ℕ} (x y : Text) → TreeOf letters t x → TreeOf letters t y → x ≡ y
    one_tree x y a b = unambiguous x y a.wf b.wf (a.text ∙ sym b.text)

    pub reads_unique : (t : List ℕ) (a b : Outcome HgvsVariant) → Reads letters t a → Reads letters t b → a ≡ b
    reads_unique t a b (too_long h) (too_long k) = refl
    reads_unique t a b (too_long h) (not_in_grammar k g) = absurd (omega arith)
    reads_unique t a b (too_long h) (does_not_fit k y w q f) = absurd (omega arith)
    reads_unique t a b (too_long h) (accepted k y w f) = absurd (omega arith)
    reads_unique t a b (not_in_grammar h g) (too_long k) = absurd (omega arith)
    reads_unique t a b (not_in_grammar h g) (not_in_grammar k f) = refl
    reads_unique t a b (not_in_grammar h g) (does_not_fit k y w q f) = absurd (g y w)
    reads_unique t a b (not_in_grammar h g) (accepted k y w f) = absurd (g y w)
    reads_unique t a b (does_not_fit h x u p e) (too_long k) = absurd (omega arith)
    reads_unique t a b (does_not_fit h x u p e) (not_in_grammar k g) = absurd (g x u)
    reads_unique t a b (does_not_fit h x u p e) (does_not_fit k y w q f) = let z = one_tree x y u w in cc
    reads_unique t a b (does_not_fit h x u p e) (accepted k y w f) = let z = one_tree x y u w in let g = faultless_fits (numbers_at 0 y) f in cc
    reads_unique t a b (accepted h x u e) (too_long k) = absurd (omega arith)
    reads_unique t a b (accepted h x u e) (not_in_grammar k g) = absurd (g x u)
    reads_unique t a b (accepted h x u e) (does_not_fit k y w q f) = let z = one_tree x y u w in let g = faultless_fits (numbers_at 0 x) e in cc
    reads_unique t a b (accepted h x u e) (accepted k y w f) = ap (λ (z : Text). given (record_at 0 z)) (one_tree x y u w)

    pub one_read_answer : (t : List ℕ) (a b : ReadAnswer) → Reads letters t (read_outcome a) → Reads letters t (read_outcome b) → a ≡ b
    one_read_answer t a b x y = same_read a b (reads_unique t (read_outcome a) (read_outcome b) x y)

  -- ---- the checks on source and record
  module _ {source : List ℕ} {v : HgvsVariant} where
    one_number : (m n : ℕ) → Unsound letters source v m → Unsound letters source v n → m ≡ n
    one_number m n (Unsound.too_long h) (Unsound.too_long k) = refl
    one_number m n (Unsound.too_long h) (bad_span k q) = absurd (omega arith)
    one_number m n (Unsound.too_long h) (no_text k q f) = absurd (omega arith)
    one_number m n (bad_span h p) (Unsound.too_long k) = absurd (omega arith)
    one_number m n (bad_span h p) (bad_span k q) = refl
    one_number m n (bad_span h p) (no_text k q f) = absurd (clash q p)
    one_number m n (no_text h p e) (Unsound.too_long k) = absurd (omega arith)
    one_number m n (no_text h p e) (bad_span k q) = absurd (clash p q)
    one_number m n (no_text h p e) (no_text k q f) = refl

    not_both : (n : ℕ) → Unsound letters source v n → Sound letters source v → ⊥
    not_both n (Unsound.too_long h) s = omega (arith, s.short)
    not_both n (bad_span h p) s = clash s.inside p
    not_both n (no_text h p e) s = e s.text s.reads

  -- ---- writing, where at most one text is to be written for a value
  module _ (T : Value → List ℕ → Type 0) (one_text : (v : Value) (t u : List ℕ) → T v t → T v u → t ≡ u) (source : List ℕ) (v : HgvsVariant) (output : List ℕ) where
    pub writes_unique : (a b : Outcome ℕ) (o p : List ℕ) → Writes letters T source v output a o → Writes letters T source v output b p → (a ≡ b) × (o ≡ p)
    writes_unique a b o p (Writes.unsound m h) (Writes.unsound n k) = (ap (λ (i : ℕ). refused i 0) (one_number m n h k), refl)
    writes_unique a b o p (Writes.unsound m h) (Writes.too_long s u y k) = absurd (not_both m h s)
    writes_unique a b o p (Writes.unsound m h) (Writes.no_room s u y k l) = absurd (not_both m h s)
    writes_unique a b o p (Writes.unsound m h) (Writes.written s u y k l) = absurd (not_both m h s)
    writes_unique a b o p (Writes.too_long r t x h) (Writes.unsound n k) = absurd (not_both n k r)
    writes_unique a b o p (Writes.too_long r t x h) (Writes.too_long s u y k) = (refl, refl)
    writes_unique a b o p (Writes.too_long r t x h) (Writes.no_room s u y k l) = absurd (omega (arith, ap length (one_text _ t u x y)))
    writes_unique a b o p (Writes.too_long r t x h) (Writes.written s u y k l) = absurd (omega (arith, ap length (one_text _ t u x y)))
    writes_unique a b o p (Writes.no_room r t x h i) (Writes.unsound n k) = absurd (not_both n k r)
    writes_unique a b o p (Writes.no_room r t x h i) (Writes.too_long s u y k) = absurd (omega (arith, ap length (one_text _ t u x y)))
    writes_unique a b o p (Writes.no_room r t x h i) (Writes.no_room s u y k l) = (refl, refl)
    writes_unique a b o p (Writes.no_room r t x h i) (Writes.written s u y k l) = absurd (omega (arith, ap length (one_text _ t u x y)))
    writes_unique a b o p (Writes.written r t x h i) (Writes.unsound n k) = absurd (not_both n k r)
    writes_unique a b o p (Writes.written r t x h i) (Writes.too_long s u y k) = absurd (omega (arith, ap length (one_text _ t u x y)))
    writes_unique a b o p (Writes.written r t x h i) (Writes.no_room s u y k l) = absurd (omega (arith, ap length (one_text _ t u x y)))
    writes_unique a b o p (Writes.written r t x h i) (Writes.written s u y k l) =
        let e = one_text _ t u x y in
        (ap (λ (w : List ℕ). given (length w)) e, ap (λ (w : List ℕ). w ++ drop (length w) output) e)

    pub one_write_answer : (a b : WriteAnswer) (o p : List ℕ) → Writes letters T source v output (write_outcome a) o → Writes letters T source v output (write_outcome b) p → (a ≡ b) × (o ≡ p)
    one_write_answer a b o p x y =
        let h = writes_unique (write_outcome a) (write_outcome b) o p x y in
        (same_written a b h.0, h.1)

  -- the text that is to be written: of shortest writing, and of reference-free writing
  pub one_shortest : (v : Value) (t u : List ℕ) → ToWrite letters v t → ToWrite letters v u → t ≡ u
  one_shortest v t u x y = best_unique print (Wf letters) FaultlessText meaning t u v x y

  one_na_no_ref : (h : HeaderV) (k : Kind) (b : NaBodyV k) (t u : List ℕ) → NaNoRef h k b t → NaNoRef h k b u → t ≡ u
  one_na_no_ref h k (both l e) t u x y =
      let p : x.head ≡ y.head = best_unique print_header WfHeader (λ i. Unit) meaning_header x.head y.head h x.header_is y.header_is in
      let q : x.location ≡ y.location = best_unique (print_location k) (WfLocation k) (λ i. Faultless (mu_numbers (ends_numbers k) 0 i)) (map_mu (meaning_ends k)) x.location y.location l x.location_is y.location_is in
      x.text ∙ rw (p, q) (sym y.text)

  pub one_no_ref : (v : Value) (t u : List ℕ) → NoRefText letters v t → NoRefText letters v u → t ≡ u
  one_no_ref (value h Cds b) t u x y = one_na_no_ref h Cds b t u x y
  one_no_ref (value h Genome b) t u x y = one_na_no_ref h Genome b t u x y
  one_no_ref (value h Mt b) t u x y = one_na_no_ref h Mt b t u x y
  one_no_ref (value h Tx b) t u x y = one_na_no_ref h Tx b t u x y
  one_no_ref (value h Prot b) t u x y = one_shortest (value h Prot b) t u x y
  one_no_ref (value h Rna b) t u x y = one_na_no_ref h Rna b t u x y

  -- ---- measuring
  module _ (source : List ℕ) (v : HgvsVariant) where
    pub measures_unique : (a b : Outcome ℕ) → Measures letters source v a → Measures letters source v b → a ≡ b
    measures_unique a b (unsound m h) (unsound n k) = ap (λ (i : ℕ). refused i 0) (one_number m n h k)
    measures_unique a b (unsound m h) (no_width s f) = absurd (not_both m h s)
    measures_unique a b (unsound m h) (measured s w f) = absurd (not_both m h s)
    measures_unique a b (no_width r e) (unsound n k) = absurd (not_both n k r)
    measures_unique a b (no_width r e) (no_width s f) = refl
    measures_unique a b (no_width r e) (measured s w f) = absurd (none_some (sym e ∙ f))
    measures_unique a b (measured r u e) (unsound n k) = absurd (not_both n k r)
    measures_unique a b (measured r u e) (no_width s f) = absurd (none_some (sym f ∙ e))
    measures_unique a b (measured r u e) (measured s w f) = let z : some u ≡ some w = sym e ∙ f in cc

    pub one_width_answer : (a b : WidthAnswer) → Measures letters source v (width_outcome a) → Measures letters source v (width_outcome b) → a ≡ b
    one_width_answer a b x y = same_width a b (measures_unique (width_outcome a) (width_outcome b) x y)
