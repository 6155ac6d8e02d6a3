-- What is said of a part of a text by its numbers: what is found among them, else whether the part is settled.
use Rattle.std.specs.Prelude.{ℕ, ◌+◌, ◌*◌, ◌≤◌, ◌<◌, ◌≡◌, refl, List, [], ◌∷◌, ◌++◌, Bool, cond, ◌&&◌, eqb}
use Rattle.std.proofs.Math.Path.{sym}
use Rattle.std.proofs.Common.{ap, ◌∙◌, append_assoc, append-nil}
use Rattle.std.proofs.Math.Option.{Option, none as nothing, some}
use Rattle.std.proofs.Math.Bool.{true, false}
use native.Mathlib.Omega.{arith}
use Rattle.std.proofs.Math.Dec.{leb}
use Rattle.std.proofs.lemmas.Bool.{eqb-false}
use borrow.Author.Tests.{ne_eqb, eq-eqb, eqb-true, leb-true, leb-false, lt-ltb}
use Rattle.texts.proofs.Tests.{none_some, and_false, clash}
use Rattle.numerals.specs.declared.Sign.{Sign}
use Rattle.numerals.specs.Digits.{val}
use Rattle.numerals.specs.Spelling.{is_plain}
use Rattle.numerals.specs.Reading.{fits}
use Rattle.grammar.specs.Numbers.{Numeral, Numeral.numeral, leftmost_failing, misfit, not_plain, Faultless}
use Rattle.grammar.specs.NumberLaws.{every_number, is_faultless, all_plain}
use Rattle.grammar.proofs.NumberLaws.{fits_faultless}
use Rattle.read_scan.specs.declared.Faults.{Faults}
use Rattle.read_scan.specs.declared.Verdict.{Verdict}
use Rattle.read_scan.specs.declared.Verdict.TheVariants.{Settled, Unsettled, NotPlain, DoesNotFit}
use Rattle.read_scan.specs.Findings.{Finding, told, leftmost_of, nothing_in, code_of, rank_in, place_in, merged, code_append, says_leftmost, says_none_above, says_settled}

-- ---- the ranks of findings: a finding of a higher rank is told before those of lower ones
abbrev pub not_plainly : ℕ
not_plainly = 2

abbrev pub does_not_fit : ℕ
does_not_fit = 3

abbrev unplain_at : ℕ → Finding
unplain_at k = record { rank = not_plainly; place = k; above = omega arith; below = omega arith }

abbrev unfit_at : ℕ → Finding
unfit_at k = record { rank = does_not_fit; place = k; above = omega arith; below = omega arith }

-- ---- of numbers
abbrev found_unless : Bool → Finding → List Finding
found_unless true f = []
found_unless false f = f ∷ []

abbrev found_in : Numeral → List Finding
found_in (numeral place sign ds) = found_unless (is_plain sign ds) (unplain_at place) ++ found_unless (fits sign (val ds)) (unfit_at place)

abbrev findings : List Numeral → List Finding
findings [] = []
findings (n ∷ ns) = found_in n ++ findings ns

-- of a part with these numbers that is settled where nothing is found and a test holds
unfoldable pub faults : List Numeral → Bool → Faults
faults ns test = record { code = code_of (told (findings ns)) test }

abbrev pub none : Faults
none = record { code = code_of nothing true }

abbrev pub not_settled : Faults
not_settled = record { code = code_of nothing false }

abbrev pub first : Faults → Faults → Faults
first f g = record { code = merged f.code g.code }

-- of a number at a place, by whether it passed a test
abbrev pub unless : Bool → (rank place : ℕ) → Faults
unless true r k = none
unless false r k = record { code = k * 16 + r }

-- by whether it fits and whether it is plainly spelled
abbrev pub of_number : Bool → Bool → ℕ → Faults
of_number fit plain k = first (unless plain not_plainly k) (unless fit does_not_fit k)

abbrev pub settled_if : Bool → Faults → Faults
settled_if true f = f
settled_if false f = first not_settled f

abbrev said_by : (rank place : ℕ) → Verdict
said_by r k = cond (eqb r 0) Settled (cond (eqb r not_plainly) (NotPlain k) (cond (eqb r does_not_fit) (DoesNotFit k) Unsettled))

unfoldable pub verdict : Faults → Verdict
verdict f = said_by (rank_in f.code) (place_in f.code)

abbrev pub is_settled : Verdict → Bool
is_settled Settled = true
is_settled Unsettled = false
is_settled (NotPlain k) = false
is_settled (DoesNotFit k) = false

-- no number is found to be wrong
abbrev pub is_plain_verdict : Verdict → Bool
is_plain_verdict Settled = true
is_plain_verdict Unsettled = true
is_plain_verdict (NotPlain k) = false
is_plain_verdict (DoesNotFit k) = false

-- ---- laws
abbrev coded : ℕ → Faults
coded c = record { code = c }

and_assoc : (a b c : Bool) → (a && b) && c ≡ a && (b && c)
and_assoc true b c = refl
and_assoc false b c = refl

findings_append : (ms ns : List Numeral) → findings (ms ++ ns) ≡ findings ms ++ findings ns
findings_append [] ns = refl
findings_append (m ∷ ms) ns = rw (findings_append ms ns) (sym (append_assoc (found_in m) (findings ms) (findings ns)))

pub faults_nil : faults [] true ≡ none
unfolding faults
faults_nil = refl

pub faults_append : (ms ns : List Numeral) (a b : Bool) → faults (ms ++ ns) (a && b) ≡ first (faults ms a) (faults ns b)
unfolding faults
faults_append ms ns a b = rw (findings_append ms ns) (ap coded (code_append (findings ms) (findings ns) a b))

unless_code : (t : Bool) (f : Finding) → coded (code_of (told (found_unless t f)) true) ≡ unless t f.rank f.place
unless_code true f = refl
unless_code false f = refl

pub faults_one : (k : ℕ) (sign : Sign) (ds : List ℕ) → faults (numeral k sign ds ∷ []) true ≡ of_number (fits sign (val ds)) (is_plain sign ds) k
unfolding faults
faults_one k sign ds =
    let p = found_unless (is_plain sign ds) (unplain_at k) in
    let b = found_unless (fits sign (val ds)) (unfit_at k) in
    rw (append-nil (p ++ b)) (ap coded (code_append p b true true) ∙ rw (← unless_code (is_plain sign ds) (unplain_at k), ← unless_code (fits sign (val ds)) (unfit_at k)) refl)

-- one that is plain
pub plain_faults : (b : Bool) (k : ℕ) → unless b does_not_fit k ≡ of_number b true k
unfolding merged
plain_faults true k = refl
plain_faults false k = rw (lt-ltb 0 (rank_in (k * 16 + does_not_fit)) (omega arith))

pub settled_if_lem : (t : Bool) (ns : List Numeral) (a : Bool) → settled_if t (faults ns a) ≡ faults ns (t && a)
unfolding faults
settled_if_lem true ns a = refl
settled_if_lem false ns a = ap coded (sym (code_append [] (findings ns) false a))

pub settled_only : (t : Bool) (ns : List Numeral) → settled_if t (faults ns true) ≡ faults ns t
settled_only true ns = refl
settled_only false ns = settled_if_lem false ns true

-- of no number
pub settled_none : (t : Bool) → settled_if t none ≡ faults [] t
settled_none t = ap (settled_if t) (sym faults_nil) ∙ settled_only t []

-- ---- what is found of numbers
-- the leftmost of a rank, where a number has a finding of it exactly when it fails a test
leftmost_found : (r : ℕ) (test : Sign → List ℕ → Bool) → ((k : ℕ) (sign : Sign) (ds : List ℕ) (fs : List Finding) → leftmost_of r (found_in (numeral k sign ds) ++ fs) ≡ cond (test sign ds) (leftmost_of r fs) (some k))
    → (ns : List Numeral) → leftmost_of r (findings ns) ≡ leftmost_failing test ns
leftmost_found r test step [] = refl
leftmost_found r test step (numeral k sign ds ∷ ns) = step k sign ds (findings ns) ∙ ap (λ (o : Option ℕ). cond (test sign ds) o (some k)) (leftmost_found r test step ns)

leftmost_misfit : (ns : List Numeral) → leftmost_of does_not_fit (findings ns) ≡ misfit ns
leftmost_misfit = leftmost_found does_not_fit (λ sign ds. fits sign (val ds)) (λ k sign ds. go (is_plain sign ds) (fits sign (val ds)) k)
  where
    go : (p b : Bool) (k : ℕ) (fs : List Finding) → leftmost_of does_not_fit ((found_unless p (unplain_at k) ++ found_unless b (unfit_at k)) ++ fs) ≡ cond b (leftmost_of does_not_fit fs) (some k)
    go true true k fs = refl
    go true false k fs = refl
    go false true k fs = refl
    go false false k fs = refl

leftmost_not_plain : (ns : List Numeral) → leftmost_of not_plainly (findings ns) ≡ not_plain ns
leftmost_not_plain = leftmost_found not_plainly is_plain (λ k sign ds. go (is_plain sign ds) (fits sign (val ds)) k)
  where
    go : (p b : Bool) (k : ℕ) (fs : List Finding) → leftmost_of not_plainly ((found_unless p (unplain_at k) ++ found_unless b (unfit_at k)) ++ fs) ≡ cond p (leftmost_of not_plainly fs) (some k)
    go true true k fs = refl
    go true false k fs = refl
    go false b k fs = refl

-- and of no other rank
no_other_rank : (r : ℕ) → does_not_fit < r → (ns : List Numeral) → leftmost_of r (findings ns) ≡ nothing
no_other_rank r q [] = refl
no_other_rank r q (numeral k sign ds ∷ ns) = go (is_plain sign ds) (fits sign (val ds)) (no_other_rank r q ns)
  where
    skips : (f : Finding) (fs : List Finding) → f.rank ≤ does_not_fit → leftmost_of r (f ∷ fs) ≡ leftmost_of r fs
    skips f fs h = rw (ne_eqb f.rank r (λ e. omega arith))

    go : (p b : Bool) → leftmost_of r (findings ns) ≡ nothing → leftmost_of r ((found_unless p (unplain_at k) ++ found_unless b (unfit_at k)) ++ findings ns) ≡ nothing
    go true true h = h
    go true false h = skips (unfit_at k) (findings ns) (omega arith) ∙ h
    go false true h = skips (unplain_at k) (findings ns) (omega arith) ∙ h
    go false false h = skips (unplain_at k) (unfit_at k ∷ findings ns) (omega arith) ∙ skips (unfit_at k) (findings ns) (omega arith) ∙ h

nothing_found : (ns : List Numeral) → nothing_in (findings ns) ≡ is_faultless ns && all_plain ns
unfolding every_number
nothing_found [] = refl
nothing_found (numeral k sign ds ∷ ns) = go (is_plain sign ds) (fits sign (val ds)) (nothing_found ns)
  where
    go : (p b : Bool) → nothing_in (findings ns) ≡ is_faultless ns && all_plain ns
        → nothing_in ((found_unless p (unplain_at k) ++ found_unless b (unfit_at k)) ++ findings ns) ≡ (b && is_faultless ns) && (p && all_plain ns)
    go true true h = h
    go true false h = refl
    go false true h = sym (and_false (is_faultless ns))
    go false false h = refl

-- ---- what a verdict says
by_rank : (B : Verdict → Type 0) (r k : ℕ) → (r ≡ 0 → B Settled) → (r ≡ not_plainly → B (NotPlain k)) → (r ≡ does_not_fit → B (DoesNotFit k))
    → ((r ≡ 0 → ⊥) → (r ≡ not_plainly → ⊥) → (r ≡ does_not_fit → ⊥) → B Unsettled) → B (said_by r k)
by_rank B r k a b d e = go (eqb r 0) (eqb r not_plainly) (eqb r does_not_fit) refl refl refl
  where
    go : (x y z : Bool) → eqb r 0 ≡ x → eqb r not_plainly ≡ y → eqb r does_not_fit ≡ z → B (cond x Settled (cond y (NotPlain k) (cond z (DoesNotFit k) Unsettled)))
    go true y z p q w = a (eqb-true r 0 p)
    go false true z p q w = b (eqb-true r not_plainly q)
    go false false true p q w = d (eqb-true r does_not_fit w)
    go false false false p q w = e (eqb-false r 0 p) (eqb-false r not_plainly q) (eqb-false r does_not_fit w)

module _ (ns : List Numeral) (t : Bool) where
  abbrev said : Verdict
  said = verdict (faults ns t)

  abbrev rank : ℕ
  rank = rank_in (faults ns t).code

  abbrev place : ℕ
  place = place_in (faults ns t).code

  rank_settled : eqb rank 0 ≡ is_faultless ns && (all_plain ns && t)
  unfolding faults
  rank_settled = says_settled (findings ns) t ∙ rw (nothing_found ns) (and_assoc (is_faultless ns) (all_plain ns) t)

  rank_unfit : rank ≡ does_not_fit → misfit ns ≡ some place
  unfolding faults
  rank_unfit e = sym (leftmost_misfit ns) ∙ (rw e at (says_leftmost (findings ns) t (omega arith)))

  none_unfit : rank < does_not_fit → misfit ns ≡ nothing
  unfolding faults
  none_unfit h = sym (leftmost_misfit ns) ∙ says_none_above (findings ns) t does_not_fit (omega arith) h

  rank_not_plain : rank ≡ not_plainly → (misfit ns ≡ nothing) × (not_plain ns ≡ some place)
  unfolding faults
  rank_not_plain e = (none_unfit (omega arith), sym (leftmost_not_plain ns) ∙ (rw e at (says_leftmost (findings ns) t (omega arith))))

  rank_plain : rank < not_plainly → (misfit ns ≡ nothing) × (not_plain ns ≡ nothing)
  unfolding faults
  rank_plain h = (none_unfit (omega arith), sym (leftmost_not_plain ns) ∙ says_none_above (findings ns) t not_plainly (omega arith) h)

  -- no rank is higher
  rank_most : rank ≤ does_not_fit
  unfolding faults
  rank_most = go (leb rank does_not_fit) refl
    where
      go : (b : Bool) → leb rank does_not_fit ≡ b → rank ≤ does_not_fit
      go true p = leb-true rank does_not_fit p
      go false p =
          let h : does_not_fit < rank = leb-false rank does_not_fit p in
          absurd (none_some (sym (no_other_rank rank h ns) ∙ says_leftmost (findings ns) t (omega arith)))

  rank_faultless : (rank ≡ does_not_fit → ⊥) → Faultless ns
  rank_faultless q = fits_faultless ns (none_unfit (omega (arith, rank_most, q)))

  pub verdict_settled : is_settled said ≡ is_faultless ns && (all_plain ns && t)
  unfolding verdict
  verdict_settled =
      by_rank (λ v. is_settled v ≡ eqb rank 0) rank place
      (λ e. sym (eq-eqb rank 0 e)) (λ e. sym (ne_eqb rank 0 (λ z. omega arith))) (λ e. sym (ne_eqb rank 0 (λ z. omega arith))) (λ a b d. sym (ne_eqb rank 0 a))
      ∙ rank_settled

  pub verdict_unfit : {k : ℕ} → said ≡ DoesNotFit k → misfit ns ≡ some k
  unfolding verdict
  verdict_unfit {k} =
      by_rank (λ v. v ≡ DoesNotFit k → misfit ns ≡ some k) rank place
      (λ e q. absurd (let y : ◌≡◌ {A = ℕ} 0 1 = cc in omega arith)) (λ e q. absurd (let y : ◌≡◌ {A = ℕ} 0 1 = cc in omega arith))
      (λ e q. let z : place ≡ k = cc in rank_unfit e ∙ ap some z)
      (λ a b d q. absurd (let y : ◌≡◌ {A = ℕ} 0 1 = cc in omega arith))

  pub verdict_not_plain : {k : ℕ} → said ≡ NotPlain k → (misfit ns ≡ nothing) × (not_plain ns ≡ some k)
  unfolding verdict
  verdict_not_plain {k} =
      by_rank (λ v. v ≡ NotPlain k → (misfit ns ≡ nothing) × (not_plain ns ≡ some k)) rank place
      (λ e q. absurd (let y : ◌≡◌ {A = ℕ} 0 1 = cc in omega arith))
      (λ e q. let z : place ≡ k = cc in ((rank_not_plain e).0, (rank_not_plain e).1 ∙ ap some z))
      (λ e q. absurd (let y : ◌≡◌ {A = ℕ} 0 1 = cc in omega arith)) (λ a b d q. absurd (let y : ◌≡◌ {A = ℕ} 0 1 = cc in omega arith))

  pub verdict_plain : is_plain_verdict said ≡ true → (misfit ns ≡ nothing) × (not_plain ns ≡ nothing)
  unfolding verdict
  verdict_plain =
      by_rank (λ v. is_plain_verdict v ≡ true → (misfit ns ≡ nothing) × (not_plain ns ≡ nothing)) rank place
      (λ e q. rank_plain (omega arith)) (λ e q. absurd (clash q refl)) (λ e q. absurd (clash q refl)) (λ a b d q. rank_plain (omega (arith, rank_most, a, b, d)))

  pub verdict_faultless : ((k : ℕ) → said ≡ DoesNotFit k → ⊥) → Faultless ns
  unfolding verdict
  verdict_faultless =
      by_rank (λ v. ((k : ℕ) → v ≡ DoesNotFit k → ⊥) → Faultless ns) rank place
      (λ e q. rank_faultless (λ z. omega arith)) (λ e q. rank_faultless (λ z. omega arith)) (λ e q. absurd (q place refl)) (λ a b d q. rank_faultless d)
