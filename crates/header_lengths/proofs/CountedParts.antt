-- What was counted, as the parser's answers say it. A part `&s[k..]` is `take (length s - k) (drop k s)`.
use Prim.Native.Nat.{ℕ, suc, ◌+◌, ◌-◌, ◌≤◌}
use mathlib.Core.Path.{◌≡◌, refl, sym, ap, ◌∙◌}
use mathlib.Core.List.{List, [], ◌∷◌, ◌++◌}
use mathlib.Core.Bool.{Bool, true, false}
use native.Mathlib.Omega.{arith}
use lib.Dec.{eqb}
use Rattle.std.proofs.Common.{eqb-true}
use Rattle.std.proofs.lemmas.Bool.{eqb-false}
use lib.ListN.{length, take, drop, get_or, length-append, length-drop}
use lib.Seq.{drop-drop}
use borrow.Author.Tests.{le-leb}
use Rattle.texts.specs.Ascii.{ascii}
use Rattle.texts.specs.Runs.{run, front, behind}
use Rattle.texts.proofs.Runs.{run_le, front_length}
use Rattle.texts.proofs.Tests.{clash, and_false}
use Rattle.texts.proofs.Slices.{tail_part}
use Rattle.texts.specs.Words.{starts}
use Rattle.texts.proofs.Words.{starts_length}
use Rattle.alphabet.specs.Letters.{letter, digit, alphanumeric}
use Rattle.grammar.specs.Optional.{print_optional}
use Rattle.lang_headers.specs.Optionals.{is_there, parse_optional}
use Rattle.lang_headers.proofs.Optionals.{optional_none}
use Rattle.lang_headers.specs.Parse.{suffix_of, version_of, parse_accession}
use Rattle.header_lengths.specs.Lengths.{optional_length, accession_length, optional_le}

-- ---- a word with bytes of a kind behind it
module _ (word : List ℕ) (p : ℕ → Bool) (s : List ℕ) where
  pub optional_no_word : starts word s ≡ false → 0 ≡ optional_length word (parse_optional word p s)
  optional_no_word e = rw (optional_none word p s e)

  module _ (e : starts word s ≡ true) {n : ℕ} (q : n ≡ run p (take (length s - length word) (drop (length word) s))) where
    counted : n ≡ run p (drop (length word) s)
    counted = rw tail_part at q

    pub optional_fits : length word + n ≤ length s
    optional_fits = omega (arith, counted, run_le p (drop (length word) s), length-drop (length word) s, starts_length word s e)

    pub optional_empty : n ≡ 0 → 0 ≡ optional_length word (parse_optional word p s)
    unfolding parse_optional is_there
    optional_empty z = rw (e, ← counted, z)

    pub optional_found : (n ≡ 0 → ⊥) → length word + n ≡ optional_length word (parse_optional word p s)
    unfolding parse_optional is_there
    optional_found h =
        let x = drop (length word) s in
        rw (e, ← counted, le-leb 1 n (omega arith)) (omega (arith, length-append word (front p x), front_length p x, counted))

-- ---- the accession
pub no_accession_end : (s : List ℕ) → eqb (length s) 0 ≡ true → 0 ≡ accession_length (parse_accession s)
unfolding parse_accession
no_accession_end [] h = refl
no_accession_end (b ∷ s) h = absurd (let e = eqb-true (length (b ∷ s)) 0 h in omega arith)

pub no_initial : (s : List ℕ) → eqb (length s) 0 ≡ false → letter (get_or s 0 0) ≡ false → 0 ≡ accession_length (parse_accession s)
unfolding parse_accession
no_initial [] h e = absurd (clash refl h)
no_initial (b ∷ s) h e = rw e

module _ (s : List ℕ) (h : eqb (length s) 0 ≡ false) {n : ℕ} (en : n ≡ run alphanumeric (take (length s - 1) (drop 1 s))) where
  name_is : n ≡ run alphanumeric (drop 1 s)
  name_is = rw tail_part at en

  pub name_le : 1 + n ≤ length s
  name_le = omega (arith, eqb-false (length s) 0 h, name_is, run_le alphanumeric (drop 1 s), length-drop 1 s)

  module _ {b : ℕ} (eb : b ≡ optional_length (ascii "_") (suffix_of (take (length s - (1 + n)) (drop (1 + n) s)))) where
    suffix_is : b ≡ optional_length (ascii "_") (suffix_of (drop (1 + n) s))
    suffix_is = rw tail_part at eb

    pub suffix_le : 1 + n + b ≤ length s
    suffix_le = omega (arith, name_le, optional_le (ascii "_") alphanumeric (drop (1 + n) s) suffix_is, length-drop (1 + n) s)

    module _ {v : ℕ} (ev : v ≡ optional_length (ascii ".") (version_of (take (length s - (1 + n + b)) (drop (1 + n + b) s)))) where
      version_is : v ≡ optional_length (ascii ".") (version_of (drop (1 + n + b) s))
      version_is = rw tail_part at ev

      pub version_le : 1 + n + b + v ≤ length s
      version_le = omega (arith, suffix_le, optional_le (ascii ".") digit (drop (1 + n + b) s) version_is, length-drop (1 + n + b) s)

three_lengths : (a b c : List ℕ) → length (a ++ (b ++ c)) ≡ length a + length b + length c
three_lengths a b c = simp length-append (omega arith)

pub no_name : (s : List ℕ) → eqb (length s) 0 ≡ false → {n : ℕ} → n ≡ run alphanumeric (take (length s - 1) (drop 1 s)) → n ≡ 0 → 0 ≡ accession_length (parse_accession s)
unfolding parse_accession
no_name [] h en z = absurd (clash refl h)
no_name (b ∷ s) h en z =
    let e : run alphanumeric s ≡ 0 = sym (name_is (b ∷ s) h en) ∙ z in
    rw (e, and_false (letter b))

pub accession_is : (s : List ℕ) → eqb (length s) 0 ≡ false → letter (get_or s 0 0) ≡ true
    → {n : ℕ} → n ≡ run alphanumeric (take (length s - 1) (drop 1 s)) → (n ≡ 0 → ⊥)
    → {b : ℕ} → b ≡ optional_length (ascii "_") (suffix_of (take (length s - (1 + n)) (drop (1 + n) s)))
    → {v : ℕ} → v ≡ optional_length (ascii ".") (version_of (take (length s - (1 + n + b)) (drop (1 + n + b) s)))
    → 1 + n + b + v ≡ accession_length (parse_accession s)
unfolding parse_accession behind
accession_is [] h l en nn eb ev = absurd (clash refl h)
accession_is (x ∷ s) h l {n} en nn {b} eb {v} ev =
    let e : n ≡ run alphanumeric s = name_is (x ∷ s) h en in
    let k : 1 + n ≡ suc n = omega arith in
    let y : List ℕ = drop n s in
    let fb : b ≡ optional_length (ascii "_") (suffix_of y) = rw k at (suffix_is (x ∷ s) h en eb) in
    let j : 1 + n + b ≡ suc (n + b) = omega arith in
    let d : drop (n + b) s ≡ drop b y = sym (drop-drop b n s) in
    let fv : v ≡ optional_length (ascii ".") (version_of (drop b y)) = rw (j, d) at (version_is (x ∷ s) h en eb ev) in
    let f : List ℕ = front alphanumeric s in
    let p : List ℕ = print_optional (ascii "_") (suffix_of y) in
    let q : List ℕ = print_optional (ascii ".") (version_of (drop b y)) in
    let sum : 1 + n + b + v ≡ suc (length f + length p + length q) = omega (arith, fb, fv, e, front_length alphanumeric s) in
    rw (l, ← e, le-leb 1 n (omega arith), ← fb) (sum ∙ ap suc (sym (three_lengths f p q)))
