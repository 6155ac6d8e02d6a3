-- What was counted, as the parser's answers say it. A part `&s[k..]` is `take (length s - k) (drop k s)`.
use Rattle.std.specs.Prelude as Prelude
use Rattle.std.specs.Prelude.{None, Some}
use Prim.Native.Nat.{ℕ, suc, ◌+◌, ◌-◌, ◌≤◌, ◌<◌}
use mathlib.Core.Path.{◌≡◌, refl, sym}
use mathlib.Core.List.{List, [], ◌∷◌, ◌++◌}
use mathlib.Core.Option.{Option, none, some}
use mathlib.Core.Bool.{Bool, true, false, cond, ◌&&◌}
use native.Mathlib.Omega.{arith}
use native.Mathlib.Nat.{add-zero}
use lib.Dec.{eqb}
use lib.ListN.{length, take, drop, get_or, length-append, length-drop}
use borrow.Author.Tests.{ne_eqb}
use Rattle.texts.specs.Ascii.{ascii}
use Rattle.texts.specs.Runs.{Some as NotEmpty}
use Rattle.texts.proofs.Tests.{and_false}
use Rattle.texts.proofs.Slices.{tail_part}
use Rattle.texts.specs.Words.{starts}
use Rattle.alphabet.specs.Letters.{alphanumeric}
use Rattle.record.specs.declared.Span.{Span}
use Rattle.grammar.specs.Optional.{WfOptional}
use Rattle.grammar.specs.Header.{Accession, Accession.accession, print_accession, print_gene}
use Rattle.record.specs.declared.Header.{Header}
use Rattle.grammar.specs.Records.{span, part_of}
use Rattle.lang.proofs.Lang.{front_within}
use Rattle.lang_headers.specs.Optionals.{parse_optional}
use Rattle.lang_headers.specs.Parse.{parse_accession, closed, parse_gene, headed, parse_header}
use Rattle.lang_headers.proofs.Sound.{gene_front}
use Rattle.lang_headers.specs.Kinds.{first_kind, parse_kind}
use Rattle.header_lengths.specs.Lengths.{optional_length, accession_length, accession_le}
use Rattle.read_header.specs.HeaderAnswers.{gene_length, header_answer, kind_of}

-- ---- the gene
module _ (s : List ℕ) {n : ℕ} (e : n ≡ optional_length (ascii "(") (parse_optional (ascii "(") alphanumeric s)) where
  pub no_gene : n ≡ 0 → 0 ≡ gene_length (parse_gene s)
  unfolding parse_gene
  no_gene z = go (parse_optional (ascii "(") alphanumeric s) e
    where
      go : (o : Option (List ℕ)) → n ≡ optional_length (ascii "(") o → 0 ≡ gene_length (closed s o)
      go none q = refl
      go (some x) q = absurd (omega arith)

  pub gene_is : (n ≡ 0 → ⊥) → (b : Bool) → starts (ascii ")") (take (length s - n) (drop n s)) ≡ b → cond b (n - 1) 0 ≡ gene_length (parse_gene s)
  unfolding parse_gene
  gene_is h b c = go (parse_optional (ascii "(") alphanumeric s) e
    where
      shut : (x : List ℕ) (t : Bool) → n ≡ suc (length x) → cond t (n - 1) 0 ≡ gene_length (cond t (some x) none)
      shut x true q = omega arith
      shut x false q = refl

      go : (o : Option (List ℕ)) → n ≡ optional_length (ascii "(") o → cond b (n - 1) 0 ≡ gene_length (closed s o)
      go none q = absurd (h q)
      go (some x) q =
          let d : starts (ascii ")") (drop (length (ascii "(" ++ x)) s) ≡ b = rw (tail_part, q) at c in
          rw d (shut x b q)

-- ---- the header
module _ (s : List ℕ) {n : ℕ} (e : n ≡ accession_length (parse_accession s)) where
  pub no_header : (at : ℕ) → n ≡ 0 → None ≡ header_answer at (parse_header s)
  unfolding parse_header header_answer
  no_header at z = go (parse_accession s) e
    where
      go : (o : Option Accession) → n ≡ accession_length o → None ≡ header_answer at (headed s o)
      go none k = refl
      go (some (accession b name suffix version)) k = absurd (omega arith)

  module _ (h : n ≡ 0 → ⊥) {g : ℕ} (eg : g ≡ gene_length (parse_gene (take (length s - n) (drop n s)))) where
    found_gene : g ≡ gene_length (parse_gene (drop n s))
    found_gene = rw tail_part at eg

    pub gene_le : (g ≡ 0 → ⊥) → n + 1 + g + 1 ≤ length s
    gene_le k = go (parse_gene (drop n s)) found_gene (front_within (gene_front (drop n s)))
      where
        go : (o : Option (List ℕ)) → g ≡ gene_length o → length (print_gene o) ≤ length (drop n s) → n + 1 + g + 1 ≤ length s
        go none q l = absurd (k q)
        go (some x) q l = omega (arith, length-append x (ascii ")"), length-drop n s, accession_le s e)

    module _ (at : ℕ) {p : Span} (ep : p ≡ span at n) where
      abbrev answer_with : Option (List ℕ) → Prelude.Option (Header × ℕ)
      answer_with o = Some (record { accession = p; gene_symbol = part_of (at + n + 1) o }, (n + length (print_gene o)))

      header_is : answer_with (parse_gene (drop n s)) ≡ header_answer at (parse_header s)
      unfolding parse_header header_answer
      header_is = go (parse_accession s) e
        where
          go : (o : Option Accession) → n ≡ accession_length o → answer_with (parse_gene (drop n s)) ≡ header_answer at (headed s o)
          go none k = absurd (h k)
          go (some t) k = rw (ep, k, length-append (print_accession t) (print_gene (parse_gene (drop (length (print_accession t)) s))))

      pub header_alone : g ≡ 0 → Some (record { accession = p; gene_symbol = None }, n) ≡ header_answer at (parse_header s)
      header_alone z = go (parse_gene (drop n s)) found_gene (gene_front (drop n s)).wf header_is
        where
          go : (o : Option (List ℕ)) → g ≡ gene_length o → WfOptional (NotEmpty alphanumeric) o → answer_with o ≡ header_answer at (parse_header s) → Some (record { accession = p; gene_symbol = None }, n) ≡ header_answer at (parse_header s)
          go none q w r = rw add-zero at r
          go (some x) q w r = absurd (omega (arith, w.some))

      pub header_gene : (g ≡ 0 → ⊥) → {q : Span} → q ≡ span (at + n + 1) g → Some (record { accession = p; gene_symbol = Some q }, (n + 1 + g + 1)) ≡ header_answer at (parse_header s)
      header_gene k {q} eq = go (parse_gene (drop n s)) found_gene header_is
        where
          go : (o : Option (List ℕ)) → g ≡ gene_length o → answer_with o ≡ header_answer at (parse_header s) → Some (record { accession = p; gene_symbol = Some q }, (n + 1 + g + 1)) ≡ header_answer at (parse_header s)
          go none j r = absurd (k j)
          go (some x) j r =
              let l : n + 1 + g + 1 ≡ n + length (ascii "(" ++ (x ++ ascii ")")) = omega (arith, length-append x (ascii ")")) in
              rw (l, eq, j) r

-- ---- the kind: a letter between `:` and `.`
and_unit : (t : Bool) → t && true ≡ t
and_unit true = refl
and_unit false = refl

other_byte : {b : ℕ} (k : ℕ) → (b ≡ k → ⊥) → eqb k b ≡ false
other_byte {b} k h = ne_eqb k b (λ e. h (sym e))

pub no_letter : (b : ℕ) → (b ≡ 99 → ⊥) → (b ≡ 103 → ⊥) → (b ≡ 109 → ⊥) → (b ≡ 110 → ⊥) → (b ≡ 112 → ⊥) → (b ≡ 114 → ⊥) → kind_of b ≡ none
unfolding kind_of
no_letter b c g m n p r = rw (other_byte 99 c, other_byte 103 g, other_byte 109 m, other_byte 110 n, other_byte 112 p, other_byte 114 r)

pub kind_short : (s : List ℕ) → length s < 3 → parse_kind s ≡ none
unfolding parse_kind first_kind starts
kind_short [] h = refl
kind_short (a ∷ []) h = simp and_false
kind_short (a ∷ b ∷ []) h = simp and_false
kind_short (a ∷ b ∷ c ∷ s) h = absurd (omega arith)

pub no_colon : (s : List ℕ) → 3 ≤ length s → (get_or s 0 0 ≡ 58 → ⊥) → parse_kind s ≡ none
unfolding parse_kind first_kind starts
no_colon [] l h = absurd (omega arith)
no_colon (a ∷ []) l h = absurd (omega arith)
no_colon (a ∷ b ∷ []) l h = absurd (omega arith)
no_colon (a ∷ b ∷ c ∷ s) l h = simp (other_byte 58 h)

pub no_stop : (s : List ℕ) → 3 ≤ length s → (get_or s 2 0 ≡ 46 → ⊥) → parse_kind s ≡ none
unfolding parse_kind first_kind starts
no_stop [] l h = absurd (omega arith)
no_stop (a ∷ []) l h = absurd (omega arith)
no_stop (a ∷ b ∷ []) l h = absurd (omega arith)
no_stop (a ∷ b ∷ c ∷ s) l h = simp (other_byte 46 h, and_false)

pub kind_letter_lem : (s : List ℕ) → 3 ≤ length s → get_or s 0 0 ≡ 58 → get_or s 2 0 ≡ 46 → parse_kind s ≡ kind_of (get_or s 1 0)
unfolding parse_kind first_kind starts kind_of
kind_letter_lem [] l e f = absurd (omega arith)
kind_letter_lem (a ∷ []) l e f = absurd (omega arith)
kind_letter_lem (a ∷ b ∷ []) l e f = absurd (omega arith)
kind_letter_lem (a ∷ b ∷ c ∷ s) l e f = simp (e, f, and_unit)
