-- Laws of the whole text: what reading header, kind and body one after the other answers.
use Prim.Native.Nat.{ℕ, ◌+◌, ◌-◌, ◌≤◌}
use mathlib.Core.Path.{◌≡◌, refl, sym, ap, ◌∙◌}
use mathlib.Core.List.{List, ◌++◌}
use mathlib.Core.Option.{Option, none, some}
use mathlib.Core.Bool.{true, false}
use native.Mathlib.Omega.{arith}
use lib.ListN.{length, take, drop, length-append, length-drop}
use Rattle.texts.proofs.Tests.{clash}
use Rattle.texts.proofs.Slices.{tail_part, tail_at}
use Rattle.record.specs.declared.Kind.{Kind}
use Rattle.record.specs.declared.Kind.TheVariants.{Cds, Genome, Mt, Tx, Prot, Rna}
use Rattle.record.specs.declared.Header as Record
use Rattle.grammar.specs.Header.{HeaderTree, print_header, print_kind}
use Rattle.grammar.proofs.Header.{kind_length}
use Rattle.grammar.specs.Shapes.{Both.both}
use Rattle.grammar.specs.Bodies.{BodyTree}
use Rattle.grammar.specs.Texts.{Text.text, all_letters}
use Rattle.grammar.specs.Records.{header_at}
use Rattle.alphabet.specs.Letters.{nucleotide}
use Rattle.lang.proofs.ByParsed.{by_answer}
use Rattle.lang.proofs.Lang.{within}
use Rattle.lang.specs.Whole.{whole}
use Rattle.lang.specs.Canon.{map_o}
use Rattle.lang.specs.BothLang.{parse_both}
use Rattle.lang_na_edits.proofs.Alphabet.{nucleotides}
use Rattle.lang_headers.proofs.Sound.{header_lang}
use Rattle.lang_headers.proofs.KindLang.{kind_lang, heading_lang}
use Rattle.lang_bodies.proofs.NaBodies.{na_body_lang}
use Rattle.lang_bodies.specs.ProteinBodies.{parse_protein_body}
use Rattle.lang_bodies.proofs.BodyLang.{parse_body}
use Rattle.lang_bodies.proofs.WholeText.{parse_text}
use Rattle.any_body.specs.declared.AnyBody.{AnyBody}
use Rattle.read_scan.specs.declared.Faults.{Faults}
use Rattle.std.specs.Prelude as Prelude
use Rattle.std.specs.Prelude.{None, Some}
use Rattle.std.proofs.lemmas.Option.{none-some, same_Some}
use Rattle.read_header.specs.HeaderAnswers.{header_answer, kind_answer}
use Rattle.read_na_body.specs.NaBodyAnswers.{na_answer, body_answer, answer_cds, answer_genome, answer_mt, answer_tx, answer_rna}
use Rattle.lang_na_edits.proofs.Alphabet.{alphabets}
use Rattle.read_text.specs.TextAnswers.{is_protein, text_answer}

-- ---- the body of each kind
abbrev NaSays : ℕ → List ℕ → Prelude.Option (AnyBody × Faults) → Kind → Type 0
NaSays at s r k = r ≡ na_answer k at (whole (na_body_lang nucleotide nucleotides k) s)

abbrev BodySays : ℕ → List ℕ → Prelude.Option (AnyBody × Faults) → Kind → Type 0
BodySays at s r k = r ≡ body_answer k at (parse_body all_letters alphabets k s)

module _ (at : ℕ) (s : List ℕ) (r : Prelude.Option (AnyBody × Faults)) where
  pub nucleotide_says : (k : Kind) → is_protein k ≡ false → NaSays at s r k → BodySays at s r k
  nucleotide_says Cds p e = e ∙ answer_cds at _
  nucleotide_says Genome p e = e ∙ answer_genome at _
  nucleotide_says Mt p e = e ∙ answer_mt at _
  nucleotide_says Tx p e = e ∙ answer_tx at _
  nucleotide_says Prot p e = absurd (clash refl p)
  nucleotide_says Rna p e = e ∙ answer_rna at _

  pub protein_says : (k : Kind) → is_protein k ≡ true → r ≡ body_answer Prot at (parse_protein_body s) → BodySays at s r k
  protein_says Cds p e = absurd (clash p refl)
  protein_says Genome p e = absurd (clash p refl)
  protein_says Mt p e = absurd (clash p refl)
  protein_says Tx p e = absurd (clash p refl)
  protein_says Prot p e = e
  protein_says Rna p e = absurd (clash p refl)

-- ---- header, kind and body, one after the other
pub record HeaderTold (s : List ℕ) (h : Record.Header × ℕ) : Type 0 where
  pub tree : HeaderTree
  pub parsed : header_lang.parse s ≡ some tree
  pub means : h.0 ≡ header_at 0 tree
  pub long : h.1 ≡ length (print_header tree)

pub header_told : (s : List ℕ) (h : Record.Header × ℕ) → Some h ≡ header_answer 0 (header_lang.parse s) → HeaderTold s h
unfolding header_answer
header_told s h e =
    by_answer (header_answer 0) (header_lang.parse s) e (λ q z. absurd (none-some h (sym z)))
    (λ t q z. let i = same_Some h _ z in record { tree = t; parsed = q; means = ap (λ (p : Record.Header × ℕ). p.0) i; long = ap (λ (p : Record.Header × ℕ). p.1) i })

pub no_header : (s : List ℕ) → None ≡ header_answer 0 (header_lang.parse s) → None ≡ text_answer (parse_text all_letters alphabets s)
unfolding header_answer text_answer parse_text parse_both
no_header s e = by_answer (header_answer 0) (header_lang.parse s) e (λ q z. rw (q, parse_text, parse_both)) (λ t q z. absurd (let y : ◌≡◌ {A = ℕ} 0 1 = cc in omega arith))

pub kind_told : (s : List ℕ) (k : Kind) → Some k ≡ kind_answer (kind_lang.parse s) → kind_lang.parse s ≡ some k
unfolding kind_answer
kind_told s k e = by_answer kind_answer (kind_lang.parse s) e (λ q z. absurd (let y : ◌≡◌ {A = ℕ} 0 1 = cc in omega arith)) (λ t q z. let j : t ≡ k = cc in q ∙ ap some j)

module _ (s : List ℕ) {h : Record.Header × ℕ} (x : HeaderTold s h) where
  pub header_le : h.1 ≤ length s
  header_le = rw x.long (within header_lang s x.tree x.parsed)

  rest : take (length s - h.1) (drop h.1 s) ≡ drop (length (print_header x.tree)) s
  rest = tail_at s x.long

  pub no_kind : None ≡ kind_answer (kind_lang.parse (take (length s - h.1) (drop h.1 s))) → None ≡ text_answer (parse_text all_letters alphabets s)
  unfolding kind_answer text_answer parse_text parse_both
  no_kind e =
      by_answer kind_answer (kind_lang.parse (take (length s - h.1) (drop h.1 s))) e (λ q z. rw (x.parsed, parse_text, parse_both, rw rest at q))
      (λ t q z. absurd (let y : ◌≡◌ {A = ℕ} 0 1 = cc in omega arith))

  module _ {k : Kind} (y : kind_lang.parse (take (length s - h.1) (drop h.1 s)) ≡ some k) where
    pub kind_le : h.1 + 3 ≤ length s
    kind_le = omega (arith, within kind_lang (take (length s - h.1) (drop h.1 s)) k y, kind_length k, ap length (tail_part h.1 s), length-drop h.1 s, header_le)

    heading : heading_lang.parse s ≡ some (both x.tree k)
    unfolding parse_both
    heading = rw (x.parsed, rw rest at y)

    heading_long : length (print_header x.tree ++ print_kind k) ≡ h.1 + 3
    heading_long = length-append (print_header x.tree) (print_kind k) ∙ rw (kind_length k, x.long)

    -- what stands behind the heading is the body
    text_is : text_answer (parse_text all_letters alphabets s) ≡ text_answer (map_o (text x.tree k) (parse_body all_letters alphabets k (take (length s - (h.1 + 3)) (drop (h.1 + 3) s))))
    unfolding parse_text
    text_is = rw (heading, heading_long, tail_part (h.1 + 3) s)

    body_answer_lem : (o : Option (BodyTree k)) → (b : AnyBody × Faults) → Some b ≡ body_answer k (h.1 + 3) o → Some (h.0, b) ≡ text_answer (map_o (text x.tree k) o)
    unfolding body_answer text_answer
    body_answer_lem none b e = absurd (none-some b (sym e))
    body_answer_lem (some t) b e =
        let i = same_Some b _ e in
        let m = x.means in
        let j : h.1 + 3 ≡ 0 + length (print_header x.tree) + length (print_kind k) = omega (arith, x.long, kind_length k) in
        rw (i, m, j)

    pub no_body : None ≡ body_answer k (h.1 + 3) (parse_body all_letters alphabets k (take (length s - (h.1 + 3)) (drop (h.1 + 3) s))) → None ≡ text_answer (parse_text all_letters alphabets s)
    unfolding body_answer text_answer
    no_body e =
        by_answer (body_answer k (h.1 + 3)) (parse_body all_letters alphabets k (take (length s - (h.1 + 3)) (drop (h.1 + 3) s))) e
        (λ q z. sym (text_is ∙ ap (λ (o : Option (BodyTree k)). text_answer (map_o (text x.tree k) o)) q))
        (λ t q z. absurd (let y : ◌≡◌ {A = ℕ} 0 1 = cc in omega arith))

    pub text_found : (b : AnyBody × Faults) → Some b ≡ body_answer k (h.1 + 3) (parse_body all_letters alphabets k (take (length s - (h.1 + 3)) (drop (h.1 + 3) s))) → Some (h.0, b) ≡ text_answer (parse_text all_letters alphabets s)
    text_found b e = body_answer_lem (parse_body all_letters alphabets k (take (length s - (h.1 + 3)) (drop (h.1 + 3) s))) b e ∙ sym text_is
