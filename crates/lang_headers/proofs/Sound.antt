-- The parser finds the headers of the grammar and no others.
use Rattle.std.specs.Prelude.{ℕ, ◌≡◌, refl, List, [], ◌∷◌, ◌++◌, Bool, true, false, cond, ◌&&◌, leb, length, drop}
use Prim.Native.Char.{code}
use Rattle.std.proofs.Common.{ap, ◌∙◌, append_assoc, arith, leb-true, le-leb}
use Rattle.std.proofs.Math.Option.{Option, none, some}
use Rattle.std.proofs.Math.Seq.{drop-append_seam}
use Rattle.texts.specs.Ascii.{ascii}
use Rattle.texts.proofs.Tests.{and-true, right_or, none_some, cond_some}
use Rattle.texts.specs.Words.{starts}
use Rattle.texts.proofs.Words.{starts_split}
use Rattle.texts.specs.Runs.{Some, run, front, behind}
use Rattle.texts.proofs.Runs.{run_is, front_is, behind_is, run_first, run_narrower, front_behind, front_length, front_every}
use Rattle.alphabet.specs.Letters.{letter, digit, alphanumeric}
use Rattle.grammar.specs.Optional.{print_optional, WfOptional}
use Rattle.grammar.specs.Header.{Accession, Accession.accession, print_accession, WfAccession, print_gene, HeaderTree, HeaderTree.header, print_header, WfHeader}
use Rattle.lang.specs.Lang.{Front, Lang}
use Rattle.lang.proofs.Lang.{rejoined}
use Rattle.lang_headers.specs.Optionals.{parse_optional}
use Rattle.lang_headers.proofs.Optionals.{optional_front, optional_none, optional_there, optional_is}
use Rattle.lang_headers.specs.Parse.{suffix_of, named, parse_accession, closed, parse_gene, headed, parse_header}
use Rattle.lang_headers.specs.Sound.{FollowsAccession, FollowsHeader}

-- no byte of a kind, where the word that may be in front starts with none
run_optional : (p : ℕ → Bool) (b : ℕ) (o : Option (List ℕ)) (r : List ℕ) → p b ≡ false → run p r ≡ 0 → run p (print_optional (b ∷ []) o ++ r) ≡ 0
run_optional p b none r e stop = stop
run_optional p b (some x) r e stop = run_first p b (x ++ r) e

digit_alphanumeric : (b : ℕ) → digit b ≡ true → alphanumeric b ≡ true
unfolding alphanumeric
digit_alphanumeric b e = right_or (letter b) e

pub complete_accession : (t : Accession) (r : List ℕ) → WfAccession t → FollowsAccession r → parse_accession (print_accession t ++ r) ≡ some t
unfolding parse_accession alphanumeric letter digit starts
complete_accession (accession b n o v) r w st =
    let z : List ℕ = print_optional (ascii ".") v ++ r in
    let y : List ℕ = print_optional (ascii "_") o ++ z in
    let e : (n ++ (print_optional (ascii "_") o ++ print_optional (ascii ".") v)) ++ r ≡ n ++ y = simp append_assoc in
    let nz : run alphanumeric z ≡ 0 = run_optional alphanumeric (code ".") v r refl st.no_more in
    let ny : run alphanumeric y ≡ 0 = run_optional alphanumeric (code "_") o z refl nz in
    let d : run digit r ≡ 0 = run_narrower digit alphanumeric digit_alphanumeric r st.no_more in
    rw (e, w.0, run_is alphanumeric n y w.1.all ny, le-leb 1 (length n) w.1.some, front_is alphanumeric n y w.1.all ny, behind_is alphanumeric n y w.1.all ny)
    (rw (optional_is (ascii "_") alphanumeric z nz (no_bar v) o w.2, drop-append_seam (print_optional (ascii "_") o) z, optional_is (ascii ".") digit r d st.no_version v w.3))
  where
    no_bar : (v : Option (List ℕ)) → starts (ascii "_") (print_optional (ascii ".") v ++ r) ≡ false
    no_bar none = st.no_suffix
    no_bar (some x) = refl

pub sound_accession : (s : List ℕ) (t : Accession) → parse_accession s ≡ some t → Front print_accession WfAccession s t
unfolding parse_accession
sound_accession [] t h = absurd (none_some h)
sound_accession (b ∷ s) t h =
    let n = front alphanumeric s in
    let y = behind alphanumeric s in
    let k = cond_some (letter b && leb 1 (run alphanumeric s)) (some (named b n y)) t h in
    let l = and-true (letter b) (leb 1 (run alphanumeric s)) k.0 in
    let j : named b n y ≡ t = cc in
    let f = optional_front (ascii "_") alphanumeric y in
    let z = drop (length (print_optional (ascii "_") (suffix_of y))) y in
    let g = optional_front (ascii ".") digit z in
    rw (← j) (record {
      wf = (l.0, record { some = omega (arith, leb-true 1 (run alphanumeric s) l.1, front_length alphanumeric s); all = front_every alphanumeric s }, f.wf, g.wf);
      after = g.after;
      text = ap (λ (x : List ℕ). b ∷ x) (simp append_assoc (rw (g.text, rejoined f, front_behind alphanumeric s)));
    })

abbrev pub accession_lang : Lang
accession_lang = record { Tree = Accession; print = print_accession; Wf = WfAccession; Follows = FollowsAccession; parse = parse_accession; complete = complete_accession; sound = sound_accession }

-- ---- the gene
gene_is : (gene : Option (List ℕ)) (r : List ℕ) → WfOptional (Some alphanumeric) gene → starts (ascii "(") r ≡ false → parse_gene (print_gene gene ++ r) ≡ gene
unfolding parse_gene starts run alphanumeric letter digit
gene_is none r w e = rw (optional_none (ascii "(") alphanumeric r e)
gene_is (some x) r w e =
    let y : List ℕ = ascii ")" ++ r in
    let j : (x ++ ascii ")") ++ r ≡ x ++ y = append_assoc x (ascii ")") r in
    rw (j, optional_there (ascii "(") alphanumeric y refl x w, drop-append_seam x y)

pub gene_front : (s : List ℕ) → Front print_gene (WfOptional (Some alphanumeric)) s (parse_gene s)
unfolding parse_gene
gene_front s = go (parse_optional (ascii "(") alphanumeric s) (optional_front (ascii "(") alphanumeric s)
  where
    missing : Front print_gene (WfOptional (Some alphanumeric)) s none
    missing = record { wf = tt; after = s; text = refl }

    close : (x : List ℕ) → Front (print_optional (ascii "(")) (WfOptional (Some alphanumeric)) s (some x) → (b : Bool) → starts (ascii ")") (drop (length (ascii "(" ++ x)) s) ≡ b → Front print_gene (WfOptional (Some alphanumeric)) s (cond b (some x) none)
    close x f true e =
        let y : List ℕ = drop (length (ascii "(" ++ x)) s in
        let p : ascii ")" ++ drop 1 y ≡ y = starts_split (ascii ")") y e in
        record { wf = f.wf; after = drop 1 y; text = ap (λ (l : List ℕ). ascii "(" ++ l) (append_assoc x (ascii ")") (drop 1 y) ∙ ap (λ (l : List ℕ). x ++ l) p) ∙ rejoined f }
    close x f false e = missing

    go : (o : Option (List ℕ)) → Front (print_optional (ascii "(")) (WfOptional (Some alphanumeric)) s o → Front print_gene (WfOptional (Some alphanumeric)) s (closed s o)
    go none f = missing
    go (some x) f = close x f (starts (ascii ")") (drop (length (ascii "(" ++ x)) s)) refl

gene_follows : (gene : Option (List ℕ)) (r : List ℕ) → FollowsHeader r → FollowsAccession (print_gene gene ++ r)
unfolding run starts alphanumeric letter digit
gene_follows none r st = st.accession_ends
gene_follows (some x) r st = record { no_more = refl; no_suffix = refl; no_version = refl }

pub complete_header : (t : HeaderTree) (r : List ℕ) → WfHeader t → FollowsHeader r → parse_header (print_header t ++ r) ≡ some t
unfolding parse_header
complete_header (header a gene) r w st =
    let y : List ℕ = print_gene gene ++ r in
    rw (append_assoc (print_accession a) (print_gene gene) r, complete_accession a y w.0 (gene_follows gene r st), drop-append_seam (print_accession a) y, gene_is gene r w.1 st.no_gene)

pub sound_header : (s : List ℕ) (t : HeaderTree) → parse_header s ≡ some t → Front print_header WfHeader s t
unfolding parse_header
sound_header s t h = go (parse_accession s) refl h
  where
    go : (o : Option Accession) → parse_accession s ≡ o → headed s o ≡ some t → Front print_header WfHeader s t
    go none q k = absurd (none_some k)
    go (some a) q k =
        let f = sound_accession s a q in
        let y = drop (length (print_accession a)) s in
        let g = gene_front y in
        let j : header a (parse_gene y) ≡ t = cc in
        rw (← j) (record {
          wf = (f.wf, g.wf);
          after = g.after;
          text = append_assoc (print_accession a) (print_gene (parse_gene y)) g.after ∙ ap (λ (l : List ℕ). print_accession a ++ l) g.text ∙ rejoined f;
        })

abbrev pub header_lang : Lang
header_lang = record { Tree = HeaderTree; print = print_header; Wf = WfHeader; Follows = FollowsHeader; parse = parse_header; complete = complete_header; sound = sound_header }

-- ---- the end may follow a header, and `:`
pub header_end : FollowsHeader []
unfolding run starts
header_end = record { accession_ends = record { no_more = refl; no_suffix = refl; no_version = refl }; no_gene = refl }

pub header_colon : (r : List ℕ) → FollowsHeader (ascii ":" ++ r)
unfolding run starts alphanumeric letter digit
header_colon r = record { accession_ends = record { no_more = refl; no_suffix = refl; no_version = refl }; no_gene = refl }
