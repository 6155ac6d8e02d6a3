-- A part of a text that is certain, or uncertain when in round brackets.
use Prim.Native.Nat.{ℕ}
use Rattle.std.specs.Prelude.{◌≡◌, Bool, length}
use Rattle.std.proofs.Math.Path.{refl, ap}
use Rattle.std.proofs.Common.{◌∙◌}
use mathlib.Core.List.{List, ◌++◌, append_assoc}
use Rattle.std.proofs.Math.Option.{Option, none, some}
use Rattle.std.proofs.Math.Bool.{true, false, cond}
use Rattle.std.proofs.Math.ListN.{drop}
use Rattle.std.proofs.Math.Seq.{drop-append_seam}
use Rattle.texts.specs.Ascii.{ascii}
use Rattle.texts.proofs.Tests.{none_some}
use Rattle.texts.specs.Words.{starts}
use Rattle.texts.proofs.Words.{starts_split}
use Rattle.grammar.specs.Shapes.{Mu, Mu.certain, Mu.uncertain, print_mu, WfMu}
use Rattle.lang.specs.Lang.{Front, Lang}
use Rattle.lang.proofs.Lang.{rest_is}
use Rattle.lang.specs.MuLang.{bare, closed, parse_mu, Brackets}

module _ (L : Lang) where
  module _ (br : (Brackets L)) where
    pub complete_mu : (t : Mu L.Tree) (r : List ℕ) → WfMu L.Wf t → L.Follows r → (parse_mu L) (print_mu L.print t ++ r) ≡ some t
    unfolding parse_mu starts
    complete_mu (certain t) r w st = rw (br.no_open t r w, L.complete t r w st)
    complete_mu (uncertain t) r w st =
        let rest : List ℕ = ascii ")" ++ r in
        let e : (L.print t ++ ascii ")") ++ r ≡ L.print t ++ rest = append_assoc (L.print t) (ascii ")") r in
        rw (e, L.complete t rest w (br.may_close r), drop-append_seam (L.print t) rest)

    pub sound_mu : (s : List ℕ) (t : Mu L.Tree) → (parse_mu L) s ≡ some t → Front (print_mu L.print) (WfMu L.Wf) s t
    unfolding parse_mu
    sound_mu s t h = go (starts (ascii "(") s) refl
      where
        shut : (u : L.Tree) → starts (ascii "(") s ≡ true → L.parse (drop 1 s) ≡ some u → cond (starts (ascii ")") (drop (length (L.print u)) (drop 1 s))) (some (uncertain u)) none ≡ some t → Front (print_mu L.print) (WfMu L.Wf) s t
        shut u e q k = by (starts (ascii ")") (drop (length (L.print u)) (drop 1 s))) refl
          where
            by : (b : Bool) → starts (ascii ")") (drop (length (L.print u)) (drop 1 s)) ≡ b → Front (print_mu L.print) (WfMu L.Wf) s t
            by true p =
                let f = L.sound (drop 1 s) u q in
                let i : some (uncertain u) ≡ some t = rw p at k in
                let j : uncertain u ≡ t = cc in
                let c = starts_split (ascii ")") f.after (rw (rest_is L (drop 1 s) u q) at p) in
                rw (← j) (record {
                  wf = f.wf;
                  after = drop 1 f.after;
                  text = ap (λ (l : List ℕ). ascii "(" ++ l) (append_assoc (L.print u) (ascii ")") (drop 1 f.after) ∙ ap (λ (l : List ℕ). L.print u ++ l) c ∙ f.text) ∙ starts_split (ascii "(") s e;
                })
            by false p = absurd (none_some (rw p at k))

        opened : (o : Option L.Tree) → starts (ascii "(") s ≡ true → L.parse (drop 1 s) ≡ o → (closed L) (drop 1 s) o ≡ some t → Front (print_mu L.print) (WfMu L.Wf) s t
        opened none e q k = absurd (none_some k)
        opened (some u) e q k = shut u e q k

        plain : (o : Option L.Tree) → L.parse s ≡ o → (bare L) o ≡ some t → Front (print_mu L.print) (WfMu L.Wf) s t
        plain none q k = absurd (none_some k)
        plain (some u) q k =
            let f = L.sound s u q in
            let j : certain u ≡ t = cc in
            rw (← j) (record { wf = f.wf; after = f.after; text = f.text })

        go : (b : Bool) → starts (ascii "(") s ≡ b → Front (print_mu L.print) (WfMu L.Wf) s t
        go true e = opened (L.parse (drop 1 s)) e refl (rw (e, (parse_mu L)) at h)
        go false e = plain (L.parse s) refl (rw (e, (parse_mu L)) at h)

    abbrev pub mu : Lang
    mu = record { Tree = Mu L.Tree; print = print_mu L.print; Wf = WfMu L.Wf; Follows = L.Follows; parse = (parse_mu L); complete = complete_mu; sound = sound_mu }
