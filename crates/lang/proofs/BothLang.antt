-- One language behind another.
use Prim.Native.Nat.{ℕ}
use Rattle.std.specs.Prelude.{◌≡◌, length, drop}
use Rattle.std.proofs.Math.Path.{refl, ap}
use Rattle.std.proofs.Common.{◌∙◌}
use mathlib.Core.List.{List, ◌++◌, append_assoc}
use Rattle.std.proofs.Math.Option.{Option, none, some}
use Rattle.std.proofs.Math.Seq.{drop-append_seam}
use Rattle.texts.proofs.Tests.{none_some}
use Rattle.grammar.specs.Shapes.{Both, Both.both, print_both, WfBoth}
use Rattle.lang.specs.Lang.{Front, Lang}
use Rattle.lang.proofs.Lang.{rest_is}
use Rattle.lang.specs.BothLang.{second, first, parse_both}

module _ (L M : Lang) where
  -- the second's texts may follow the first
  module _ (follows : (b : M.Tree) (r : List ℕ) → M.Wf b → M.Follows r → L.Follows (M.print b ++ r)) where
    pub complete_both : (t : Both L.Tree M.Tree) (r : List ℕ) → WfBoth L.Wf M.Wf t → M.Follows r → (parse_both L M) (print_both L.print M.print t ++ r) ≡ some t
    unfolding parse_both
    complete_both (both a b) r w st =
        let y : List ℕ = M.print b ++ r in
        rw (append_assoc (L.print a) (M.print b) r, L.complete a y w.0 (follows b r w.1 st), drop-append_seam (L.print a) y, M.complete b r w.1 st)

    pub sound_both : (s : List ℕ) (t : Both L.Tree M.Tree) → (parse_both L M) s ≡ some t → Front (print_both L.print M.print) (WfBoth L.Wf M.Wf) s t
    unfolding parse_both
    sound_both s t h = go (L.parse s) refl h
      where
        then : (a : L.Tree) → L.parse s ≡ some a → (o : Option M.Tree) → M.parse (drop (length (L.print a)) s) ≡ o → (second L M) a o ≡ some t → Front (print_both L.print M.print) (WfBoth L.Wf M.Wf) s t
        then a q none p k = absurd (none_some k)
        then a q (some b) p k =
            let f = L.sound s a q in
            let g = M.sound (drop (length (L.print a)) s) b p in
            let j : both a b ≡ t = cc in
            rw (← j) (record {
              wf = (f.wf, g.wf);
              after = g.after;
              text = append_assoc (L.print a) (M.print b) g.after ∙ ap (λ (l : List ℕ). L.print a ++ l) (g.text ∙ rest_is L s a q) ∙ f.text;
            })

        go : (o : Option L.Tree) → L.parse s ≡ o → (first L M) s o ≡ some t → Front (print_both L.print M.print) (WfBoth L.Wf M.Wf) s t
        go none q k = absurd (none_some k)
        go (some a) q k = then a q (M.parse (drop (length (L.print a)) s)) refl k

    abbrev pub behind : Lang
    behind = record { Tree = Both L.Tree M.Tree; print = print_both L.print M.print; Wf = WfBoth L.Wf M.Wf; Follows = M.Follows; parse = (parse_both L M); complete = complete_both; sound = sound_both }
