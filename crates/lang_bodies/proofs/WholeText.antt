-- The whole text: header, kind, body. The parser finds its tree, and there is at most one.
use Rattle.std.specs.Prelude.{ℕ, ◌≡◌, Bool, length}
use Rattle.std.proofs.Math.Path.{refl, sym, ap}
use Rattle.std.proofs.Common.{◌∙◌}
use mathlib.Core.List.{List, ◌++◌, append_assoc}
use Rattle.std.proofs.Math.Option.{Option, none, some}
use Rattle.std.proofs.Math.ListN.{drop}
use Rattle.std.proofs.Math.Seq.{drop-append_seam}
use Rattle.texts.proofs.Tests.{none_some}
use Rattle.record.specs.declared.Kind.{Kind}
use Rattle.grammar.specs.Header.{HeaderTree, print_header, print_kind}
use Rattle.grammar.specs.Shapes.{Both, Both.both}
use Rattle.grammar.specs.Bodies.{print_body}
use Rattle.grammar.specs.Texts.{Text, Text.text, print, Wf}
use Rattle.lang.proofs.Lang.{rest_is}
use Rattle.lang.specs.Canon.{map_o}
use Rattle.lang.proofs.Canon.{map_some}
use Rattle.lang_na_edits.specs.Alphabet.{Alphabet}
use Rattle.lang_headers.proofs.KindLang.{heading_lang}
use Rattle.lang_bodies.proofs.BodyLang.{parse_body, complete_body, sound_body}

module _ (letters : Kind → ℕ → Bool) (al : (k : Kind) → Alphabet (letters k)) where
  abbrev pub on_heading : List ℕ → Option (Both HeaderTree Kind) → Option Text
  on_heading s none = none
  on_heading s (some (both h k)) = map_o (text h k) (parse_body letters al k (drop (length (heading_lang.print (both h k))) s))

  unfoldable pub parse_text : List ℕ → Option Text
  parse_text s = on_heading s (heading_lang.parse s)

  pub sound_text : (s : List ℕ) (x : Text) → parse_text s ≡ some x → Wf letters x × (print x ≡ s)
  unfolding parse_text
  sound_text s x e = go (heading_lang.parse s) refl e
    where
      go : (o : Option (Both HeaderTree Kind)) → heading_lang.parse s ≡ o → on_heading s o ≡ some x → Wf letters x × (print x ≡ s)
      go none q k = absurd (none_some k)
      go (some (both h kind)) q k =
          let f = heading_lang.sound s (both h kind) q in
          let r = drop (length (print_header h ++ print_kind kind)) s in
          let m = map_some (text h kind) (parse_body letters al kind r) x k in
          let g = sound_body letters al kind r m.0 m.1.0 in
          let z : print_header h ++ (print_kind kind ++ print_body kind m.0) ≡ s = sym (append_assoc (print_header h) (print_kind kind) (print_body kind m.0)) ∙ ap (λ (l : List ℕ). (print_header h ++ print_kind kind) ++ l) (g.1 ∙ rest_is heading_lang s (both h kind) q) ∙ f.text in
          rw (← m.1.1) ((f.wf.0, g.0), z)

  pub complete_text : (x : Text) → Wf letters x → parse_text (print x) ≡ some x
  unfolding parse_text
  complete_text (text h k b) w =
      let q : print_header h ++ (print_kind k ++ print_body k b) ≡ (print_header h ++ print_kind k) ++ print_body k b = sym (append_assoc (print_header h) (print_kind k) (print_body k b)) in
      rw (q, heading_lang.complete (both h k) (print_body k b) (w.0, tt) tt, drop-append_seam (print_header h ++ print_kind k) (print_body k b), complete_body letters al k b w.1)

  -- two well_formed trees with one text are one
  pub unambiguous : (x y : Text) → Wf letters x → Wf letters y → print x ≡ print y → x ≡ y
  unambiguous x y v w e =
      let a = complete_text x v in
      let b = complete_text y w in
      cc
