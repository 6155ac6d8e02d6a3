-- A language of whole texts: nothing may follow.
use Rattle.std.specs.Prelude.{ℕ, ◌≡◌, List, [], ◌++◌}
use Rattle.std.proofs.Common.{◌∙◌, append-nil}
use Rattle.std.proofs.Math.Option.{Option, some}
use Rattle.lang.specs.Lang.{Front, Lang}

module _ {Tree : Type 0} (print : Tree → List ℕ) (Wf : Tree → Type 0) (parse : List ℕ → Option Tree) (complete : (t : Tree) → Wf t → parse (print t) ≡ some t) (sound : (s : List ℕ) (t : Tree) → parse s ≡ some t → Wf t × (print t ≡ s)) where
  abbrev pub Ended : List ℕ → Type 0
  Ended r = r ≡ []

  pub complete_whole : (t : Tree) (r : List ℕ) → Wf t → Ended r → parse (print t ++ r) ≡ some t
  complete_whole t r w e = rw (e, append-nil) (complete t w)

  pub sound_whole : (s : List ℕ) (t : Tree) → parse s ≡ some t → Front print Wf s t
  sound_whole s t e = let h = sound s t e in record { wf = h.0; after = []; text = append-nil (print t) ∙ h.1 }

  abbrev pub whole_lang : Lang
  whole_lang = record { Tree = Tree; print = print; Wf = Wf; Follows = Ended; parse = parse; complete = complete_whole; sound = sound_whole }
