-- c, g, m, n, r: a location and an edit, each certain or in brackets.
use Rattle.std.specs.Prelude.{ℕ, List, ◌++◌, Bool}
use Rattle.record.specs.declared.Kind.{Kind}
use Rattle.grammar.specs.Shapes.{Mu, print_mu, WfMu}
use Rattle.grammar.specs.NucleotideEdits.{NaEditTree, print_na_edit, WfNaEdit}
use Rattle.lang.specs.Lang.{Lang}
use Rattle.lang.proofs.BothLang.{behind}
use Rattle.lang.specs.IntervalLang.{FollowsInterval}
use Rattle.lang_locations.proofs.Languages.{pos_lang, location_lang, ends_follows_at}
use Rattle.lang_na_edits.specs.Alphabet.{Alphabet}
use Rattle.lang_na_edits.proofs.Sound.{Follows}
use Rattle.lang_na_edits.proofs.Bracketing.{mu_na_edit_lang, edit_first}

module _ (na : ℕ → Bool) (al : Alphabet na) (k : Kind) where
  pub na_follows : (t : Mu NaEditTree) (r : List ℕ) → WfMu (WfNaEdit na) t → Follows na r → FollowsInterval (pos_lang k) (print_mu print_na_edit t ++ r)
  na_follows t r w st =
      let h = edit_first na al t r w in
      rw h.text (ends_follows_at k h.byte h.rest h.holds.no_digit h.holds.no_mark)

  abbrev pub na_body_lang : Lang
  na_body_lang = behind (location_lang k) (mu_na_edit_lang na al) na_follows
