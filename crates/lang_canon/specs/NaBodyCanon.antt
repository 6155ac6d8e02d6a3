-- The canonical text of a nucleotide body: of its location, then of its edit.
use Rattle.std.specs.Prelude.{ℕ, Bool}
use Rattle.record.specs.declared.Kind.{Kind}
use Rattle.lang.specs.Canon.{Canon}
use Rattle.lang.proofs.BothCanon.{both_canon}
use Rattle.lang_locations.proofs.Languages.{location_lang}
use Rattle.lang_locations.proofs.Canonical.{location_canon}
use Rattle.lang_na_edits.specs.Alphabet.{Alphabet}
use Rattle.lang_na_edits.proofs.Bracketing.{mu_na_edit_lang}
use Rattle.lang_na_edits.proofs.Canonical.{mu_na_edit_canon}
use Rattle.lang_bodies.proofs.NaBodies.{na_follows, na_body_lang}

module _ (na : ℕ → Bool) (al : Alphabet na) (k : Kind) where
  abbrev pub na_body_canon : Canon (na_body_lang na al k)
  na_body_canon = both_canon (location_lang k) (mu_na_edit_lang na al) (na_follows na al k) (location_canon k) (mu_na_edit_canon na al)
