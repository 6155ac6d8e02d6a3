-- What an answer says: which tree was parsed, and that the answer is the tree's.
use Rattle.std.specs.Prelude.{ℕ, ◌+◌, ◌≤◌, ◌≡◌, refl, List, true, length, None, Some}
use Rattle.std.proofs.Math.Option.{none}
use Rattle.std.proofs.Common.{arith}
use Rattle.record.specs.declared.Kind.{Kind}
use Rattle.grammar.specs.Numbers.{ends_numbers}
use Rattle.lang.proofs.Lang.{within}
use Rattle.read_scan.specs.declared.Found.{Found}
use Rattle.read_scan.specs.Accounts.{Told, told, unread}
use Rattle.read_scan.specs.MuAccounts.{Bracketed}
use Rattle.lang_locations.specs.Settled.{settled_ends}
use Rattle.lang_locations.proofs.Languages.{ends_lang, location_lang}
use Rattle.any_location.specs.declared.Location.{Location}
use Rattle.any_location.specs.OfTree.{interval_of, location_of, uncertain_of}
use Rattle.any_location.proofs.OfTree.{uncertain_is}
use Rattle.read_location.specs.LocationAnswers.{intervals, interval_answer, locations, location_answer}

abbrev pub bracketed : (k : Kind) → Bracketed (ends_lang k)
bracketed k =
    record {
      Value = Location;
      MuValue = Location;
      read_at = interval_of k true;
      numbers_at = ends_numbers k;
      settled = settled_ends k;
      mu_read_at = location_of k;
      sure = λ l. l;
      unsure = uncertain_of;
      read_sure = λ at i. refl;
      read_unsure = λ at i. uncertain_is k (at + 1) i;
    }

abbrev pub IntervalTold : Kind → ℕ → List ℕ → Found Location → Type 0
IntervalTold k at s = Told (intervals k) at (ends_lang k).parse s

abbrev pub LocationTold : Kind → ℕ → List ℕ → Found Location → Type 0
LocationTold k at s = Told (locations k) at (location_lang k).parse s

module _ (k : Kind) (at : ℕ) (s : List ℕ) where
  pub interval_told : (x : Found Location) → Some x ≡ interval_answer k at ((ends_lang k).parse s) → IntervalTold k at s x
  interval_told x = told (intervals k) at (ends_lang k).parse s

  pub interval_unread : None ≡ interval_answer k at ((ends_lang k).parse s) → (ends_lang k).parse s ≡ none
  interval_unread = unread (intervals k) at (ends_lang k).parse s

  pub location_told : (x : Found Location) → Some x ≡ location_answer k at ((location_lang k).parse s) → LocationTold k at s x
  location_told x = told (locations k) at (location_lang k).parse s

  pub location_unread : None ≡ location_answer k at ((location_lang k).parse s) → (location_lang k).parse s ≡ none
  location_unread = unread (locations k) at (location_lang k).parse s

-- what was read lies within the text
module _ (k : Kind) {at : ℕ} {s : List ℕ} {x : Found Location} where
  pub interval_within : IntervalTold k at s x → x.len ≤ length s
  interval_within a = omega (arith, a.long, within (ends_lang k) s a.tree a.parsed)

  pub location_within : LocationTold k at s x → x.len ≤ length s
  location_within a = omega (arith, a.long, within (location_lang k) s a.tree a.parsed)
