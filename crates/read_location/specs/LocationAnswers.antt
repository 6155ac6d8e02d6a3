-- What the routines give for what was found: the location with its spans, its length, and its faults.
use Rattle.std.specs.Prelude as Prelude
use Rattle.std.specs.Prelude.{ℕ, true}
use Rattle.std.proofs.Math.Option.{Option}
use Rattle.record.specs.declared.Kind.{Kind}
use Rattle.grammar.specs.Bodies.{Ends, LocationTree, print_ends, print_location}
use Rattle.grammar.specs.Numbers.{ends_numbers, mu_numbers}
use Rattle.any_location.specs.declared.Location.{Location}
use Rattle.any_location.specs.OfTree.{interval_of, location_of}
use Rattle.lang_locations.specs.Settled.{settled_ends, settled_location}
use Rattle.read_scan.specs.declared.Found.{Found}
use Rattle.read_scan.specs.Accounts.{Account, answered}

abbrev pub intervals : (k : Kind) → Account (Ends k) Location
intervals k = record { read_at = interval_of k true; print = print_ends k; numbers_at = ends_numbers k; settled = settled_ends k }

abbrev pub interval_answer : (k : Kind) → ℕ → Option (Ends k) → Prelude.Option (Found Location)
interval_answer k = answered (intervals k)

abbrev pub locations : (k : Kind) → Account (LocationTree k) Location
locations k = record { read_at = location_of k; print = print_location k; numbers_at = mu_numbers (ends_numbers k); settled = settled_location k }

abbrev pub location_answer : (k : Kind) → ℕ → Option (LocationTree k) → Prelude.Option (Found Location)
location_answer k = answered (locations k)
