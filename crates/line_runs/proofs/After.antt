-- What the line program does next, by what a read, a step or a write has given.
use Rattle.std.specs.Prelude.{◌≤◌, ◌<◌, ◌≡◌, refl, Bool, true, false, cond, leb}
use Rattle.std.proofs.Common.{leb-true, leb-false}
use Rattle.line_runs.specs.declared.Rest.{Rest}
use Rattle.line_runs.specs.declared.Next.{Next}
use Rattle.line_runs.specs.declared.Next.TheVariants.{Read, Step}
use Rattle.line_runs.specs.After.{go_on}

-- what holds of both holds of it
pub goes_on : (P : Next → Type 0) (rest : Rest) → (rest.piece ≤ rest.used → P (Read rest.line)) → (rest.used < rest.piece → P (Step rest)) → P (go_on rest)
unfolding go_on
goes_on P rest reads steps = go (leb rest.piece rest.used) refl
  where
    go : (t : Bool) → leb rest.piece rest.used ≡ t → P (cond t (Read rest.line) (Step rest))
    go true e = reads (leb-true rest.piece rest.used e)
    go false e = steps (leb-false rest.piece rest.used e)
