-- What measuring a location and one end of it gives, by name: what the promise says is in an option of its own.
use Rattle.std.specs.Prelude.{ℕ, ℤ, Option}

abbrev pub LocationWidth : Type 0
LocationWidth = Option ℕ

-- the number of an end that is a base or a residue
abbrev pub EndIndex : Type 0
EndIndex = Option ℤ
