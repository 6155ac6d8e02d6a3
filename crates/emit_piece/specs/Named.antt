-- The pieces that may have nothing to write, by name: parsers on lists have an option of their own.
use Rattle.std.specs.Prelude.{ℕ, Option}

abbrev pub OneByte : Type 0
OneByte = Option ℕ

abbrev pub Amount : Type 0
Amount = Option ℕ
