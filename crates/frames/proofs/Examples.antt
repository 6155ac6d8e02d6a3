-- Lines and their bytes, texts and their lines.
use Prim.Native.Char.{code}
use Rattle.std.specs.Prelude.{◌≡◌, refl, [], ◌∷◌, replicate}
use Rattle.std.proofs.Math.Option.{none, some}
use Rattle.alphabet.specs.Cells.{within}
use Rattle.texts.specs.Ascii.{ascii}
use Rattle.frames.specs.Frames.{digit_value, bytes_of, frame, text_of}

-- either case
cases : frame (ascii "4a4B") ≡ some (ascii "JK")
unfolding digit_value bytes_of frame within
cases = refl

odd : frame (ascii "4a4") ≡ none
unfolding digit_value bytes_of frame within
odd = refl

other : frame (ascii "4g") ≡ none
unfolding digit_value bytes_of frame within
other = refl

-- 32 bytes, and 33
most : frame (replicate 64 (code "0")) ≡ some (replicate 32 0)
unfolding digit_value bytes_of frame within
most = refl

more : frame (replicate 66 (code "0")) ≡ none
unfolding digit_value bytes_of frame within
more = refl

-- split two ways; without any frame; with a bad line
once : text_of (ascii "4a4B" ∷ []) ≡ some (ascii "JK")
unfolding digit_value bytes_of frame text_of within
once = refl

twice : text_of (ascii "4A" ∷ ascii "4b" ∷ []) ≡ some (ascii "JK")
unfolding digit_value bytes_of frame text_of within
twice = refl

empty : text_of [] ≡ some []
unfolding text_of
empty = refl

bad : text_of (ascii "4A" ∷ ascii "4" ∷ ascii "4b" ∷ []) ≡ none
unfolding digit_value bytes_of frame text_of within
bad = refl
