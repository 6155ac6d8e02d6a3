-- The protein edit at the front of a text, its alternatives in the crate's order.
use Rattle.std.specs.Prelude.{ℕ, List, cond, eqb, length, take, drop}
use Rattle.std.proofs.Math.Option.{Option, none, some}
use Rattle.texts.specs.Ascii.{ascii}
use Rattle.texts.specs.Runs.{run, front}
use Rattle.texts.specs.Words.{starts}
use Rattle.alphabet.specs.Letters.{digit}
use Rattle.residue.specs.Reading.{residue_len, residues_len}
use Rattle.grammar.specs.ProteinEdits.{Terminal, Terminal.ter, Terminal.x, Terminal.star, Length, Length.counted, Length.unknown, Length.unsaid, Stop, Stop.stop, ExtEnd, ExtEnd.nothing, ExtEnd.later, ExtEnd.earlier, ProteinEditTree, ProteinEditTree.subst, ProteinEditTree.subst_unknown, ProteinEditTree.equal, ProteinEditTree.del, ProteinEditTree.dup, ProteinEditTree.ins, ProteinEditTree.del_ins, ProteinEditTree.fs, ProteinEditTree.ext, print_terminal}
use Rattle.lang.specs.Choice.{or_next}
use Rattle.lang.specs.Canon.{map_o}

-- what was found, else another
abbrev pub or_else : {A : Type 0} → Option A → A → A
or_else none b = b
or_else (some a) b = a

-- the n bytes at the front of s, where there are some
unfoldable pub bytes_of : ℕ → List ℕ → Option (List ℕ)
bytes_of n s = cond (eqb n 0) none (some (take n s))

-- ---- behind `fs` and `ext`
unfoldable pub terminal_at : List ℕ → Option Terminal
terminal_at s = cond (starts (ascii "Ter") s) (some ter) (cond (starts (ascii "X") s) (some x) (cond (starts (ascii "*") s) (some star) none))

unfoldable pub length_at : List ℕ → Length
length_at s = cond (eqb (run digit s) 0) (cond (starts (ascii "?") s) unknown unsaid) (counted (front digit s))

abbrev pub stop_behind : List ℕ → Terminal → Stop
stop_behind s t = stop t (length_at (drop (length (print_terminal t)) s))

unfoldable pub stop_at : List ℕ → Option Stop
stop_at s = map_o (stop_behind s) (terminal_at s)

-- an optional residue of n bytes, `-` and digits
unfoldable pub earlier_with : ℕ → List ℕ → Option ExtEnd
earlier_with n s =
    cond (starts (ascii "-") (drop n s)) (map_o (earlier (bytes_of n s)) (bytes_of (run digit (drop 1 (drop n s))) (drop 1 (drop n s)))) none

unfoldable pub earlier_at : List ℕ → Option ExtEnd
earlier_at s = earlier_with (residue_len s) s

abbrev pub later_of : Option Stop → ExtEnd
later_of none = nothing
later_of (some e) = later e

unfoldable pub ext_end_at : List ℕ → ExtEnd
ext_end_at s = or_else (earlier_at s) (later_of (stop_at s))

-- ---- words and residues
-- how many bytes of residues stand behind a word at the front
unfoldable pub residues_behind : List ℕ → List ℕ → ℕ
residues_behind w s = cond (starts w s) (residues_len (drop (length w) s)) 0

unfoldable pub inserted_at : List ℕ → List ℕ → Option (List ℕ)
inserted_at w s = bytes_of (residues_behind w s) (drop (length w) s)

unfoldable pub worded_at : List ℕ → Option ProteinEditTree
worded_at s =
    or_next (map_o del_ins (inserted_at (ascii "delins") s))
    (cond (starts (ascii "del") s) (some del)
    (or_next (map_o ins (inserted_at (ascii "ins") s)) (cond (starts (ascii "dup") s) (some dup) none)))

-- where a residue of n bytes stands at the front
unfoldable pub parse_with : ℕ → List ℕ → Option ProteinEditTree
parse_with n s =
    cond (starts (ascii "fs") (drop n s)) (some (fs (bytes_of n s) (stop_at (drop 2 (drop n s)))))
    (cond (starts (ascii "ext") (drop n s)) (some (ext (bytes_of n s) (ext_end_at (drop 3 (drop n s)))))
    (cond (starts (ascii "=") s) (some equal)
    (cond (starts (ascii "?") s) (some subst_unknown)
    (or_next (map_o subst (bytes_of n s)) (worded_at s)))))

unfoldable pub parse : List ℕ → Option ProteinEditTree
parse s = parse_with (residue_len s) s
