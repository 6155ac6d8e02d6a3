-- The parser finds each protein edit that is followed by what does not go on with it.
use Rattle.std.specs.Prelude.{ℕ, ◌≤◌, ◌≡◌, refl, List, [], ◌∷◌, ◌++◌, true, false, ◌&&◌, eqb, length, take, drop}
use Prim.Native.Char.{code}
use Rattle.std.proofs.Common.{ap, ◌∙◌, append_assoc, arith, eqb-true, ne_eqb}
use Rattle.std.proofs.Math.Option.{Option, none, some}
use Rattle.std.proofs.Math.Seq.{take-append_seam, drop-append_seam}
use Rattle.texts.specs.Ascii.{ascii}
use Rattle.texts.proofs.Tests.{and-true, never, clash}
use Rattle.texts.specs.Runs.{run}
use Rattle.texts.proofs.Runs.{run_is, run_first, front_is}
use Rattle.texts.specs.Words.{starts, same}
use Rattle.texts.proofs.Words.{starts_append, starts_none, starts_other}
use Rattle.alphabet.specs.Letters.{digit, residue}
use Rattle.residue_rows.specs.Rows.{rows}
use Rattle.residue.specs.Residues.{one_of, is_three, is_one, is_residue, is_residues}
use Rattle.residue.specs.Reading.{residue_len, continues}
use Rattle.residue.proofs.ResiduesRead.{residue_complete, residue_some, residue_first, residue_stop, residues_complete, residues_some, words_behind, continues_digits, continues_first}
use Rattle.grammar.specs.Optional.{print_optional, WfOptional}
use Rattle.grammar.specs.ProteinEdits.{Residue, Terminal, Terminal.ter, Terminal.x, Terminal.star, Length, Length.counted, Length.unknown, Length.unsaid, Stop, Stop.stop, ExtEnd, ExtEnd.nothing, ExtEnd.later, ExtEnd.earlier, ProteinEditTree, ProteinEditTree.subst, ProteinEditTree.subst_unknown, ProteinEditTree.equal, ProteinEditTree.del, ProteinEditTree.dup, ProteinEditTree.ins, ProteinEditTree.del_ins, ProteinEditTree.fs, ProteinEditTree.ext, print_terminal, print_length, print_stop, print_fs_end, print_ext_end, print_protein_edit, WfLength, WfStop, WfFsEnd, WfExtEnd, WfProteinEdit}
use Rattle.lang_protein_edits.specs.Parse.{bytes_of, terminal_at, length_at, stop_at, earlier_with, earlier_at, ext_end_at, residues_behind, inserted_at, worded_at, parse_with, parse}
use Rattle.lang_protein_edits.specs.Follow.{Follows, goes_on}
use Rattle.lang_protein_edits.proofs.Follow.{no_residue, no_digit, no_word, no_continues}

-- ---- n bytes at the front
pub bytes_some : (n : ℕ) (s : List ℕ) → (n ≡ 0 → ⊥) → bytes_of n s ≡ some (take n s)
unfolding bytes_of
bytes_some n s h = rw (ne_eqb n 0 h)

bytes_front : (a r : List ℕ) → 1 ≤ length a → bytes_of (length a) (a ++ r) ≡ some a
bytes_front a r h = bytes_some (length a) (a ++ r) (λ e. omega arith) ∙ ap some (take-append_seam a r)

-- an optional residue in front of what does not continue it
optional_len : (q : Option (List ℕ)) (y : List ℕ) → WfOptional Residue q → continues y ≡ false → run residue y ≡ 0 → residue_len (print_optional [] q ++ y) ≡ length (print_optional [] q)
optional_len none y w c end = residue_stop y end
optional_len (some r) y w c end = residue_complete r y w c

optional_bytes : (q : Option (List ℕ)) (y : List ℕ) → WfOptional Residue q → bytes_of (length (print_optional [] q)) (print_optional [] q ++ y) ≡ q
unfolding bytes_of
optional_bytes none y w = refl
optional_bytes (some r) y w = bytes_front r y (residue_some r w)

-- ---- behind `fs` and `ext`
terminal_complete : (t : Terminal) (y : List ℕ) → terminal_at (print_terminal t ++ y) ≡ some t
unfolding terminal_at starts
terminal_complete ter y = refl
terminal_complete x y = refl
terminal_complete star y = refl

terminal_residue : (t : Terminal) → is_residue (print_terminal t) ≡ true
unfolding is_residue is_three is_one one_of rows residue same
terminal_residue ter = refl
terminal_residue x = refl
terminal_residue star = refl

no_terminal : (y : List ℕ) → run residue y ≡ 0 → terminal_at y ≡ none
unfolding terminal_at residue
no_terminal y e = rw (starts_none residue (code "T") (ascii "er") y refl e, starts_none residue (code "X") [] y refl e, starts_none residue (code "*") [] y refl e)

length_complete : (n : Length) (r : List ℕ) → WfLength n → Follows r → length_at (print_length n ++ r) ≡ n
unfolding length_at starts run digit goes_on residue
length_complete (counted ds) r w st =
    rw (run_is digit ds r w.all (no_digit r st), front_is digit ds r w.all (no_digit r st), ne_eqb (length ds) 0 (λ e. omega (arith, w.some)))
length_complete unknown r w st = refl
length_complete unsaid r w st = rw (no_digit r st, no_word (code "?") [] r refl st)

stop_complete : (e : Stop) (r : List ℕ) → WfStop e → Follows r → stop_at (print_stop e ++ r) ≡ some e
unfolding stop_at
stop_complete (stop t n) r w st =
    let y : List ℕ = print_length n ++ r in
    rw (append_assoc (print_terminal t) (print_length n) r, terminal_complete t y, drop-append_seam (print_terminal t) y, length_complete n r w st)

fs_complete : (e : Option Stop) (r : List ℕ) → WfFsEnd e → Follows r → stop_at (print_fs_end e ++ r) ≡ e
unfolding stop_at
fs_complete none r w st = rw (no_terminal r (no_residue r st))
fs_complete (some e) r w st = stop_complete e r w st

-- behind a terminal stands neither what continues a residue nor `-`
length_continues : (n : Length) (r : List ℕ) → WfLength n → Follows r → continues (print_length n ++ r) ≡ false
unfolding continues one_of rows same
length_continues (counted ds) r w st = continues_digits ds r w
length_continues unknown r w st = refl
length_continues unsaid r w st = no_continues r st

length_plain : (n : Length) (r : List ℕ) → WfLength n → Follows r → starts (ascii "-") (print_length n ++ r) ≡ false
unfolding starts goes_on residue digit
length_plain (counted ds) r w st = starts_other digit (code "-") [] ds r refl w
length_plain unknown r w st = refl
length_plain unsaid r w st = no_word (code "-") [] r refl st

no_earlier : (s : List ℕ) → starts (ascii "-") (drop (residue_len s) s) ≡ false → earlier_at s ≡ none
unfolding earlier_at earlier_with
no_earlier s e = rw e

ext_complete : (e : ExtEnd) (r : List ℕ) → WfExtEnd e → Follows r → ext_end_at (print_ext_end e ++ r) ≡ e
unfolding ext_end_at earlier_at earlier_with goes_on residue digit starts
ext_complete nothing r w st =
    let z : residue_len r ≡ 0 = residue_stop r (no_residue r st) in
    let n : starts (ascii "-") (drop (residue_len r) r) ≡ false = rw z (no_word (code "-") [] r refl st) in
    rw (no_earlier r n, fs_complete none r tt st)
ext_complete (later (stop t m)) r w st =
    let y : List ℕ = print_length m ++ r in
    let l : residue_len (print_terminal t ++ y) ≡ length (print_terminal t) = residue_complete (print_terminal t) y (terminal_residue t) (length_continues m r w st) in
    let n : starts (ascii "-") (drop (residue_len (print_terminal t ++ y)) (print_terminal t ++ y)) ≡ false = rw (l, drop-append_seam (print_terminal t) y) (length_plain m r w st) in
    let e : earlier_at (print_stop (stop t m) ++ r) ≡ none = rw (append_assoc (print_terminal t) (print_length m) r) (no_earlier (print_terminal t ++ y) n) in
    rw (e, stop_complete (stop t m) r w st)
ext_complete (earlier q ds) r w st =
    let z : List ℕ = ds ++ r in
    let y : List ℕ = ascii "-" ++ z in
    let a : (print_optional [] q ++ (ascii "-" ++ ds)) ++ r ≡ print_optional [] q ++ y = append_assoc (print_optional [] q) (ascii "-" ++ ds) r in
    let l : residue_len (print_optional [] q ++ y) ≡ length (print_optional [] q) = optional_len q y w.0 (continues_first (code "-") z refl) (run_first residue (code "-") z refl) in
    let d : run digit z ≡ length ds = run_is digit ds r w.1.all (no_digit r st) in
    let e : earlier_at (print_optional [] q ++ y) ≡ some (earlier q ds) =
    rw (l, drop-append_seam (print_optional [] q) y, optional_bytes q y w.0, d, bytes_front ds r w.1.some) in
    rw (a, e)

-- ---- edits
inserted_front : (w rs r : List ℕ) → is_residues rs ≡ true → Follows r → inserted_at w (w ++ (rs ++ r)) ≡ some rs
unfolding inserted_at residues_behind
inserted_front w rs r h st =
    rw (starts_append w (rs ++ r), drop-append_seam w (rs ++ r), residues_complete rs r h (no_residue r st) (no_continues r st)) (bytes_front rs r (residues_some rs h))

pub no_insert : (w s : List ℕ) → starts w s ≡ false → inserted_at w s ≡ none
unfolding inserted_at residues_behind bytes_of
no_insert w s e = rw e

parse_fs : (q : Option (List ℕ)) (y : List ℕ) → WfOptional Residue q → parse (print_optional [] q ++ (ascii "fs" ++ y)) ≡ some (fs q (stop_at y))
unfolding parse parse_with starts residue
parse_fs q y w =
    let z : List ℕ = ascii "fs" ++ y in
    rw (optional_len q z w (words_behind y).fs (run_first residue (code "f") (ascii "s" ++ y) refl), drop-append_seam (print_optional [] q) z, optional_bytes q z w)

parse_ext : (q : Option (List ℕ)) (y : List ℕ) → WfOptional Residue q → parse (print_optional [] q ++ (ascii "ext" ++ y)) ≡ some (ext q (ext_end_at y))
unfolding parse parse_with starts residue
parse_ext q y w =
    let z : List ℕ = ascii "ext" ++ y in
    rw (optional_len q z w (words_behind y).ext (run_first residue (code "e") (ascii "xt" ++ y) refl), drop-append_seam (print_optional [] q) z, optional_bytes q z w)

-- a residue is neither `=` nor `?`
residue_plain : (c : ℕ) (s r : List ℕ) → residue c ≡ false → is_residue s ≡ true → starts (c ∷ []) (s ++ r) ≡ false
unfolding starts
residue_plain c [] r n h = absurd (omega (arith, residue_some [] h))
residue_plain c (b ∷ s) r n h = never (eqb c b && true) (λ q. clash (residue_first b s h) (rw (eqb-true c b (and-true (eqb c b) true q).0) at n))

parse_subst_lem : (s r : List ℕ) → is_residue s ≡ true → Follows r → parse (s ++ r) ≡ some (subst s)
unfolding parse parse_with goes_on residue digit
parse_subst_lem s r w st =
    rw (residue_complete s r w (no_continues r st), drop-append_seam s r, no_word (code "f") (ascii "s") r refl st, no_word (code "e") (ascii "xt") r refl st, residue_plain (code "=") s r refl w, residue_plain (code "?") s r refl w, bytes_front s r (residue_some s w))

-- where no residue stands at the front
parse_bare_lem : (s : List ℕ) → run residue s ≡ 0 → parse s ≡ parse_with 0 s
unfolding parse
parse_bare_lem s e = rw (residue_stop s e)

pub complete : (t : ProteinEditTree) (r : List ℕ) → WfProteinEdit t → Follows r → parse (print_protein_edit t ++ r) ≡ some t
unfolding parse_with starts residue digit goes_on bytes_of worded_at
complete (subst s) r w st = parse_subst_lem s r w st
complete subst_unknown r w st = parse_bare_lem (ascii "?" ++ r) (run_first residue (code "?") r refl)
complete equal r w st = parse_bare_lem (ascii "=" ++ r) (run_first residue (code "=") r refl)
complete del r w st =
    parse_bare_lem (ascii "del" ++ r) (run_first residue (code "d") (ascii "el" ++ r) refl) ∙ rw (no_insert (ascii "delins") (ascii "del" ++ r) (no_word (code "i") (ascii "ns") r refl st))
complete dup r w st =
    parse_bare_lem (ascii "dup" ++ r) (run_first residue (code "d") (ascii "up" ++ r) refl) ∙ rw (no_insert (ascii "delins") (ascii "dup" ++ r) refl, no_insert (ascii "ins") (ascii "dup" ++ r) refl)
complete (ins rs) r w st =
    let s : List ℕ = ascii "ins" ++ (rs ++ r) in
    parse_bare_lem s (run_first residue (code "i") (ascii "ns" ++ (rs ++ r)) refl) ∙ rw (no_insert (ascii "delins") s refl, inserted_front (ascii "ins") rs r w st)
complete (del_ins rs) r w st =
    parse_bare_lem (ascii "delins" ++ (rs ++ r)) (run_first residue (code "d") (ascii "elins" ++ (rs ++ r)) refl) ∙ rw (inserted_front (ascii "delins") rs r w st)
complete (fs q e) r w st =
    rw (append_assoc (print_optional [] q) (ascii "fs" ++ print_fs_end e) r, parse_fs q (print_fs_end e ++ r) w.0, fs_complete e r w.1 st)
complete (ext q e) r w st =
    rw (append_assoc (print_optional [] q) (ascii "ext" ++ print_ext_end e) r, parse_ext q (print_ext_end e ++ r) w.0, ext_complete e r w.1 st)
