-- p: the texts without location, tried as a whole; else a location and an edit, or both in one pair of brackets.
use Rattle.std.specs.Prelude.{ℕ, List, [], ◌∷◌, cond, eqb, length, drop}
use Rattle.std.proofs.Math.Option.{Option, none, some}
use Rattle.texts.specs.Ascii.{ascii}
use Rattle.texts.specs.Words.{starts, same}
use Rattle.record.specs.declared.Kind.TheVariants.{Prot}
use Rattle.grammar.specs.Shapes.{Mu, Mu.certain, Mu.uncertain, Both.both}
use Rattle.grammar.specs.ProteinEdits.{ProteinEditTree, print_protein_edit}
use Rattle.grammar.specs.Bodies.{Ends, print_ends, ProteinBody, ProteinBody.met1, ProteinBody.bracketed_met1, ProteinBody.no_protein_uncertain, ProteinBody.no_protein, ProteinBody.no_change_uncertain, ProteinBody.no_change, ProteinBody.unknown, ProteinBody.change, ProteinBody.bracketed, print_protein_body}
use Rattle.lang.specs.Choice.{or_next}
use Rattle.lang.specs.Canon.{map_o}
use Rattle.lang_locations.proofs.Languages.{ends_lang}
use Rattle.lang_protein_edits.proofs.Instance.{protein_edit_lang, mu_protein_edit_lang}

-- ---- the texts without location
abbrev pub exact_bodies : List ProteinBody
exact_bodies = met1 ∷ bracketed_met1 ∷ no_protein_uncertain ∷ no_protein ∷ no_change_uncertain ∷ no_change ∷ unknown ∷ []

unfoldable pub first_exact : List ProteinBody → List ℕ → Option ProteinBody
first_exact [] s = none
first_exact (b ∷ bs) s = cond (same (print_protein_body b) s) (some b) (first_exact bs s)

-- ---- location and edit; r stands behind the interval i
abbrev pub after_location : Mu (Ends Prot) → List ℕ → Option ProteinBody
after_location l r = map_o (λ e. change (both l e)) (mu_protein_edit_lang.parse r)

-- inside brackets: the edit, and the closing bracket behind it
abbrev pub closing : Ends Prot → List ℕ → Option ProteinEditTree → Option ProteinBody
closing i r none = none
closing i r (some e) = cond (starts (ascii ")") (drop (length (print_protein_edit e)) r)) (some (bracketed (both i e))) none

abbrev pub inside_brackets : Ends Prot → List ℕ → Option ProteinBody
inside_brackets i r = cond (starts (ascii ")") r) (after_location (uncertain i) (drop 1 r)) (closing i r (protein_edit_lang.parse r))

abbrev pub on_ends : (Ends Prot → List ℕ → Option ProteinBody) → List ℕ → Option (Ends Prot) → Option ProteinBody
on_ends f s none = none
on_ends f s (some i) = f i (drop (length (print_ends Prot i)) s)

unfoldable pub parse_opened : List ℕ → Option ProteinBody
parse_opened s = on_ends inside_brackets s ((ends_lang Prot).parse s)

unfoldable pub parse_bare : List ℕ → Option ProteinBody
parse_bare s = on_ends (λ i r. after_location (certain i) r) s ((ends_lang Prot).parse s)

unfoldable pub parse_ordinary : List ℕ → Option ProteinBody
parse_ordinary s = cond (starts (ascii "(") s) (parse_opened (drop 1 s)) (parse_bare s)

-- up to the end of the text
abbrev pub ended : List ℕ → Option ProteinBody → Option ProteinBody
ended s none = none
ended s (some b) = cond (eqb (length (print_protein_body b)) (length s)) (some b) none

unfoldable pub parse_protein_body : List ℕ → Option ProteinBody
parse_protein_body s = or_next (first_exact exact_bodies s) (ended s (parse_ordinary s))
