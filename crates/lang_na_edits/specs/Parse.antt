-- The nucleotide edit at the front of a text, by longest match: the alternatives in the crate's order.
use Rattle.std.specs.Prelude.{ℕ, List, [], ◌∷◌, Bool, cond, ◌&&◌, eqb, drop}
use Prim.Native.Char.{code}
use Rattle.std.proofs.Math.Option.{Option, none, some}
use Rattle.texts.specs.Ascii.{ascii}
use Rattle.texts.specs.Runs.{front, behind}
use Rattle.texts.specs.Words.{starts}
use Rattle.alphabet.specs.Letters.{digit}
use Rattle.grammar.specs.NucleotideEdits.{NaEditTree, NaEditTree.equal, NaEditTree.swap, NaEditTree.del_ins, NaEditTree.del_num_ins, NaEditTree.del_num, NaEditTree.del, NaEditTree.ins, NaEditTree.dup, NaEditTree.inv_num, NaEditTree.inv}
use Rattle.lang.specs.Choice.{or_next}
use Rattle.lang_na_edits.specs.Choice.{on_word, on_some}

module _ (na : ℕ → Bool) where
  unfoldable pub parse_ident : List ℕ → Option NaEditTree
  parse_ident s = cond (starts (ascii "=") (behind na s)) (some (equal (front na s))) none

  unfoldable pub parse_subst : List ℕ → Option NaEditTree
  parse_subst [] = none
  parse_subst (a ∷ []) = none
  parse_subst (a ∷ c ∷ []) = none
  parse_subst (a ∷ c ∷ b ∷ s) = cond (eqb c (code ">") && (na a && na b)) (some (swap a b)) none

  -- the letters behind `ins`; none where there is no `ins`
  unfoldable pub inserted : List ℕ → List ℕ
  inserted s = cond (starts (ascii "ins") s) (front na (drop 3 s)) []

  -- behind `del`: the digits ds, and s behind them
  unfoldable pub after_del_num : List ℕ → List ℕ → NaEditTree
  after_del_num ds s = on_some (del_num ds) (del_num_ins ds) (inserted s)

  unfoldable pub after_del : List ℕ → NaEditTree
  after_del s = on_some (on_some (del (front na s)) (λ ds. after_del_num ds (behind digit s)) (front digit s)) (del_ins (front na s)) (inserted (behind na s))

  unfoldable pub after_inv : List ℕ → NaEditTree
  after_inv s = on_some (inv (front na s)) inv_num (front digit s)

  unfoldable pub parse_del : List ℕ → Option NaEditTree
  parse_del = on_word (ascii "del") after_del

  unfoldable pub parse_ins : List ℕ → Option NaEditTree
  parse_ins s = on_some none (λ seq1. some (ins seq1)) (inserted s)

  unfoldable pub parse_dup : List ℕ → Option NaEditTree
  parse_dup = on_word (ascii "dup") (λ s. dup (front na s))

  unfoldable pub parse_inv : List ℕ → Option NaEditTree
  parse_inv = on_word (ascii "inv") after_inv

  unfoldable pub parse_na_edit : List ℕ → Option NaEditTree
  parse_na_edit s = or_next (parse_ident s) (or_next (parse_subst s) (or_next (parse_del s) (or_next (parse_ins s) (or_next (parse_dup s) (parse_inv s)))))
