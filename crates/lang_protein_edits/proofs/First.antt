-- The bytes with which the text of a protein edit starts.
use Rattle.std.specs.Prelude.{ℕ, ◌≡◌, refl, List, [], ◌∷◌, ◌++◌, Bool, true, false, not, eqb}
use Prim.Native.Char.{code}
use Rattle.std.proofs.Common.{append_assoc, arith}
use Rattle.std.proofs.Math.Option.{none, some}
use Rattle.texts.specs.Ascii.{ascii}
use Rattle.texts.proofs.Tests.{right_or}
use Rattle.texts.specs.Runs.{every, run}
use Rattle.texts.proofs.Runs.{run_first}
use Rattle.texts.specs.Words.{starts}
use Rattle.texts.proofs.Words.{starts_with, starts_none}
use Rattle.alphabet.specs.Letters.{among, residue}
use Rattle.alphabet.proofs.Apart.{among_every, among_none}
use Rattle.residue.specs.Residues.{is_residue}
use Rattle.residue.proofs.ResiduesRead.{residue_first, residue_some}
use Rattle.grammar.specs.Shapes.{Mu, Mu.certain, Mu.uncertain, print_mu, WfMu}
use Rattle.grammar.specs.ProteinEdits.{ProteinEditTree, ProteinEditTree.subst, ProteinEditTree.subst_unknown, ProteinEditTree.equal, ProteinEditTree.del, ProteinEditTree.dup, ProteinEditTree.ins, ProteinEditTree.del_ins, ProteinEditTree.fs, ProteinEditTree.ext, print_fs_end, print_ext_end, print_protein_edit, WfProteinEdit}
use Rattle.lang_protein_edits.specs.First.{firsts, Head}

residue_head : (q y : List ℕ) → is_residue q ≡ true → Head firsts (q ++ y)
unfolding residue every
residue_head [] y h = absurd (omega (arith, residue_some [] h))
residue_head (b ∷ q) y h =
    starts_with b (q ++ y) (among_every (λ c. among c firsts) b (ascii "ACDEFGHIKLMNPQRSTVWYBZXU" ++ ascii "*") refl (residue_first b q h))

pub edit_head : (t : ProteinEditTree) (r : List ℕ) → WfProteinEdit t → Head firsts (print_protein_edit t ++ r)
edit_head (subst q) r w = residue_head q r w
edit_head subst_unknown r w = starts_with (code "?") r refl
edit_head equal r w = starts_with (code "=") r refl
edit_head del r w = starts_with (code "d") (ascii "el" ++ r) refl
edit_head dup r w = starts_with (code "d") (ascii "up" ++ r) refl
edit_head (ins rs) r w = starts_with (code "i") _ refl
edit_head (del_ins rs) r w = starts_with (code "d") _ refl
edit_head (fs none e) r w = starts_with (code "f") _ refl
edit_head (fs (some q) e) r w = rw (append_assoc q (ascii "fs" ++ print_fs_end e) r) (residue_head q _ w.0)
edit_head (ext none e) r w = starts_with (code "e") _ refl
edit_head (ext (some q) e) r w = rw (append_assoc q (ascii "ext" ++ print_ext_end e) r) (residue_head q _ w.0)

pub mu_head : (t : Mu ProteinEditTree) (r : List ℕ) → WfMu WfProteinEdit t → Head (code "(" ∷ firsts) (print_mu print_protein_edit t ++ r)
mu_head (certain t) r w =
    let h = edit_head t r w in
    record { byte = h.byte; rest = h.rest; text = h.text; holds = right_or (eqb h.byte (code "(")) h.holds }
mu_head (uncertain t) r w = starts_with (code "(") ((print_protein_edit t ++ ascii ")") ++ r) refl

-- ---- what does not start with those bytes
module _ (bytes s : List ℕ) (h : Head bytes s) where
  pub head_run : (p : ℕ → Bool) → every (λ b. not (p b)) bytes ≡ true → run p s ≡ 0
  head_run p e = rw h.text (run_first p h.byte h.rest (among_none p h.byte bytes e h.holds))

  pub head_word : (c : ℕ) (w : List ℕ) → every (λ b. not (eqb c b)) bytes ≡ true → eqb c c ≡ true → starts (c ∷ w) s ≡ false
  head_word c w e k = starts_none (eqb c) c w s k (head_run (eqb c) e)
