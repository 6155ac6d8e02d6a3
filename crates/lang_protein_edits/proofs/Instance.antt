-- Protein edits as a language, with and without brackets.
use Prim.Native.Char.{code}
use Rattle.std.specs.Prelude.{refl, [], ◌++◌}
use Rattle.texts.specs.Runs.{every}
use Rattle.grammar.specs.ProteinEdits.{ProteinEditTree, print_protein_edit, WfProteinEdit}
use Rattle.lang.specs.Lang.{Lang}
use Rattle.lang.specs.MuLang.{Brackets}
use Rattle.lang.proofs.MuLang.{mu}
use Rattle.lang_protein_edits.specs.Parse.{parse}
use Rattle.lang_protein_edits.specs.Follow.{Follows}
use Rattle.lang_protein_edits.proofs.Follow.{follows_close}
use Rattle.lang_protein_edits.proofs.Complete.{complete}
use Rattle.lang_protein_edits.proofs.Sound.{sound}
use Rattle.lang_protein_edits.specs.First.{firsts}
use Rattle.lang_protein_edits.proofs.First.{edit_head, head_word}

abbrev pub protein_edit_lang : Lang
protein_edit_lang = record { Tree = ProteinEditTree; print = print_protein_edit; Wf = WfProteinEdit; Follows = Follows; parse = parse; complete = complete; sound = sound }

pub brackets : Brackets protein_edit_lang
unfolding every
brackets = record { no_open = λ t r w. head_word firsts (print_protein_edit t ++ r) (edit_head t r w) (code "(") [] refl refl; may_close = follows_close }

abbrev pub mu_protein_edit_lang : Lang
mu_protein_edit_lang = mu protein_edit_lang brackets
