-- The text of a word.
use Rattle.std.specs.Prelude.{ℕ, List, []}
use Rattle.texts.specs.Ascii.{ascii}
use Rattle.emit_word.specs.declared.Word.{Word}
use Rattle.emit_word.specs.declared.Word.TheVariants.{Empty, Del, Ins, DelIns, Dup, Inv, Fs, Ext, Equal, Greater, Question, Met1, NoProtein, NoProteinUncertain, NoChangeUncertain}

abbrev pub word_text : Word → List ℕ
word_text Empty = []
word_text Del = ascii "del"
word_text Ins = ascii "ins"
word_text DelIns = ascii "delins"
word_text Dup = ascii "dup"
word_text Inv = ascii "inv"
word_text Fs = ascii "fs"
word_text Ext = ascii "ext"
word_text Equal = ascii "="
word_text Greater = ascii ">"
word_text Question = ascii "?"
word_text Met1 = ascii "Met1?"
word_text NoProtein = ascii "0"
word_text NoProteinUncertain = ascii "0?"
word_text NoChangeUncertain = ascii "(=)"
