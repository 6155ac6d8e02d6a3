-- Which bytes a body and a text have: letters, digits and a few signs. So a `;`, `[` or `]` is in no body, and bytes of 128 and above are in no text (document 01, "The header").
use Rattle.std.specs.Prelude.{ℕ, ◌≡◌, List, [], ◌∷◌, ◌++◌, Bool, true, not}
use Rattle.std.proofs.Math.Path.{refl}
use Rattle.std.proofs.Math.Option.{Option, none, some}
use Rattle.std.proofs.Common.{⊎_elim}
use Rattle.texts.specs.Ascii.{ascii}
use Rattle.texts.proofs.Tests.{or_true, left_or, right_or}
use Rattle.texts.specs.Runs.{every, Some}
use Rattle.texts.proofs.Runs.{every_append, every_wider, one_every}
use Rattle.alphabet.specs.Letters.{among, digit, letter, alphanumeric, residue}
use Rattle.alphabet.specs.Apart.{is_ascii}
use Rattle.alphabet.proofs.Apart.{among_every, none_among, nucleotide_letter, alphanumeric_ascii}
use Rattle.residue.specs.Residues.{is_residues}
use Rattle.residue_rows.specs.Rows.{rows}
use Rattle.residue.proofs.ResiduesRead.{residue_passes, residues_pass}
use Rattle.record.specs.declared.Kind.{Kind}
use Rattle.record.specs.declared.Kind.TheVariants.{Cds, Genome, Mt, Tx, Prot, Rna}
use Rattle.grammar.specs.Optional.{print_optional, WfOptional}
use Rattle.grammar.specs.Header.{Accession, Accession.accession, print_accession, WfAccession, print_gene, print_kind, HeaderTree, HeaderTree.header, print_header, WfHeader}
use Rattle.grammar.specs.Positions.{Mark, Mark.bare, Mark.plus, Mark.minus, Mark.star, OffsetTree, OffsetTree.absent, OffsetTree.ahead, OffsetTree.back, Based, Based.based, Genomic, Genomic.known, Genomic.unknown, Residual.residual, PositionTree, print_mark, print_offset, print_based, print_genomic, print_position, Digits, WfOffset, WfBased, WfGenomic, WfPosition}
use Rattle.grammar.specs.Shapes.{Interval.one, Interval.two, Mu, Mu.certain, Mu.uncertain, Both.both, print_mu, WfMu}
use Rattle.grammar.specs.NucleotideEdits.{NaEditTree, NaEditTree.equal, NaEditTree.swap, NaEditTree.del_ins, NaEditTree.del_num_ins, NaEditTree.del_num, NaEditTree.del, NaEditTree.ins, NaEditTree.dup, NaEditTree.inv_num, NaEditTree.inv, print_na_edit, WfNaEdit}
use Rattle.grammar.specs.ProteinEdits as P
use Rattle.grammar.specs.ProteinEdits.{Residue, Terminal, Terminal.ter, Terminal.x, ProteinEditTree, Length, Length.counted, Length.unsaid, Stop, Stop.stop, ExtEnd, ExtEnd.nothing, ExtEnd.later, ExtEnd.earlier, print_terminal, print_length, print_stop, print_fs_end, print_ext_end, print_protein_edit, WfLength, WfStop, WfFsEnd, WfExtEnd, WfProteinEdit}
use Rattle.grammar.specs.Bodies.{Ends, print_ends, WfEnds, print_location, NaBody, print_na_body, WfNaBody, ProteinBody, ProteinBody.met1, ProteinBody.bracketed_met1, ProteinBody.no_protein_uncertain, ProteinBody.no_protein, ProteinBody.no_change_uncertain, ProteinBody.no_change, ProteinBody.unknown, ProteinBody.change, ProteinBody.bracketed, print_protein_body, WfProteinBody, BodyTree, print_body, WfBody}
use Rattle.grammar.specs.Texts.{Text, Text.text, print, Wf, all_letters}
use Rattle.grammar.specs.BytesLaw.{body_signs, is_body_byte, text_signs, is_text_byte}

-- ---- what passes a test that letters and digits pass
module _ (p : ℕ → Bool) (names : (b : ℕ) → alphanumeric b ≡ true → p b ≡ true) where
  digits_pass : (ds : List ℕ) → Digits ds → every p ds ≡ true
  unfolding alphanumeric
  digits_pass ds w = every_wider digit p (λ b h. names b (right_or (letter b) h)) ds w.all

  name_passes : (s : List ℕ) → Some alphanumeric s → every p s ≡ true
  name_passes s w = every_wider alphanumeric p names s w.all

  optional_passes : (word : List ℕ) (Right : List ℕ → Type 0) → every p word ≡ true → ((s : List ℕ) → Right s → every p s ≡ true) → (o : Option (List ℕ)) → WfOptional Right o → every p (print_optional word o) ≡ true
  unfolding every
  optional_passes word Right h f none w = refl
  optional_passes word Right h f (some s) w = every_append p word s h (f s w)

name_byte : (b : ℕ) → alphanumeric b ≡ true → is_body_byte b ≡ true
unfolding is_body_byte
name_byte b h = left_or (among b body_signs) h

body_byte : (b : ℕ) → is_body_byte b ≡ true → is_text_byte b ≡ true
unfolding is_text_byte
body_byte b h = left_or (among b text_signs) h

letter_byte : (b : ℕ) → letter b ≡ true → is_body_byte b ≡ true
unfolding alphanumeric
letter_byte b h = name_byte b (left_or (digit b) h)

-- ---- header and kind
abbrev InText : List ℕ → Type 0
InText s = every is_text_byte s ≡ true

text_both : (s t : List ℕ) → InText s → InText t → InText (s ++ t)
text_both = every_append is_text_byte

text_name : (b : ℕ) → alphanumeric b ≡ true → is_text_byte b ≡ true
text_name b h = body_byte b (name_byte b h)

gene_in : (gene : Option (List ℕ)) → WfOptional (Some alphanumeric) gene → InText (print_gene gene)
unfolding every is_text_byte is_body_byte alphanumeric letter digit
gene_in none w = refl
gene_in (some s) w = text_both (ascii "(") (s ++ ascii ")") refl (text_both s (ascii ")") (name_passes is_text_byte text_name s w) refl)

accession_in_lem : (a : Accession) → WfAccession a → InText (print_accession a)
unfolding every is_text_byte is_body_byte alphanumeric letter digit
accession_in_lem (accession b name suffix version) w =
    let marked : List ℕ = print_optional (ascii "_") suffix ++ print_optional (ascii ".") version in
    text_both (b ∷ []) (name ++ marked) (one_every is_text_byte b (body_byte b (letter_byte b w.0)))
    (text_both name marked (name_passes is_text_byte text_name name w.1)
    (text_both (print_optional (ascii "_") suffix) (print_optional (ascii ".") version)
    (optional_passes is_text_byte text_name (ascii "_") (Some alphanumeric) refl (name_passes is_text_byte text_name) suffix w.2)
    (optional_passes is_text_byte text_name (ascii ".") Digits refl (digits_pass is_text_byte text_name) version w.3)))

header_in : (h : HeaderTree) → WfHeader h → InText (print_header h)
header_in (header a gene) w = text_both (print_accession a) (print_gene gene) (accession_in_lem a w.0) (gene_in gene w.1)

kind_in : (k : Kind) → InText (print_kind k)
unfolding every is_text_byte is_body_byte alphanumeric letter digit
kind_in Cds = refl
kind_in Genome = refl
kind_in Mt = refl
kind_in Tx = refl
kind_in Prot = refl
kind_in Rna = refl

-- ---- bodies
abbrev InBody : List ℕ → Type 0
InBody s = every is_body_byte s ≡ true

both_in : (s t : List ℕ) → InBody s → InBody t → InBody (s ++ t)
both_in = every_append is_body_byte

digits_in : (ds : List ℕ) → Digits ds → InBody ds
digits_in = digits_pass is_body_byte name_byte

-- ---- residues
one_letter_in : (b : ℕ) → residue b ≡ true → is_body_byte b ≡ true
unfolding every is_body_byte alphanumeric letter digit residue
one_letter_in b = among_every is_body_byte b (ascii "ACDEFGHIKLMNPQRSTVWYBZXU" ++ ascii "*") refl

residue_in : (r : List ℕ) → Residue r → InBody r
unfolding every is_body_byte alphanumeric letter digit rows
residue_in = residue_passes is_body_byte one_letter_in refl

residues_in : (r : List ℕ) → is_residues r ≡ true → InBody r
unfolding every is_body_byte alphanumeric letter digit rows
residues_in = residues_pass is_body_byte one_letter_in refl

-- ---- positions
mark_in : (m : Mark) → InBody (print_mark m)
unfolding every is_body_byte alphanumeric letter digit
mark_in bare = refl
mark_in plus = refl
mark_in minus = refl
mark_in star = refl

offset_in : (o : OffsetTree) → WfOffset o → InBody (print_offset o)
unfolding every is_body_byte alphanumeric letter digit
offset_in absent w = refl
offset_in (ahead ds) w = both_in (ascii "+") ds refl (digits_in ds w)
offset_in (back ds) w = both_in (ascii "-") ds refl (digits_in ds w)

based_in : (p : Based) → WfBased p → InBody (print_based p)
based_in (based m ds o) w = both_in (print_mark m) _ (mark_in m) (both_in ds _ (digits_in ds w.0) (offset_in o w.1))

genomic_in : (p : Genomic) → WfGenomic p → InBody (print_genomic p)
unfolding every is_body_byte alphanumeric letter digit
genomic_in (known ds) w = digits_in ds w
genomic_in unknown w = refl

position_in : (k : Kind) (p : PositionTree k) → WfPosition k p → InBody (print_position k p)
position_in Cds p w = based_in p w
position_in Genome p w = genomic_in p w
position_in Mt p w = genomic_in p w
position_in Tx (based m ds o) w = based_in (based m ds o) w.1
position_in Prot (residual r ds) w = both_in r ds (residue_in r w.0) (digits_in ds w.1)
position_in Rna (based m ds o) w = based_in (based m ds o) w.1

ends_in : (k : Kind) (i : Ends k) → WfEnds k i → InBody (print_ends k i)
unfolding every is_body_byte alphanumeric letter digit
ends_in k (one p) w = position_in k p w
ends_in k (two p q) w =
    both_in (print_position k p) _ (position_in k p w.0) (both_in (ascii "_") (print_position k q) refl (position_in k q w.1))

bracketed_in : (s : List ℕ) → InBody s → InBody (ascii "(" ++ (s ++ ascii ")"))
unfolding every is_body_byte alphanumeric letter digit
bracketed_in s h = both_in (ascii "(") (s ++ ascii ")") refl (both_in s (ascii ")") h refl)

mu_in : {A : Type 0} (show : A → List ℕ) (Right : A → Type 0) → ((a : A) → Right a → InBody (show a)) → (a : Mu A) → WfMu Right a → InBody (print_mu show a)
mu_in show Right f (certain a) w = f a w
mu_in show Right f (uncertain a) w = bracketed_in (show a) (f a w)

-- ---- protein edits
terminal_in : (t : Terminal) → InBody (print_terminal t)
unfolding every is_body_byte alphanumeric letter digit
terminal_in ter = refl
terminal_in x = refl
terminal_in P.Terminal.star = refl

length_in : (n : Length) → WfLength n → InBody (print_length n)
unfolding every is_body_byte alphanumeric letter digit
length_in (counted ds) w = digits_in ds w
length_in P.Length.unknown w = refl
length_in unsaid w = refl

stop_in : (e : Stop) → WfStop e → InBody (print_stop e)
stop_in (stop t n) w = both_in (print_terminal t) (print_length n) (terminal_in t) (length_in n w)

fs_in : (e : Option Stop) → WfFsEnd e → InBody (print_fs_end e)
unfolding every
fs_in none w = refl
fs_in (some e) w = stop_in e w

optional_residue_in : (r : Option (List ℕ)) → WfOptional Residue r → InBody (print_optional [] r)
unfolding every
optional_residue_in = optional_passes is_body_byte name_byte [] Residue refl residue_in

ext_in : (e : ExtEnd) → WfExtEnd e → InBody (print_ext_end e)
unfolding every is_body_byte alphanumeric letter digit
ext_in nothing w = refl
ext_in (later e) w = stop_in e w
ext_in (earlier r ds) w = both_in (print_optional [] r) _ (optional_residue_in r w.0) (both_in (ascii "-") ds refl (digits_in ds w.1))

protein_edit_in : (e : ProteinEditTree) → WfProteinEdit e → InBody (print_protein_edit e)
unfolding every is_body_byte alphanumeric letter digit
protein_edit_in (P.ProteinEditTree.subst r) w = residue_in r w
protein_edit_in P.ProteinEditTree.subst_unknown w = refl
protein_edit_in P.ProteinEditTree.equal w = refl
protein_edit_in P.ProteinEditTree.del w = refl
protein_edit_in P.ProteinEditTree.dup w = refl
protein_edit_in (P.ProteinEditTree.ins rs) w = both_in (ascii "ins") rs refl (residues_in rs w)
protein_edit_in (P.ProteinEditTree.del_ins rs) w = both_in (ascii "delins") rs refl (residues_in rs w)
protein_edit_in (P.ProteinEditTree.fs r e) w = both_in (print_optional [] r) _ (optional_residue_in r w.0) (both_in (ascii "fs") (print_fs_end e) refl (fs_in e w.1))
protein_edit_in (P.ProteinEditTree.ext r e) w = both_in (print_optional [] r) _ (optional_residue_in r w.0) (both_in (ascii "ext") (print_ext_end e) refl (ext_in e w.1))

protein_body_in : (b : ProteinBody) → WfProteinBody b → InBody (print_protein_body b)
unfolding every is_body_byte alphanumeric letter digit
protein_body_in met1 w = refl
protein_body_in bracketed_met1 w = refl
protein_body_in no_protein_uncertain w = refl
protein_body_in no_protein w = refl
protein_body_in no_change_uncertain w = refl
protein_body_in no_change w = refl
protein_body_in unknown w = refl
protein_body_in (change (both l e)) w =
    both_in (print_location Prot l) _ (mu_in (print_ends Prot) (WfEnds Prot) (ends_in Prot) l w.0.0) (mu_in print_protein_edit WfProteinEdit protein_edit_in e w.0.1)
protein_body_in (bracketed (both i e)) w =
    bracketed_in (print_ends Prot i ++ print_protein_edit e) (both_in (print_ends Prot i) (print_protein_edit e) (ends_in Prot i w.0.0) (protein_edit_in e w.0.1))

-- ---- over nucleotide letters
module _ (na : ℕ → Bool) (letters-in : (b : ℕ) → na b ≡ true → is_body_byte b ≡ true) where
  seq_in : (s : List ℕ) → every na s ≡ true → InBody s
  seq_in = every_wider na is_body_byte letters-in

  replaced_in : (old new : List ℕ) → InBody old → Some na new → InBody (ascii "del" ++ (old ++ (ascii "ins" ++ new)))
  unfolding every is_body_byte alphanumeric letter digit
  replaced_in old new h w =
      both_in (ascii "del") (old ++ (ascii "ins" ++ new)) refl (both_in old (ascii "ins" ++ new) h (both_in (ascii "ins") new refl (seq_in new w.all)))

  na_edit_in : (e : NaEditTree) → WfNaEdit na e → InBody (print_na_edit e)
  unfolding every is_body_byte alphanumeric letter digit
  na_edit_in (equal seq) w = both_in seq (ascii "=") (seq_in seq w) refl
  na_edit_in (swap a b) w =
      both_in (a ∷ []) (ascii ">" ++ (b ∷ [])) (one_every is_body_byte a (letters-in a w.0)) (both_in (ascii ">") (b ∷ []) refl (one_every is_body_byte b (letters-in b w.1)))
  na_edit_in (del_ins seq seq1) w = replaced_in seq seq1 (seq_in seq w.0) w.1
  na_edit_in (del_num_ins ds seq1) w = replaced_in ds seq1 (digits_in ds w.0) w.1
  na_edit_in (del_num ds) w = both_in (ascii "del") ds refl (digits_in ds w)
  na_edit_in (del seq) w = both_in (ascii "del") seq refl (seq_in seq w)
  na_edit_in (ins seq1) w = both_in (ascii "ins") seq1 refl (seq_in seq1 w.all)
  na_edit_in (dup seq) w = both_in (ascii "dup") seq refl (seq_in seq w)
  na_edit_in (inv_num ds) w = both_in (ascii "inv") ds refl (digits_in ds w)
  na_edit_in (inv seq) w = both_in (ascii "inv") seq refl (seq_in seq w)

  na_body_in : (k : Kind) (b : NaBody k) → WfNaBody na k b → InBody (print_na_body k b)
  na_body_in k (both l e) w =
      both_in (print_location k l) _ (mu_in (print_ends k) (WfEnds k) (ends_in k) l w.0) (mu_in print_na_edit (WfNaEdit na) na_edit_in e w.1)

-- ---- the whole
module _ (letters : Kind → ℕ → Bool) (are-letters : (k : Kind) (b : ℕ) → letters k b ≡ true → letter b ≡ true) where
  na_in : (k : Kind) (b : NaBody k) → WfNaBody (letters k) k b → InBody (print_na_body k b)
  na_in k = na_body_in (letters k) (λ b h. letter_byte b (are-letters k b h)) k

  pub body_bytes : (k : Kind) (b : BodyTree k) → WfBody letters k b → every is_body_byte (print_body k b) ≡ true
  body_bytes Cds = na_in Cds
  body_bytes Genome = na_in Genome
  body_bytes Mt = na_in Mt
  body_bytes Tx = na_in Tx
  body_bytes Prot = protein_body_in
  body_bytes Rna = na_in Rna

  pub text_bytes : (t : Text) → Wf letters t → every is_text_byte (print t) ≡ true
  text_bytes (text h k b) w =
      text_both (print_header h) _ (header_in h w.0) (text_both (print_kind k) (print_body k b) (kind_in k) (every_wider is_body_byte is_text_byte body_byte (print_body k b) (body_bytes k b w.1)))

  -- some bytes that are none of these are in no body
  module _ (others : List ℕ) (outside : every (λ x. not (is_body_byte x)) others ≡ true) where
    other : (b : ℕ) → is_body_byte b ≡ true → not (among b others) ≡ true
    other b h = rw (none_among is_body_byte b others outside h)

    pub body_without : (k : Kind) (b : BodyTree k) → WfBody letters k b → every (λ x. not (among x others)) (print_body k b) ≡ true
    body_without k b w = every_wider is_body_byte (λ x. not (among x others)) other (print_body k b) (body_bytes k b w)

  pub body_unjoined : (k : Kind) (b : BodyTree k) → WfBody letters k b → every (λ x. not (among x (ascii ";[]"))) (print_body k b) ≡ true
  unfolding every is_body_byte alphanumeric letter digit
  body_unjoined = body_without (ascii ";[]") refl

nucleotides : (k : Kind) (b : ℕ) → all_letters k b ≡ true → letter b ≡ true
nucleotides k = nucleotide_letter

body_ascii : (b : ℕ) → is_body_byte b ≡ true → is_ascii b ≡ true
unfolding every is_body_byte is_ascii
body_ascii b h = ⊎_elim (alphanumeric_ascii b) (among_every is_ascii b body_signs refl) (or_true (alphanumeric b) (among b body_signs) h)

byte_ascii : (b : ℕ) → is_text_byte b ≡ true → is_ascii b ≡ true
unfolding every is_text_byte is_ascii
byte_ascii b h = ⊎_elim (body_ascii b) (among_every is_ascii b text_signs refl) (or_true (is_body_byte b) (among b text_signs) h)

pub text_ascii : (t : Text) → Wf all_letters t → every is_ascii (print t) ≡ true
text_ascii t w = every_wider is_text_byte is_ascii byte_ascii (print t) (text_bytes all_letters nucleotides t w)
