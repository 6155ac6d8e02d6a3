-- The numbers of a tree stand in its text from left to right as `numbers_at` lists them, so their places ascend.
use Rattle.std.specs.Prelude.{ℕ, ◌+◌, ◌≤◌, ◌≡◌, List, [], ◌∷◌, ◌++◌, Bool, length}
use Rattle.std.proofs.Common.{append_assoc, append-nil, arith, add-zero, length-append}
use Rattle.std.proofs.Math.Option.{Option, none, some}
use Rattle.texts.specs.Ascii.{ascii}
use Rattle.numerals.specs.declared.Sign.{Sign}
use Rattle.record.specs.declared.Kind.{Kind}
use Rattle.record.specs.declared.Kind.TheVariants.{Cds, Genome, Mt, Tx, Prot, Rna}
use Rattle.grammar.specs.Header.{print_header, print_kind}
use Rattle.grammar.specs.Positions.{OffsetTree, OffsetTree.absent, OffsetTree.ahead, OffsetTree.back, Based, Based.based, Genomic, Genomic.known, Genomic.unknown, Residual.residual, PositionTree, print_mark, print_offset, print_based, print_genomic, print_position, Digits, WfOffset, WfBased, WfGenomic, WfPosition}
use Rattle.grammar.specs.Shapes.{Interval.one, Interval.two, Mu, Mu.certain, Mu.uncertain, Both.both, print_mu, WfMu}
use Rattle.grammar.specs.NucleotideEdits.{NaEditTree, NaEditTree.equal, NaEditTree.swap, NaEditTree.del_ins, NaEditTree.del_num_ins, NaEditTree.del_num, NaEditTree.del, NaEditTree.ins, NaEditTree.dup, NaEditTree.inv_num, NaEditTree.inv, print_na_edit, WfNaEdit}
use Rattle.grammar.specs.Optional.{print_optional}
use Rattle.grammar.specs.ProteinEdits as P
use Rattle.grammar.specs.ProteinEdits.{ProteinEditTree, Length.counted, Length.unsaid, Stop, Stop.stop, ExtEnd, ExtEnd.nothing, ExtEnd.later, ExtEnd.earlier, print_terminal, print_stop, print_fs_end, print_ext_end, print_protein_edit, WfStop, WfFsEnd, WfExtEnd, WfProteinEdit}
use Rattle.grammar.specs.Bodies.{Ends, print_ends, WfEnds, print_location, NaBody, ProteinBody, ProteinBody.met1, ProteinBody.bracketed_met1, ProteinBody.no_protein_uncertain, ProteinBody.no_protein, ProteinBody.no_change_uncertain, ProteinBody.no_change, ProteinBody.unknown, ProteinBody.change, ProteinBody.bracketed, BodyTree, print_na_body, WfNaBody, print_body, WfBody, print_protein_body, WfProteinBody}
use Rattle.grammar.specs.Texts.{Text, Text.text, print, Wf}
use Rattle.grammar.specs.Numbers.{Numeral, Numeral.numeral, offset_numbers, based_numbers, genomic_numbers, position_numbers, ends_numbers, mu_numbers, na_edit_numbers, stop_numbers, fs_numbers, ext_numbers, protein_edit_numbers, na_body_numbers, protein_body_numbers, body_numbers, numbers_at}
use Rattle.grammar.specs.OrderLaw.{InOrder, Ascending, InOrder.no_more, InOrder.next}

-- ---- in a text that is put together
behind : (w : List ℕ) {k : ℕ} {ns : List Numeral} {x : List ℕ} → InOrder (k + length w) ns x → InOrder k ns (w ++ x)
behind w no_more = no_more
behind w {k} (next {ds = ds} {x = x} gap d r) =
    let e : k + length w + length gap ≡ k + length (w ++ gap) = omega (arith, length-append w gap) in
    rw (e, ← append_assoc w gap (ds ++ x)) (next (w ++ gap) d (rw e at r))

before : {k : ℕ} {ns : List Numeral} {x : List ℕ} (y : List ℕ) → InOrder k ns x → InOrder k ns (x ++ y)
before y no_more = no_more
before y (next {ds = ds} {x = x} gap d r) = rw (append_assoc gap (ds ++ x) y, append_assoc ds x y) (next gap d (before y r))

join : {k : ℕ} {ms ns : List Numeral} {x y : List ℕ} → InOrder k ms x → InOrder (k + length x) ns y → InOrder k (ms ++ ns) (x ++ y)
join {x = x} no_more q = behind x q
join {k} {y = y} (next {ds = ds} {x = x} gap d r) q =
    let e : k + length (gap ++ (ds ++ x)) ≡ k + length gap + length ds + length x = omega (arith, length-append gap (ds ++ x), length-append ds x) in
    rw (append_assoc gap (ds ++ x) y, append_assoc ds x y) (next gap d (join r (rw e at q)))

-- one number alone
digits : {k : ℕ} {sign : Sign} {ds : List ℕ} → Digits ds → InOrder k (numeral k sign ds ∷ []) ds
digits {k} {sign} {ds} d =
    let r : InOrder k (numeral (k + 0) sign ds ∷ []) (ds ++ []) = next [] d no_more in
    rw (add-zero, append-nil) at r

-- ---- positions
offset_order : (k : ℕ) (o : OffsetTree) → WfOffset o → InOrder k (offset_numbers k o) (print_offset o)
offset_order k absent w = no_more
offset_order k (ahead ds) w = behind (ascii "+") (digits w)
offset_order k (back ds) w = behind (ascii "-") (digits w)

based_order : (k : ℕ) (b : Based) → WfBased b → InOrder k (based_numbers k b) (print_based b)
based_order k (based m ds o) w = behind (print_mark m) (join (digits w.0) (offset_order _ o w.1))

genomic_order : (k : ℕ) (g : Genomic) → WfGenomic g → InOrder k (genomic_numbers k g) (print_genomic g)
genomic_order k (known ds) w = digits w
genomic_order k unknown w = no_more

position_order : (kind : Kind) (k : ℕ) (p : PositionTree kind) → WfPosition kind p → InOrder k (position_numbers kind k p) (print_position kind p)
position_order Cds k p w = based_order k p w
position_order Genome k p w = genomic_order k p w
position_order Mt k p w = genomic_order k p w
position_order Tx k (based m ds o) w = based_order k (based m ds o) w.1
position_order Prot k (residual r ds) w = behind r (digits w.1)
position_order Rna k (based m ds o) w = based_order k (based m ds o) w.1

ends_order : (kind : Kind) (k : ℕ) (i : Ends kind) → WfEnds kind i → InOrder k (ends_numbers kind k i) (print_ends kind i)
ends_order kind k (one p) w = position_order kind k p w
ends_order kind k (two p q) w = join (position_order kind k p w.0) (behind (ascii "_") (position_order kind _ q w.1))

mu_order : {A : Type 0} (show : A → List ℕ) (Right : A → Type 0) (numbers : ℕ → A → List Numeral) → ((k : ℕ) (a : A) → Right a → InOrder k (numbers k a) (show a))
    → (k : ℕ) (a : Mu A) → WfMu Right a → InOrder k (mu_numbers numbers k a) (print_mu show a)
mu_order show Right numbers f k (certain a) w = f k a w
mu_order show Right numbers f k (uncertain a) w = behind (ascii "(") (before (ascii ")") (f (k + 1) a w))

-- ---- edits
na_edit_order : (na : ℕ → Bool) (k : ℕ) (e : NaEditTree) → WfNaEdit na e → InOrder k (na_edit_numbers k e) (print_na_edit e)
na_edit_order na k (equal seq) w = no_more
na_edit_order na k (swap a b) w = no_more
na_edit_order na k (del_ins seq seq1) w = no_more
na_edit_order na k (del_num_ins ds seq1) w = behind (ascii "del") (before (ascii "ins" ++ seq1) (digits w.0))
na_edit_order na k (del_num ds) w = behind (ascii "del") (digits w)
na_edit_order na k (del seq) w = no_more
na_edit_order na k (ins seq1) w = no_more
na_edit_order na k (dup seq) w = no_more
na_edit_order na k (inv_num ds) w = behind (ascii "inv") (digits w)
na_edit_order na k (inv seq) w = no_more

stop_order : (k : ℕ) (e : Stop) → WfStop e → InOrder k (stop_numbers k e) (print_stop e)
stop_order k (stop t (counted ds)) w = behind (print_terminal t) (digits w)
stop_order k (stop t P.Length.unknown) w = no_more
stop_order k (stop t unsaid) w = no_more

fs_order : (k : ℕ) (e : Option Stop) → WfFsEnd e → InOrder k (fs_numbers k e) (print_fs_end e)
fs_order k none w = no_more
fs_order k (some e) w = stop_order k e w

ext_order : (k : ℕ) (e : ExtEnd) → WfExtEnd e → InOrder k (ext_numbers k e) (print_ext_end e)
ext_order k nothing w = no_more
ext_order k (later e) w = stop_order k e w
ext_order k (earlier r ds) w = behind (print_optional [] r) (behind (ascii "-") (digits w.1))

protein_edit_order : (k : ℕ) (e : ProteinEditTree) → WfProteinEdit e → InOrder k (protein_edit_numbers k e) (print_protein_edit e)
protein_edit_order k (P.ProteinEditTree.subst r) w = no_more
protein_edit_order k P.ProteinEditTree.subst_unknown w = no_more
protein_edit_order k P.ProteinEditTree.equal w = no_more
protein_edit_order k P.ProteinEditTree.del w = no_more
protein_edit_order k P.ProteinEditTree.dup w = no_more
protein_edit_order k (P.ProteinEditTree.ins rs) w = no_more
protein_edit_order k (P.ProteinEditTree.del_ins rs) w = no_more
protein_edit_order k (P.ProteinEditTree.fs r e) w = behind (print_optional [] r) (behind (ascii "fs") (fs_order _ e w.1))
protein_edit_order k (P.ProteinEditTree.ext r e) w = behind (print_optional [] r) (behind (ascii "ext") (ext_order _ e w.1))

-- ---- bodies, and the whole
na_body_order : (na : ℕ → Bool) (kind : Kind) (k : ℕ) (b : NaBody kind) → WfNaBody na kind b → InOrder k (na_body_numbers kind k b) (print_na_body kind b)
na_body_order na kind k (both l e) w =
    join (mu_order (print_ends kind) (WfEnds kind) (ends_numbers kind) (ends_order kind) k l w.0)
    (mu_order print_na_edit (WfNaEdit na) na_edit_numbers (na_edit_order na) (k + length (print_location kind l)) e w.1)

protein_body_order : (k : ℕ) (b : ProteinBody) → WfProteinBody b → InOrder k (protein_body_numbers k b) (print_protein_body b)
protein_body_order k met1 w = no_more
protein_body_order k bracketed_met1 w = no_more
protein_body_order k no_protein_uncertain w = no_more
protein_body_order k no_protein w = no_more
protein_body_order k no_change_uncertain w = no_more
protein_body_order k no_change w = no_more
protein_body_order k unknown w = no_more
protein_body_order k (change (both l e)) w =
    join (mu_order (print_ends Prot) (WfEnds Prot) (ends_numbers Prot) (ends_order Prot) k l w.0.0)
    (mu_order print_protein_edit WfProteinEdit protein_edit_numbers protein_edit_order (k + length (print_location Prot l)) e w.0.1)
protein_body_order k (bracketed (both i e)) w =
    behind (ascii "(") (before (ascii ")") (join (ends_order Prot (k + 1) i w.0.0) (protein_edit_order (k + 1 + length (print_ends Prot i)) e w.0.1)))

module _ (letters : Kind → ℕ → Bool) where
  body_order : (kind : Kind) (k : ℕ) (b : BodyTree kind) → WfBody letters kind b → InOrder k (body_numbers kind k b) (print_body kind b)
  body_order Cds = na_body_order (letters Cds) Cds
  body_order Genome = na_body_order (letters Genome) Genome
  body_order Mt = na_body_order (letters Mt) Mt
  body_order Tx = na_body_order (letters Tx) Tx
  body_order Prot = protein_body_order
  body_order Rna = na_body_order (letters Rna) Rna

  pub numbers_in_order : (k : ℕ) (t : Text) → Wf letters t → InOrder k (numbers_at k t) (print t)
  numbers_in_order k (text head kind b) w = behind (print_header head) (behind (print_kind kind) (body_order kind _ b w.1))

wider : {j k e f : ℕ} (ns : List Numeral) → j ≤ k → e ≤ f → Ascending k ns e → Ascending j ns f
wider [] h l a = omega arith
wider {e = e} {f = f} (numeral place sign ds ∷ ns) h l a = (omega arith, wider {j = place + 1} {k = place + 1} {e = e} {f = f} ns (omega arith) l a.1)

pub ascending : {k : ℕ} {ns : List Numeral} {x : List ℕ} → InOrder k ns x → Ascending k ns (k + length x)
ascending no_more = omega arith
ascending (next {ds = ds} {x = x} {ns = ns} gap d r) =
    (omega arith, wider ns (omega (arith, d.some)) (omega (arith, length-append gap (ds ++ x), length-append ds x)) (ascending r))

pub numbers_ascend : (letters : Kind → ℕ → Bool) (k : ℕ) (t : Text) → Wf letters t → Ascending k (numbers_at k t) (k + length (print t))
numbers_ascend letters k t w = ascending (numbers_in_order letters k t w)
