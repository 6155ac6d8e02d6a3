-- Every stream is texts and a rest, and in one way only.
use Rattle.std.specs.Prelude.{ℕ, ◌≤◌, ◌≡◌, refl, Bool, true, false, cond, List, [], ◌∷◌, ◌++◌, eqb, length}
use Rattle.std.proofs.Common.{sym, ap, ◌∙◌, append-nil, append_assoc, arith, eqb-true}
use Rattle.std.proofs.Math.Seq.{append_snoc}
use Rattle.std.proofs.lemmas.Bool.{not-true}
use Rattle.texts.proofs.Tests.{and-true}
use Rattle.texts.specs.Runs.{every, Some}
use Rattle.texts.proofs.Runs.{every_append, one_every}
use Rattle.lines.specs.Lines.{line_end}
use Rattle.lines.specs.Taking.{in_line}
use Rattle.frames.specs.Frames.{Lines, Lines.nothing, Lines.line, Stream, Stream.unfinished, Stream.text}
use Rattle.frames.specs.Splits.{Texts}

record Split : Type 0 where
  texts : List (List (List ℕ))
  rest : List (List ℕ)
  part : List ℕ

abbrev and_text : List (List ℕ) → Split → Split
and_text ls x = record { texts = ls ∷ x.texts; rest = x.rest; part = x.part }

-- behind the lines ls of a text and the bytes p of a line: LF ends the line, or the text where the line has no byte
abbrev at_end : List (List ℕ) → List ℕ → (List (List ℕ) → Split) → Split
at_end ls [] next = and_text ls (next [])
at_end ls (b ∷ p) next = next (ls ++ ((b ∷ p) ∷ []))

unfoldable split_from : List (List ℕ) → List ℕ → List ℕ → Split
split_from ls p [] = record { texts = []; rest = ls; part = p }
split_from ls p (b ∷ s) = cond (eqb b line_end) (at_end ls p (λ next. split_from next [] s)) (split_from ls (p ++ (b ∷ [])) s)

-- ---- there is one
lines_more : {ls : List (List ℕ)} {s l : List ℕ} → Lines ls s → Some in_line l → Lines (ls ++ (l ∷ [])) (s ++ (l ++ (line_end ∷ [])))
lines_more nothing h = line h nothing
lines_more (line some-k more) h = rw append_assoc (line some-k (lines_more more h))

abbrev SplitOf : Split → List ℕ → Type 0
SplitOf x s = Stream x.texts x.rest x.part s

split_is : (ls : List (List ℕ)) (front p s : List ℕ) → Lines ls front → every in_line p ≡ true → SplitOf (split_from ls p s) (front ++ (p ++ s))
unfolding split_from every
split_is ls front p [] lines e = rw append-nil (unfinished lines e)
split_is ls front p (b ∷ s) lines e =
    go (eqb b line_end) refl (λ next front' h. split_is next front' [] s h refl) (λ d. split_is ls front (p ++ (b ∷ [])) s lines (every_append in_line p (b ∷ []) e (one_every in_line b d)))
  where
    ends : (p : List ℕ) → every in_line p ≡ true → ((next : List (List ℕ)) (front' : List ℕ) → Lines next front' → SplitOf (split_from next [] s) (front' ++ s))
        → SplitOf (at_end ls p (λ next. split_from next [] s)) (front ++ (p ++ (line_end ∷ s)))
    ends [] e next = text lines (next [] [] nothing)
    ends (c ∷ p) e next =
        let n : SplitOf (split_from (ls ++ ((c ∷ p) ∷ [])) [] s) ((front ++ ((c ∷ p) ++ (line_end ∷ []))) ++ s) = next (ls ++ ((c ∷ p) ∷ [])) (front ++ ((c ∷ p) ++ (line_end ∷ []))) (lines_more lines (record { some = omega arith; all = e })) in
        simp append_assoc at n

    go : (t : Bool) → eqb b line_end ≡ t → ((next : List (List ℕ)) (front' : List ℕ) → Lines next front' → SplitOf (split_from next [] s) (front' ++ s))
        → (in_line b ≡ true → SplitOf (split_from ls (p ++ (b ∷ [])) s) (front ++ ((p ++ (b ∷ [])) ++ s)))
        → SplitOf (cond t (at_end ls p (λ next. split_from next [] s)) (split_from ls (p ++ (b ∷ [])) s)) (front ++ (p ++ (b ∷ s)))
    go true q next more = rw (eqb-true b line_end q) (ends p e next)
    go false q next more = rw append_snoc at (more (rw q))

-- ---- and no other
line_splits : (ls : List (List ℕ)) (p l rest : List ℕ) → every in_line l ≡ true → split_from ls p (l ++ rest) ≡ split_from ls (p ++ l) rest
unfolding split_from every
line_splits ls p [] rest e = rw append-nil
line_splits ls p (b ∷ l) rest e =
    let i = and-true (in_line b) (every in_line l) e in
    rw (not-true (eqb b line_end) i.0) (line_splits ls (p ++ (b ∷ [])) l rest i.1 ∙ ap (λ (q : List ℕ). split_from ls q rest) (append_snoc p b l))

end_splits : (ls : List (List ℕ)) (l rest : List ℕ) → 1 ≤ length l → split_from ls l (line_end ∷ rest) ≡ split_from (ls ++ (l ∷ [])) [] rest
unfolding split_from
end_splits ls [] rest h = absurd (omega arith)
end_splits ls (b ∷ l) rest h = refl

lines_split : {more : List (List ℕ)} {s : List ℕ} → Lines more s → (ls : List (List ℕ)) (rest : List ℕ) → split_from ls [] (s ++ rest) ≡ split_from (ls ++ more) [] rest
lines_split nothing ls rest = rw append-nil
lines_split (line {l} {ls = more} {s} some-l lines) ls rest =
    rw append_assoc
    (line_splits ls [] l (line_end ∷ (s ++ rest)) some-l.all
    ∙ end_splits ls l (s ++ rest) some-l.some
    ∙ lines_split lines (ls ++ (l ∷ [])) rest
    ∙ ap (λ (x : List (List ℕ)). split_from x [] rest) (append_snoc ls l more))

text_splits : (ls : List (List ℕ)) (rest : List ℕ) → split_from ls [] (line_end ∷ rest) ≡ and_text ls (split_from [] [] rest)
unfolding split_from
text_splits ls rest = refl

splits_so : {texts : List (List (List ℕ))} {rest : List (List ℕ)} {p s : List ℕ} → Stream texts rest p s → split_from [] [] s ≡ record { texts = texts; rest = rest; part = p }
unfolding split_from
splits_so (unfinished {ls} {s} {p} lines e) = lines_split lines [] p ∙ ap (split_from ls []) (sym (append-nil p)) ∙ line_splits ls [] p [] e
splits_so (text {ls} {s} {texts} {rest} {p} {r} lines more) = lines_split lines [] (line_end ∷ r) ∙ text_splits ls r ∙ ap (and_text ls) (splits_so more)

pub every_stream : (s : List ℕ) → Texts s
unfolding every
every_stream s = record { texts = (split_from [] [] s).texts; rest = (split_from [] [] s).rest; part = (split_from [] [] s).part; is = split_is [] [] [] s nothing refl }

pub one_split : {texts texts' : List (List (List ℕ))} {rest rest' : List (List ℕ)} {p p' s : List ℕ} → Stream texts rest p s → Stream texts' rest' p' s → (texts ≡ texts') × (rest ≡ rest') × (p ≡ p')
one_split {texts} {texts'} {rest} {rest'} {p} {p'} a b =
    let e : ◌≡◌ {A = Split} (record { texts = texts; rest = rest; part = p }) (record { texts = texts'; rest = rest'; part = p' }) = sym (splits_so a) ∙ splits_so b in
    (ap (λ (x : Split). x.texts) e, ap (λ (x : Split). x.rest) e, ap (λ (x : Split). x.part) e)
