-- Reading what was written gives the record back; an accepted text is never without a shortest text, nor is it the longer one; records of one content have one text.
use Rattle.std.specs.Prelude.{ℕ, ◌≤◌, ◌≡◌, refl, List, length, take, drop}
use Rattle.std.proofs.Common.{sym, ◌∙◌}
use Rattle.std.proofs.Math.Option.{Option, none, some}
use Rattle.std.proofs.Math.Seq.{take-append_seam}
use Rattle.texts.proofs.Best.{best_length}
use Rattle.record.specs.declared.HgvsVariant.{HgvsVariant}
use Rattle.record.specs.declared.Wording.TheVariants.{NoRef}
use Rattle.grammar.specs.Texts.{Text, all_letters}
use Rattle.grammar.specs.Values.{Value}
use Rattle.grammar.specs.Records.{record_at}
use Rattle.grammar.specs.Contents.{content}
use Rattle.grammar.proofs.ContentLaw.{content_is}
use Rattle.lang_na_edits.proofs.Alphabet.{alphabets}
use Rattle.promise.specs.Outcome.{Outcome.given, Outcome.refused, limit}
use Rattle.promise.specs.Reading.{Reads, Reads.accepted}
use Rattle.promise.specs.Writing.{Writes, ToWrite, ReadsAsValue, Unsound}
use Rattle.promise.specs.NoRef.{NoRefText}
use Rattle.promise.proofs.Unique.{one_shortest}
use Rattle.lang_canon.specs.TextCanon.{canon_text}
use Rattle.lang_canon.proofs.TextCanon.{text_some, text_none}
use Rattle.lang_canon.specs.Changes.{changed}
use Rattle.lang_canon.proofs.NoRefCanon.{no_ref_some, no_ref_only}

-- a text that reads as a value, read
pub record ReadBack (t : List ℕ) (v : Value) : Type 0 where
  pub back : HgvsVariant
  pub reads : Reads all_letters t (given back)
  pub same : content t back ≡ v

read_back : (t : List ℕ) (v : Value) → length t ≤ limit → ReadsAsValue all_letters t v → ReadBack t v
read_back t v l r =
    record { back = record_at 0 r.tree; reads = accepted l r.tree (record { wf = r.wf; text = r.text }) r.fits; same = (rw r.text at (content_is r.tree)) ∙ r.means }

module _ (source : List ℕ) (v : HgvsVariant) (output : List ℕ) where
  -- the n bytes at the front of what was left are read back
  pub written_back : (n : ℕ) (o : List ℕ) → Writes all_letters (ToWrite all_letters) source v output (given n) o → ReadBack (take n o) (content source v)
  written_back n o (Writes.written s t w l k) = rw (take-append_seam t (drop (length t) output)) (read_back t (content source v) l w.reads)

  -- without the reference, as the changed value
  pub noref_back : (n : ℕ) (o : List ℕ) → Writes all_letters (NoRefText all_letters) source v output (given n) o → ReadBack (take n o) (changed NoRef (content source v))
  noref_back n o (Writes.written s t w l k) = rw (take-append_seam t (drop (length t) output)) (go (canon_text all_letters alphabets (content source v)) refl)
    where
      go : (c : Option Text) → canon_text all_letters alphabets (content source v) ≡ c → ReadBack t (changed NoRef (content source v))
      go none e = absurd (text_none all_letters alphabets (content source v) e s.text s.reads)
      go (some x) e =
          let f = no_ref_some all_letters alphabets (content source v) x e in
          let b = text_some all_letters alphabets (changed NoRef (content source v)) f.tree f.found in
          let p = no_ref_only all_letters alphabets (content source v) x f.tree e f.found t w in
          read_back t (changed NoRef (content source v)) l (rw p b.reads)

-- ---- an accepted text
module _ (t : List ℕ) (v : HgvsVariant) (r : Reads all_letters t (given v)) where
  accepted_reads : (u : List ℕ) (w : HgvsVariant) → Reads all_letters u (given w) → (length u ≤ limit) × ReadsAsValue all_letters u (content u w)
  accepted_reads u w (accepted l x tree f) = (l, record { tree = x; wf = tree.wf; fits = f; text = tree.text; means = sym (rw tree.text at (content_is x)) })

  -- its shortest text is no longer than it
  pub no_longer : (u : List ℕ) → ToWrite all_letters (content t v) u → length u ≤ length t
  no_longer u w = best_length (w.best t (accepted_reads t v r).1)

  -- writing its record is never refused as having no text
  pub never_no_text : (output o : List ℕ) → Writes all_letters (ToWrite all_letters) t v output (refused 5 0) o → ⊥
  never_no_text output o (Writes.unsound n (Unsound.no_text l i f)) = f t (accepted_reads t v r).1

-- ---- records of one content, in whatever sources
module _ (s z : List ℕ) (v w : HgvsVariant) (same : content s v ≡ content z w) where
  pub one_text : (p q : List ℕ) (m n : ℕ) (o u : List ℕ) → Writes all_letters (ToWrite all_letters) s v p (given m) o → Writes all_letters (ToWrite all_letters) z w q (given n) u → take m o ≡ take n u
  one_text p q m n o u (Writes.written g t x l k) (Writes.written h y b i j) =
      rw (take-append_seam t (drop (length t) p), take-append_seam y (drop (length y) q)) (one_shortest all_letters (content s v) t y x (rw same b))
