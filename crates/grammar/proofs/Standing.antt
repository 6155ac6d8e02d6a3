-- A text stands in a source at a place; its parts then do too.
use Rattle.std.specs.Prelude.{ℕ, ◌+◌, ◌≤◌, ◌≡◌, refl, List, [], ◌++◌, true, length}
use Rattle.std.proofs.Common.{sym, ap, ◌∙◌, append_assoc, append-nil, arith, le-leb, length-append, take_at}
use Rattle.std.proofs.Math.Nat.{add-sub_cancel_left}
use Rattle.std.proofs.Math.Seq.{drop_at}
use Rattle.texts.specs.Ascii.{ascii}
use Rattle.grammar.specs.Spans.{inside, part}
use Rattle.grammar.specs.Records.{span_of}
use Rattle.grammar.specs.Standing.{Stands}

module _ {s : List ℕ} {k : ℕ} where
  pub left : (x y : List ℕ) → Stands s k (x ++ y) → Stands s k x
  left x y h = record { before = h.before; after = y ++ h.after; text = rw append_assoc at h.text; place = h.place }

  pub right : (x : List ℕ) {y : List ℕ} → Stands s k (x ++ y) → Stands s (k + length x) y
  right x {y} h = record {
    before = h.before ++ x;
    after = h.after;
    text = append_assoc h.before x (y ++ h.after) ∙ ap (λ (l : List ℕ). h.before ++ l) (sym (append_assoc x y h.after)) ∙ h.text;
    place = length-append h.before x ∙ ap (λ (n : ℕ). n + length x) h.place;
  }

  pub stands_end : {x : List ℕ} → Stands s k x → k + length x ≤ length s
  stands_end {x} h = omega (arith, simp length-append at (ap length h.text), h.place)

  pub stands_inside : {x : List ℕ} → Stands s k x → inside (length s) (span_of k x) ≡ true
  stands_inside {x} h = rw (le-leb k (k + length x) (omega arith), le-leb (k + length x) (length s) (stands_end h))

  pub stands_part : {x : List ℕ} → Stands s k x → part s (span_of k x) ≡ x
  unfolding part
  stands_part {x} h =
      rw (stands_inside h, add-sub_cancel_left, ← h.text, drop_at h.before (x ++ h.after) k h.place)
      (take_at x h.after (length x) refl)

-- what stands between brackets
pub inner : {s : List ℕ} {k : ℕ} {x : List ℕ} → Stands s k (ascii "(" ++ (x ++ ascii ")")) → Stands s (k + 1) x
inner {x = x} h = left x _ (right (ascii "(") h)

-- a text stands in itself at 0
pub stands_whole : (x : List ℕ) → Stands x 0 x
stands_whole x = record { before = []; after = []; text = append-nil x; place = refl }
