-- The rule of the class table: one test that is computed over all entries, and one law that turns it into the rule at each entry.
use Prim.Native.Nat.{ℕ, zero, suc, ◌+◌, ◌%◌, ◌<◌}
use mathlib.Core.Path.{◌≡◌, refl}
use mathlib.Core.Bool.{Bool, true, false, ◌&&◌, beq}
use mathlib.Core.List.{List, [], ◌∷◌}
use native.Mathlib.Omega.{arith}
use native.Mathlib.Nat.{add-zero, zero-add, add-suc, suc-add}
use lib.Dec.{eqb}
use lib.ListN.{length, get_or}
use borrow.Author.Tests.{eqb-true}
use Rattle.texts.proofs.Tests.{and-true, clash}
use Rattle.alphabet.specs.Letters.{digit, letter, alphanumeric, nucleotide, residue}
use Rattle.alphabet.specs.Classes.{member}
use Rattle.alphabet.specs.Flags.{flag}
use Rattle.alphabet.specs.Cells.{within, lowest, highest, numbered, Cell, IsTable, class_table}
use Rattle.alphabet.specs.declared.Class.{Class}
use Rattle.alphabet.specs.declared.Class.TheVariants.{Digit, Letter, Alphanumeric, Nucleotide, Residue}

abbrev every_class : (Class → Bool) → Bool
every_class p = p Digit && (p Letter && (p Alphanumeric && (p Nucleotide && p Residue)))

every_class_lem : (p : Class → Bool) → every_class p ≡ true → (class : Class) → p class ≡ true
every_class_lem p e class =
    let d = and-true (p Digit) _ e in
    let l = and-true (p Letter) _ d.1 in
    let a = and-true (p Alphanumeric) _ l.1 in
    let n = and-true (p Nucleotide) _ a.1 in
    elim class as (λ (k : Class). p k ≡ true) [ Digit ↦ d.0 | Letter ↦ l.0 | Alphanumeric ↦ a.0 | Nucleotide ↦ n.0 | Residue ↦ n.1 ]

-- each class has the number k exactly where it has the byte b
abbrev in_classes : ℕ → ℕ → Bool
in_classes b k = every_class (λ class. beq (numbered class k) (member class b))

-- and it is odd for a nucleotide letter
abbrev right : ℕ → ℕ → Bool
right b k = in_classes b k && eqb (k % 2) (flag (member Nucleotide b))

-- the numbers of the bytes from b on are right
abbrev tested : ℕ → List ℕ → Bool
tested b [] = true
tested b (k ∷ ks) = right b k && tested (suc b) ks

equal : (x y : Bool) → beq x y ≡ true → x ≡ y
equal true true e = refl
equal false false e = refl
equal true false e = absurd (clash e refl)
equal false true e = absurd (clash e refl)

right_at : (b : ℕ) (ks : List ℕ) → tested b ks ≡ true → (i : ℕ) → i < length ks → right (b + i) (get_or ks i 0) ≡ true
right_at b [] e i h = absurd (omega arith)
right_at b (k ∷ ks) e zero h = rw add-zero (and-true (right b k) (tested (suc b) ks) e).0
right_at b (k ∷ ks) e (suc i) h = rw (add-suc, ← suc-add) (right_at (suc b) ks (and-true (right b k) (tested (suc b) ks) e).1 i (omega arith))

entry : (ks : List ℕ) → tested 0 ks ≡ true → (b : ℕ) → b < length ks → Cell b (get_or ks b 0)
entry ks e b h =
    let k = get_or ks b 0 in
    let r = and-true (in_classes b k) (eqb (k % 2) (flag (member Nucleotide b))) (rw zero-add at (right_at 0 ks e b h)) in
    record {
      rule = λ class. equal (numbered class k) (member class b) (every_class_lem (λ (class : Class). beq (numbered class k) (member class b)) r.0 class);
      odd = eqb-true (k % 2) (flag (member Nucleotide b)) r.1;
    }

table_rule : (b : ℕ) → b < 256 → Cell b (get_or class_table b 0)
unfolding digit letter alphanumeric nucleotide residue member within lowest highest numbered flag
table_rule = entry class_table refl

pub table : IsTable class_table
table = record { cell = table_rule }
