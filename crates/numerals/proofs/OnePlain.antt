-- A number that fits has exactly one plain spelling, wherever it may stand.
use Rattle.std.specs.Prelude.{ℕ, zero, suc, ◌≤◌, ◌≡◌, refl, List, Bool, true, false, not, ℤ, pos, negsuc, neg_ℤ, nat_abs}
use Rattle.std.proofs.Common.{sym, ap, ◌∙◌, arith, ne_eqb, SFits}
use Rattle.std.specs.Int.{w32}
use Rattle.texts.proofs.Tests.{clash}
use Rattle.numerals.specs.declared.Sign.{Sign}
use Rattle.numerals.specs.declared.Sign.TheVariants.{Unsigned, Plus, Minus, Negated}
use Rattle.numerals.specs.Digits.{val, dec}
use Rattle.numerals.proofs.Decimals.{dec_value, dec_some}
use Rattle.numerals.specs.Spelling.{is_plain}
use Rattle.numerals.specs.Reading.{signed, most}
use Rattle.numerals.specs.Signs.{written_sign}
use Rattle.numerals.proofs.Signs.{signed_fits, sign_most, unsigned_most, or_zero_fit}
use Rattle.numerals.specs.Written.{Written}
use Rattle.numerals.proofs.Plain.{plain_dec, plus_never, dec_plain, minus_plain}
use Rattle.numerals.specs.OnePlain.{base_signs, offset_signs, no_signs, change_signs, OnePlain}

size : (sign : Sign) (v : ℕ) → nat_abs (signed sign v) ≡ v
size Unsigned v = refl
size Plus v = refl
size Minus zero = refl
size Minus (suc v) = refl
size Negated zero = refl
size Negated (suc v) = refl

-- whatever the sign, the digits are the decimal text
digits_only : {sign : Sign} {z : ℤ} {ds : List ℕ} → Written sign z ds → is_plain sign ds ≡ true → ds ≡ dec (nat_abs z)
digits_only {sign} {z} {ds} w p =
    let v : nat_abs z ≡ val ds = ap nat_abs (sym w.value ∙ or_zero_fit sign (val ds) w.fit) ∙ size sign (val ds) in
    sym (plain_dec sign ds w.digits p) ∙ ap dec (sym v)

-- and it is the sign with which the number is written
sign_only : (sign : Sign) {z : ℤ} {ds : List ℕ} → (sign ≡ Negated → ⊥) → Written sign z ds → is_plain sign ds ≡ true → sign ≡ written_sign z
unfolding written_sign
sign_only Unsigned {z} {ds} n w p = rw (sym w.value ∙ or_zero_fit Unsigned (val ds) w.fit)
sign_only Plus {z} {ds} n w p = absurd (plus_never ds p)
sign_only Minus {z} {ds} n w p = rw (sym w.value ∙ (minus_plain ds w.digits w.fit p).value)
sign_only Negated n w p = absurd (n refl)

dec_written : (sign : Sign) (v : ℕ) → v ≤ most sign → Written sign (signed sign v) (dec v)
dec_written sign v h = record { digits = dec_some v; fit = rw (dec_value v) h; value = rw (dec_value v) (or_zero_fit sign v h) }

number_plain : (z : ℤ) → SFits w32 z → Written (written_sign z) z (dec (nat_abs z)) × (is_plain (written_sign z) (dec (nat_abs z)) ≡ true)
unfolding written_sign
number_plain (pos v) f = (dec_written Unsigned v (unsigned_most v f), dec_plain Unsigned v refl)
number_plain (negsuc v) f = (dec_written Minus (suc v) (sign_most (negsuc v) f), dec_plain Minus (suc v) (ap not (ne_eqb (suc v) 0 (λ z. omega arith))))

signed_one : (signs : Sign → Bool) → signs Negated ≡ false → (z : ℤ) → SFits w32 z → signs (written_sign z) ≡ true → OnePlain signs z
signed_one signs n z f may =
    let p = number_plain z f in
    record {
      sign = written_sign z;
      digits = dec (nat_abs z);
      spelled = record { may = may; written = p.0; plain = p.1 };
      only = λ other ds s. (sign_only other (λ e. clash s.may (rw e n)) s.written s.plain, digits_only s.written s.plain);
    }

pub base_one : (z : ℤ) → SFits w32 z → OnePlain base_signs z
unfolding written_sign
base_one (pos v) f = signed_one base_signs refl (pos v) f refl
base_one (negsuc v) f = signed_one base_signs refl (negsuc v) f refl

pub offset_one : (z : ℤ) → SFits w32 z → OnePlain offset_signs z
unfolding written_sign
offset_one (pos v) f = signed_one offset_signs refl (pos v) f refl
offset_one (negsuc v) f = signed_one offset_signs refl (negsuc v) f refl

pub unsigned_one : (v : ℕ) → v ≤ most Unsigned → OnePlain no_signs (pos v)
unfolding written_sign
unsigned_one v h = signed_one no_signs refl (pos v) (signed_fits Unsigned v h) refl

pub change_one : (v : ℕ) → v ≤ most Negated → OnePlain change_signs (neg_ℤ (pos v))
change_one v h =
    record {
      sign = Negated;
      digits = dec v;
      spelled = record { may = refl; written = dec_written Negated v h; plain = dec_plain Negated v refl };
      only = λ other ds s. (negated other s.may, digits_only s.written s.plain ∙ ap dec (size Negated v));
    }
  where
    negated : (other : Sign) → change_signs other ≡ true → other ≡ Negated
    negated Unsigned e = absurd (clash e refl)
    negated Plus e = absurd (clash e refl)
    negated Minus e = absurd (clash e refl)
    negated Negated e = refl
