-- Reading a number digit by digit.
use Rattle.std.proofs.Common.{◌≡◌, ℕ, suc, ◌+◌, ◌-◌, ◌*◌, ◌^◌, ◌<◌, ◌≤◌, true, false, ◌&&◌, List, length, take, drop, get_or, ap, sym, ◌∙◌, arith, add-one, pow-suc}
use Rattle.std.proofs.Math.Seq.{drop-cons}
use Rattle.std.proofs.lemmas.Int.Digits.{digits_value_more}
use Rattle.std.proofs.lemmas.Bool.Decides.{nat_tests}
use Rattle.std.proofs.Math.Nat.{pow-le-pow_right}
use Rattle.std.specs.Char.{is_ascii_digit, digit_value}
use Rattle.line_fields.specs.declared.digits.TheConstants.{MAX_DIGITS}
use Rattle.std.specs.Str.{all_ascii_digits}
use Rattle.std.specs.Str.Parse.{digits_value}

-- the digits that are left decide as all do
abbrev pub Decides_digits : List ℕ → ℕ → Type 0
Decides_digits field i = all_ascii_digits (drop i field) ≡ all_ascii_digits field

at : (field : List ℕ) (i : ℕ)
    → i < length field
    → Decides_digits field i
    → (is_ascii_digit (get_or field i 0) && all_ascii_digits (drop (suc i) field)) ≡ all_ascii_digits field
at field i l left = sym (ap all_ascii_digits (drop-cons field i 0 l)) ∙ left

pub no_digit : (field : List ℕ) (i : ℕ)
    → i < length field
    → Decides_digits field i
    → is_ascii_digit (get_or field i 0) ≡ false
    → all_ascii_digits field ≡ false
no_digit field i l left other = sym (at field i l left) ∙ ap (λ b. b && all_ascii_digits (drop (suc i) field)) other

pub more_digits : (field : List ℕ) (i : ℕ)
    → i < length field
    → Decides_digits field i
    → is_ascii_digit (get_or field i 0) ≡ true
    → Decides_digits field (i + 1)
more_digits field i l left digit =
    ap (λ n. all_ascii_digits (drop n field)) (add-one i)
    ∙ sym (ap (λ b. b && all_ascii_digits (drop (suc i) field)) digit)
    ∙ at field i l left

digit_is : (c : ℕ) → is_ascii_digit c ≡ true → (digit_value c ≡ c - 48) × (c ≤ 57) × (48 ≤ c)
digit_is c digit = grind (arith, nat_tests)

pub more_value : (field : List ℕ) (i : ℕ)
    → i < length field
    → is_ascii_digit (get_or field i 0) ≡ true
    → digits_value 10 (take (i + 1) field) ≡ digits_value 10 (take i field) * 10 + (get_or field i 0 - 48)
more_value field i l digit =
    digits_value_more 10 field i l ∙ ap (λ d. digits_value 10 (take i field) * 10 + d) (digit_is _ digit).0

-- a number of so many digits is below this power of ten
pub still_small : (value i c : ℕ) → value < 10 ^ i → c ≤ 57 → value * 10 + (c - 48) < 10 ^ (i + 1)
still_small value i c small low = rw (add-one, pow-suc) (omega arith)

pub more_small : (field : List ℕ) (value i : ℕ)
    → value < 10 ^ i
    → is_ascii_digit (get_or field i 0) ≡ true
    → value * 10 + (get_or field i 0 - 48) < 10 ^ (i + 1)
more_small field value i small digit = still_small value i (get_or field i 0) small (digit_is _ digit).1

-- fewer digits than sixteen
pub below_last : (value i most : ℕ) → value < 10 ^ i → i < most → most ≤ MAX_DIGITS → value < 10 ^ 15
below_last value i most small before limit =
    let power : 10 ^ i ≤ 10 ^ 15 = pow-le-pow_right {n = 10} (omega arith) {i = i} {j = 15} (omega arith) in omega arith
