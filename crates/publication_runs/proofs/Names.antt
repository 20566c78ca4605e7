-- Names and digits in a line: they are fields, they hold no CR, and they are short.
use Rattle.std.proofs.Common.{◌≡◌, ℕ, ◌+◌, ◌-◌, ◌*◌, ◌^◌, ◌≤◌, ◌<◌, Bool, true, false, ◌||◌, cond, List, [], ◌∷◌, length, refl, ap, ◌∙◌, arith, rules, Option, Some, None}
use Rattle.std.specs.Prelude.{nat_lt, nat_le, decimal}
use Rattle.std.specs.List.{list_any}
use Rattle.std.specs.Option.{option_or}
use Rattle.std.specs.Char.{is_ascii_digit}
use Rattle.std.specs.Str.{all_ascii_digits}
use Rattle.std.specs.Str.Parse.{digits_value}
use Rattle.std.proofs.lemmas.Bool.{le-leb}
use Rattle.std.proofs.lemmas.Bool.Decides.{nat_tests}
use Rattle.std.proofs.lemmas.Fmt.{digits_decimal, decimal_is_IsNumeral, length-decimal-le, decimal_nonempty}
use Rattle.std.proofs.lemmas.Str.Parse.{IsNumeralModel, numerals_by_fold}
use Rattle.memchr.specs.Find.{is_byte}
use Rattle.list_laws.specs.Lists.{is_empty}
use Rattle.list_laws.proofs.Tests.{and_true, or_false, le_true}
use Rattle.line_fields.specs.Fields.{is_blank, is_digit_field, number_of}
use Rattle.line_fields.specs.Spelling.{IsField}
use Rattle.subj.specs.declared.limits.TheConstants.{MAX_SUBJECT}
use Rattle.subj.specs.declared.faults.NameFault.TheVariants.{TooLong, BadByte}
use Rattle.subj.specs.Names as names
use Rattle.publication_runs.specs.Cuts.{blank, cr, HasNo}

-- a field of a line, without CR, and at most so long
pub record IsShortField (most : ℕ) (text : List ℕ) : Type 0 where
  pub is_field : IsField text
  pub no_blank : HasNo blank text
  pub no_cr : HasNo cr text
  pub short : length text ≤ most

-- ---- a byte that no name has

lacks : (p : ℕ → Bool)
    → ((byte : ℕ) → names.is_forbidden byte ≡ false → p byte ≡ false)
    → (text : List ℕ)
    → names.has_forbidden text ≡ false
    → list_any p text ≡ false
lacks p never [] e = refl
lacks p never (x ∷ xs) e =
    let parts = or_false (names.is_forbidden x) (names.has_forbidden xs) e in
    ap (λ b. b || list_any p xs) (never x parts.0) ∙ lacks p never xs parts.1

no_cr_in_names : (byte : ℕ) → names.is_forbidden byte ≡ false → is_byte cr byte ≡ false
no_cr_in_names byte e = grind (arith, nat_tests)

no_space_in_names : (byte : ℕ) → names.is_forbidden byte ≡ false → is_byte blank byte ≡ false
no_space_in_names byte e = grind (arith, nat_tests)

no_blank_in_names : (byte : ℕ) → names.is_forbidden byte ≡ false → is_blank byte ≡ false
no_blank_in_names byte e = grind (arith, nat_tests)

-- ---- subjects

plain_by : (most : ℕ) (bad : Bool) (text : List ℕ)
    → names.text_fault most bad text ≡ None
    → (is_empty text ≡ false) × (bad ≡ false) × (length text ≤ most)
plain_by most bad [] e = absurd (cc)
plain_by most bad (byte ∷ bytes) e =
    let parts = chosen (nat_lt most (length (byte ∷ bytes))) bad refl e in (refl, parts.0, parts.1)
  where
    chosen : (long bad : Bool)
        → nat_lt most (length (byte ∷ bytes)) ≡ long
        → cond long (Some TooLong) (cond bad (Some BadByte) None) ≡ None
        → (bad ≡ false) × (length (byte ∷ bytes) ≤ most)
    chosen true bad is e = absurd (cc)
    chosen false true is e = absurd (cc)
    chosen false false is e = (refl, grind (arith, nat_tests))

first_none : {A : Type 0} (a b : Option A) → option_or a b ≡ None → a ≡ None
first_none None b e = refl
first_none (Some x) b e = absurd (cc)

pub subject_is_short : (text : List ℕ) → names.subject_fault text ≡ None → IsShortField MAX_SUBJECT text
subject_is_short text e =
    let plain =
    plain_by _ (names.has_forbidden text) text
    (first_none (names.forbidden_fault MAX_SUBJECT text) (names.subject_token_fault (names.tokens text)) e) in
    record {
      is_field = (plain.0, lacks is_blank no_blank_in_names text plain.1);
      no_blank = lacks (is_byte blank) no_space_in_names text plain.1;
      no_cr = lacks (is_byte cr) no_cr_in_names text plain.1;
      short = plain.2;
    }

-- ---- digits

digits_lack : (p : ℕ → Bool)
    → ((byte : ℕ) → is_ascii_digit byte ≡ true → p byte ≡ false)
    → (text : List ℕ)
    → all_ascii_digits text ≡ true
    → list_any p text ≡ false
digits_lack p never [] e = refl
digits_lack p never (x ∷ xs) e =
    let parts = and_true (is_ascii_digit x) (all_ascii_digits xs) e in
    ap (λ b. b || list_any p xs) (never x parts.0) ∙ digits_lack p never xs parts.1

no_cr_in_digits : (byte : ℕ) → is_ascii_digit byte ≡ true → is_byte cr byte ≡ false
no_cr_in_digits byte e = grind (arith, nat_tests)

no_space_in_digits : (byte : ℕ) → is_ascii_digit byte ≡ true → is_byte blank byte ≡ false
no_space_in_digits byte e = grind (arith, nat_tests)

no_blank_in_digits : (byte : ℕ) → is_ascii_digit byte ≡ true → is_blank byte ≡ false
no_blank_in_digits byte e = grind (arith, nat_tests)

digits_by : (most : ℕ) (field : List ℕ) (n : ℕ) (digits : Bool)
    → is_digit_field most field ≡ digits
    → cond digits (Some (digits_value 10 field)) None ≡ Some n
    → is_digit_field most field ≡ true
digits_by most field n true is e = is
digits_by most field n false is e = absurd (cc)

digit_parts : (most : ℕ) (field : List ℕ) (empty short digits : Bool)
    → is_empty field ≡ empty
    → nat_le (length field) most ≡ short
    → all_ascii_digits field ≡ digits
    → is_digit_field most field ≡ true
    → (empty ≡ false) × (short ≡ true) × (digits ≡ true)
digit_parts most field empty short digits e s d is = grind (arith, nat_tests)

pub number_is_short : (most : ℕ) (field : List ℕ) (n : ℕ) → number_of most field ≡ Some n → IsShortField most field
number_is_short most field n e =
    let parts = digit_parts most field _ _ _ refl refl refl (digits_by most field n _ refl e) in
    record {
      is_field = (parts.0, digits_lack is_blank no_blank_in_digits field parts.2);
      no_blank = digits_lack (is_byte blank) no_space_in_digits field parts.2;
      no_cr = digits_lack (is_byte cr) no_cr_in_digits field parts.2;
      short = le_true _ _ parts.1;
    }

-- ---- a number in decimal

abbrev read_on : ℕ → List ℕ → ℕ
read_on n [] = n
read_on n (byte ∷ bytes) = read_on (10 * n + (byte - 48)) bytes

own : IsNumeralModel (λ digits. all_ascii_digits digits ≡ true) (read_on 0)
own = numerals_by_fold _ (search rules) read_on (search rules)

some_bytes : (text : List ℕ) → 0 < length text → is_empty text ≡ false
some_bytes [] some = absurd (omega arith)
some_bytes (byte ∷ bytes) some = refl

digit_field : (most : ℕ) (field : List ℕ) (empty short digits : Bool)
    → is_empty field ≡ empty
    → nat_le (length field) most ≡ short
    → all_ascii_digits field ≡ digits
    → empty ≡ false
    → short ≡ true
    → digits ≡ true
    → is_digit_field most field ≡ true
digit_field most field empty short digits e s d none some all = grind (arith, nat_tests)

pub number_again : (most n : ℕ)
    → 0 < most
    → n < 10 ^ most
    → n < 2 ^ 64
    → number_of most (decimal n) ≡ Some n
number_again most n some short small =
    let is : is_digit_field most (decimal n) ≡ true =
    digit_field most (decimal n) _ _ _ refl refl refl (some_bytes (decimal n) (decimal_nonempty n small))
    (le-leb _ _ (length-decimal-le most n some short small)) (digits_decimal own n small) in
    ap (λ b. cond b (Some (digits_value 10 (decimal n))) None) is ∙ ap (λ n. Some n) (decimal_is_IsNumeral n small).1
