-- The fields of what is spelt with one space between them.
use Rattle.std.proofs.Common.{◌≡◌, ℕ, ◌+◌, ◌-◌, ◌*◌, ◌^◌, ◌≤◌, ◌<◌, Bool, true, false, not, ◌&&◌, ◌||◌, cond, List, [], ◌∷◌, ◌++◌, length, refl, ap, ◌∙◌, arith, rules, Option, Some, None}
use Rattle.std.specs.Prelude.{nat_lt, nat_le, nat_eq, decimal}
use Rattle.std.specs.List.{list_any}
use Rattle.std.specs.Option.{option_or}
use Rattle.std.specs.Char.{is_ascii_digit}
use Rattle.std.specs.Str.{all_ascii_digits}
use Rattle.std.specs.Str.Parse.{digits_value}
use Rattle.std.proofs.lemmas.Bool.{le-leb}
use Rattle.std.proofs.lemmas.Bool.Decides.{nat_tests}
use Rattle.std.proofs.lemmas.Fmt.{digits_decimal, decimal_is_IsNumeral, length-decimal-le, decimal_nonempty}
use Rattle.std.proofs.lemmas.Str.Parse.{IsNumeralModel, numerals_by_fold}
use Rattle.list_laws.specs.Lists.{is_empty}
use Rattle.line_fields.specs.Fields.{is_blank, is_digit_field, number_of}
use Rattle.line_fields.specs.Spelling.{IsField, FieldsFollow}
use Rattle.subj.specs.declared.limits.TheConstants.{MAX_SUBJECT, MAX_QUEUE_NAME, MAX_NODE_NAME}
use Rattle.subj.specs.declared.faults.NameFault.TheVariants.{TooLong, BadByte}
use Rattle.subj.specs.Names as names
use Rattle.route_frames.specs.Canonical.{fields_with_spaces}

abbrev pub AreFields : List (List ℕ) → Type 0
AreFields [] = Unit {0}
AreFields (field ∷ fields) = IsField field × AreFields fields

pub follow_spaced : (fields : List (List ℕ)) → AreFields fields → FieldsFollow fields (fields_with_spaces fields)
follow_spaced [] are = refl
follow_spaced (field ∷ fields) are = record {
  gap = 32 ∷ [];
  rest = fields_with_spaces fields;
  whole = refl;
  is_gap = (refl, refl);
  is_field = are.0;
  follows = follow_spaced fields are.1;
}

pub append_fields : (front behind : List (List ℕ)) → AreFields front → AreFields behind → AreFields (front ++ behind)
append_fields [] behind are are_too = are_too
append_fields (field ∷ front) behind are are_too = (are.0, append_fields front behind are.1 are_too)

-- ---- names are fields

no_blank_byte : (byte : ℕ) (rest : Bool)
    → (names.is_forbidden byte || rest) ≡ false
    → (is_blank byte ≡ false) × (rest ≡ false)
no_blank_byte byte rest e = grind (arith, nat_tests)

no_blanks : (text : List ℕ) → names.has_forbidden text ≡ false → list_any is_blank text ≡ false
no_blanks [] e = refl
no_blanks (byte ∷ bytes) e =
    let head = no_blank_byte byte (names.has_forbidden bytes) e in
    ap (λ b. b || list_any is_blank bytes) head.0 ∙ no_blanks bytes head.1

plain_by : (most : ℕ) (bad : Bool) (text : List ℕ)
    → names.text_fault most bad text ≡ None
    → (is_empty text ≡ false) × (bad ≡ false)
plain_by most bad [] e = absurd (cc)
plain_by most bad (byte ∷ bytes) e = (refl, chosen (nat_lt most (length (byte ∷ bytes))) bad e) where
  chosen : (long bad : Bool) → cond long (Some TooLong) (cond bad (Some BadByte) None) ≡ None → bad ≡ false
  chosen true bad e = absurd (cc)
  chosen false true e = absurd (cc)
  chosen false false e = refl

pub queue_is_field : (name : List ℕ) → names.queue_name_fault name ≡ None → IsField name
queue_is_field name e = let plain = plain_by _ (names.has_forbidden name) name e in (plain.0, no_blanks name plain.1)

first_none : {A : Type 0} (a b : Option A) → option_or a b ≡ None → a ≡ None
first_none None b e = refl
first_none (Some x) b e = absurd (cc)

pub subject_is_field : (text : List ℕ) → names.subject_fault text ≡ None → IsField text
subject_is_field text e =
    let plain = plain_by _ (names.has_forbidden text) text
    (first_none (names.forbidden_fault MAX_SUBJECT text) (names.subject_token_fault (names.tokens text)) e) in
    (plain.0, no_blanks text plain.1)

pub pattern_is_field : (text : List ℕ) → names.pattern_fault text ≡ None → IsField text
pattern_is_field text e =
    let plain = plain_by _ (names.has_forbidden text) text
    (first_none (names.forbidden_fault MAX_SUBJECT text) (names.pattern_token_fault (names.tokens text)) e) in
    (plain.0, no_blanks text plain.1)

pub queue_plain : (name : List ℕ) → names.queue_name_fault name ≡ None → names.has_forbidden name ≡ false
queue_plain name e = (plain_by _ (names.has_forbidden name) name e).1

pub pattern_plain : (text : List ℕ) → names.pattern_fault text ≡ None → names.has_forbidden text ≡ false
pattern_plain text e =
    (plain_by _ (names.has_forbidden text) text
    (first_none (names.forbidden_fault MAX_SUBJECT text) (names.pattern_token_fault (names.tokens text)) e)).1

name_byte : (byte : ℕ) (rest : Bool)
    → (not (names.is_node_name_byte byte) || rest) ≡ false
    → (is_blank byte ≡ false) × (rest ≡ false)
name_byte byte rest e = grind (arith, nat_tests)

name_bytes : (text : List ℕ) → names.has_no_name_byte text ≡ false → list_any is_blank text ≡ false
name_bytes [] e = refl
name_bytes (byte ∷ bytes) e =
    let head = name_byte byte (names.has_no_name_byte bytes) e in
    ap (λ b. b || list_any is_blank bytes) head.0 ∙ name_bytes bytes head.1

pub node_is_field : (name : List ℕ) → names.node_name_fault name ≡ None → IsField name
node_is_field name e = let plain = plain_by _ (names.has_no_name_byte name) name e in (plain.0, name_bytes name plain.1)

-- ---- numbers are fields, and are read again

digit_byte : (byte : ℕ) (rest : Bool) → (is_ascii_digit byte && rest) ≡ true → (is_blank byte ≡ false) × (rest ≡ true)
digit_byte byte rest e = grind (arith, nat_tests)

digit_bytes : (text : List ℕ) → all_ascii_digits text ≡ true → list_any is_blank text ≡ false
digit_bytes [] e = refl
digit_bytes (byte ∷ bytes) e =
    let head = digit_byte byte (all_ascii_digits bytes) e in
    ap (λ b. b || list_any is_blank bytes) head.0 ∙ digit_bytes bytes head.1

abbrev read_on : ℕ → List ℕ → ℕ
read_on n [] = n
read_on n (byte ∷ bytes) = read_on (10 * n + (byte - 48)) bytes

own : IsNumeralModel (λ digits. all_ascii_digits digits ≡ true) (read_on 0)
own = numerals_by_fold _ (search rules) read_on (search rules)

some_bytes : (text : List ℕ) → 0 < length text → is_empty text ≡ false
some_bytes [] some = absurd (omega arith)
some_bytes (byte ∷ bytes) some = refl

pub all_digits : (n : ℕ) → n < 2 ^ 64 → all_ascii_digits (decimal n) ≡ true
all_digits n small = digits_decimal own n small

pub number_is_field : (n : ℕ) → n < 2 ^ 64 → IsField (decimal n)
number_is_field n small = (
  some_bytes (decimal n) (decimal_nonempty n small),
  digit_bytes (decimal n) (all_digits n small),
)

digit_field : (most : ℕ) (field : List ℕ) (empty short digits : Bool)
    → is_empty field ≡ empty
    → nat_le (length field) most ≡ short
    → all_ascii_digits field ≡ digits
    → empty ≡ false
    → short ≡ true
    → digits ≡ true
    → is_digit_field most field ≡ true
digit_field most field empty short digits e s d none some all = grind (arith, nat_tests)

pub number_again : (most n : ℕ) → 0 < most → n < 10 ^ most → n < 2 ^ 64 → number_of most (decimal n) ≡ Some n
number_again most n some short small =
    let is : is_digit_field most (decimal n) ≡ true = digit_field most (decimal n) _ _ _ refl refl refl
    (some_bytes (decimal n) (decimal_nonempty n small)) (le-leb _ _ (length-decimal-le most n some short small))
    (all_digits n small) in
    ap (λ b. cond b (Some (digits_value 10 (decimal n))) None) is ∙ ap (λ n. Some n) (decimal_is_IsNumeral n small).1

-- ---- names are short

short_by : (most : ℕ) (bad : Bool) (text : List ℕ) → names.text_fault most bad text ≡ None → length text ≤ most
short_by most bad [] e = absurd (cc)
short_by most bad (byte ∷ bytes) e = chosen (nat_lt most (length (byte ∷ bytes))) bad refl e where
  chosen : (long bad : Bool)
      → nat_lt most (length (byte ∷ bytes)) ≡ long
      → cond long (Some TooLong) (cond bad (Some BadByte) None) ≡ None
      → length (byte ∷ bytes) ≤ most
  chosen true bad is e = absurd (cc)
  chosen false bad is e = grind (arith, nat_tests)

pub subject_short : (text : List ℕ) → names.subject_fault text ≡ None → length text ≤ MAX_SUBJECT
subject_short text e =
    short_by MAX_SUBJECT (names.has_forbidden text) text
    (first_none (names.forbidden_fault MAX_SUBJECT text) (names.subject_token_fault (names.tokens text)) e)

pub pattern_short : (text : List ℕ) → names.pattern_fault text ≡ None → length text ≤ MAX_SUBJECT
pattern_short text e =
    short_by MAX_SUBJECT (names.has_forbidden text) text
    (first_none (names.forbidden_fault MAX_SUBJECT text) (names.pattern_token_fault (names.tokens text)) e)

pub queue_short : (name : List ℕ) → names.queue_name_fault name ≡ None → length name ≤ MAX_QUEUE_NAME
queue_short name e = short_by MAX_QUEUE_NAME (names.has_forbidden name) name e

pub node_short : (name : List ℕ) → names.node_name_fault name ≡ None → length name ≤ MAX_NODE_NAME
node_short name e = short_by MAX_NODE_NAME (names.has_no_name_byte name) name e

pub subject_plain : (text : List ℕ) → names.subject_fault text ≡ None → names.has_forbidden text ≡ false
subject_plain text e =
    (plain_by _ (names.has_forbidden text) text
    (first_none (names.forbidden_fault MAX_SUBJECT text) (names.subject_token_fault (names.tokens text)) e)).1

cr_byte : (byte : ℕ) (rest : Bool)
    → (not (names.is_node_name_byte byte) || rest) ≡ false
    → (nat_eq byte 13 ≡ false) × (rest ≡ false)
cr_byte byte rest e = grind (arith, nat_tests)

no_cr_in : (text : List ℕ) → names.has_no_name_byte text ≡ false → list_any (λ byte. nat_eq byte 13) text ≡ false
no_cr_in [] e = refl
no_cr_in (byte ∷ bytes) e =
    let head = cr_byte byte (names.has_no_name_byte bytes) e in
    ap (λ b. b || list_any (λ byte. nat_eq byte 13) bytes) head.0 ∙ no_cr_in bytes head.1

pub node_plain : (name : List ℕ) → names.node_name_fault name ≡ None → names.has_no_name_byte name ≡ false
node_plain name e = (plain_by _ (names.has_no_name_byte name) name e).1

pub node_without_cr : (name : List ℕ)
    → names.node_name_fault name ≡ None
    → list_any (λ byte. nat_eq byte 13) name ≡ false
node_without_cr name e = no_cr_in name (node_plain name e)
