-- The texts of INFO and CONNECT: each byte is ASCII and none is CR, and there are few.
use Rattle.std.proofs.Common.{◌≡◌, ℕ, ◌+◌, ◌^◌, ◌≤◌, ◌<◌, Bool, true, false, not, ◌||◌, List, [], ◌∷◌, ◌++◌, length, refl, ap, ◌∙◌, arith, length-append, None}
use Rattle.std.specs.Prelude.{nat_le, nat_eq, decimal, codes}
use Rattle.std.specs.List.{list_any}
use Rattle.std.specs.Char.{is_ascii_digit}
use Rattle.std.specs.Str.{IsAscii, IsUtf8}
use Rattle.std.proofs.lemmas.Bool.Decides.{nat_tests}
use Rattle.std.proofs.lemmas.Fmt.{length-decimal-le}
use Rattle.std.proofs.lemmas.Str.{IsUtf8-from_ascii}
use Rattle.std.proofs.lemmas.Str.Ascii.{IsAscii-nil, IsAscii-cons}
use Rattle.json.specs.Print.{escape_byte, escape, quoted}
use Rattle.json.proofs.Printed.Strings.{escape_byte_plain}
use Rattle.serde_json.specs.Data.{Data, string, Members, no_members, member}
use Rattle.serde_json.specs.Written.{comma_if, compact_text, members_text}
use Rattle.subj.specs.declared.limits.TheConstants.{MAX_COUNTER, MAX_INCARNATION}
use Rattle.subj.specs.Names.{is_node_name_byte, has_no_name_byte, node_name_fault}
use Rattle.route_values.specs.Records.{Info, Connect, is_serial}
use Rattle.route_values.specs.Valid.{IsInfo, IsConnect}
use Rattle.route_frames.specs.Canonical.{number_data, info_json, connect_json}
use Rattle.route_frames.proofs.Canonical.Fields.{all_digits, node_short, node_plain}
use Rattle.route_frames.proofs.Cuts.Spaces.{digits_lack, none_in_both}

-- what no greeting holds
abbrev is_other : ℕ → Bool
is_other byte = nat_le 128 byte || nat_eq byte 13

pub record IsPlainText (most : ℕ) (text : List ℕ) : Type 0 where
  pub plain : list_any is_other text ≡ false
  pub short : length text ≤ most

-- ---- so it is UTF-8, and has no CR

parts_of : (byte : ℕ) (rest : Bool)
    → (is_other byte || rest) ≡ false
    → (byte < 128) × (nat_eq byte 13 ≡ false) × (rest ≡ false)
parts_of byte rest e = grind (arith, nat_tests)

ascii : (text : List ℕ) → list_any is_other text ≡ false → IsAscii text
ascii [] e = IsAscii-nil
ascii (byte ∷ bytes) e =
    let parts = parts_of byte (list_any is_other bytes) e in IsAscii-cons byte bytes parts.0 (ascii bytes parts.2)

pub plain_is_utf8 : (text : List ℕ) → list_any is_other text ≡ false → IsUtf8 text
plain_is_utf8 text e = IsUtf8-from_ascii text (ascii text e)

pub plain_without_cr : (text : List ℕ) → list_any is_other text ≡ false → list_any (λ byte. nat_eq byte 13) text ≡ false
plain_without_cr [] e = refl
plain_without_cr (byte ∷ bytes) e =
    let parts = parts_of byte (list_any is_other bytes) e in
    ap (λ b. b || list_any (λ byte. nat_eq byte 13) bytes) parts.1 ∙ plain_without_cr bytes parts.2

-- ---- one text behind another

pub both_plain : (one two all : ℕ) (front behind : List ℕ)
    → IsPlainText one front
    → IsPlainText two behind
    → one + two ≤ all
    → IsPlainText all (front ++ behind)
both_plain one two all front behind is is_too fits =
    let first = is.short in
    let second = is_too.short in
    record {
      plain = none_in_both is_other front behind is.plain is_too.plain;
      short = omega (arith, length-append front behind);
    }

-- ---- numbers and names

digit_is_plain : (byte : ℕ) → is_ascii_digit byte ≡ true → is_other byte ≡ false
digit_is_plain byte e = grind (arith, nat_tests)

number_is_plain : (n : ℕ) → n < 10 ^ 16 → IsPlainText 16 (decimal n)
number_is_plain n small = record {
  plain = digits_lack is_other digit_is_plain (decimal n) (all_digits n (omega arith));
  short = length-decimal-le 16 n (omega arith) (omega arith) (omega arith);
}

record IsNameByte (byte : ℕ) (rest : Bool) : Type 0 where
  plain : is_other byte ≡ false
  no_quote : byte ≡ 34 → ⊥
  no_backslash : byte ≡ 92 → ⊥
  shown : 32 ≤ byte
  others : rest ≡ false

name_byte : (byte : ℕ) (rest : Bool) → (not (is_node_name_byte byte) || rest) ≡ false → IsNameByte byte rest
name_byte byte rest e = record {
  plain = grind (arith, nat_tests);
  no_quote = λ is. grind (arith, nat_tests);
  no_backslash = λ is. grind (arith, nat_tests);
  shown = grind (arith, nat_tests);
  others = grind (arith, nat_tests);
}

name_is_plain : (name : List ℕ) → has_no_name_byte name ≡ false → list_any is_other name ≡ false
name_is_plain [] e = refl
name_is_plain (byte ∷ bytes) e =
    let is = name_byte byte (has_no_name_byte bytes) e in
    ap (λ b. b || list_any is_other bytes) is.plain ∙ name_is_plain bytes is.others

-- a name needs no escape
name_unescaped : (name : List ℕ) → has_no_name_byte name ≡ false → escape name ≡ name
name_unescaped [] e = refl
name_unescaped (byte ∷ bytes) e =
    let is = name_byte byte (has_no_name_byte bytes) e in
    ap (λ front. front ++ escape bytes) (escape_byte_plain byte is.no_quote is.no_backslash is.shown)
    ∙ ap (λ rest. byte ∷ rest) (name_unescaped bytes is.others)

quoted_is_plain : (name : List ℕ) → node_name_fault name ≡ None → IsPlainText 34 (quoted name)
quoted_is_plain name e =
    let plain = node_plain name e in
    let short = node_short name e in
    let same : quoted name ≡ 34 ∷ (name ++ 34 ∷ []) = ap (λ text. 34 ∷ (text ++ 34 ∷ [])) (name_unescaped name plain) in
    let len : length (quoted name) ≡ length (34 ∷ (name ++ 34 ∷ [])) = ap length same in
    record {
      plain = ap (list_any is_other) same ∙ none_in_both is_other name (34 ∷ []) (name_is_plain name plain) refl;
      short = omega (arith, len, length-append name (34 ∷ []));
    }

-- ---- members

end_is_plain : IsPlainText 1 (members_text true no_members)
end_is_plain = record { plain = refl; short = omega arith }

comma_is_plain : (later : Bool) → IsPlainText 1 (comma_if later)
comma_is_plain true = record { plain = refl; short = omega arith }
comma_is_plain false = record { plain = refl; short = omega arith }

member_is_plain : (later : Bool) (most rest all : ℕ) (key : List ℕ) (value : Data) (others : Members)
    → IsPlainText 13 (quoted key)
    → IsPlainText most (compact_text value)
    → IsPlainText rest (members_text true others)
    → 15 + most + rest ≤ all
    → IsPlainText all (members_text later (member key value others))
member_is_plain later most rest all key value others key_is value_is others_are fits =
    both_plain 1 (14 + most + rest) all (comma_if later) _ (comma_is_plain later)
    (both_plain 13 (1 + most + rest) (14 + most + rest) (quoted key) _ key_is
    (both_plain 1 (most + rest) (1 + most + rest) (58 ∷ []) _ (record { plain = refl; short = omega arith })
    (both_plain most rest (most + rest) (compact_text value) _ value_is others_are (omega arith)) (omega arith))
    (omega arith))
    (omega arith)

-- the keys of a greeting
record AreKeys : Type 0 where
  inc : IsPlainText 13 (quoted (codes "inc"))
  serial : IsPlainText 13 (quoted (codes "serial"))
  server_name : IsPlainText 13 (quoted (codes "server_name"))
  to : IsPlainText 13 (quoted (codes "to"))
  to_inc : IsPlainText 13 (quoted (codes "to_inc"))

keys : AreKeys
unfolding escape_byte
keys = record {
  inc = record { plain = refl; short = omega arith };
  serial = record { plain = refl; short = omega arith };
  server_name = record { plain = refl; short = omega arith };
  to = record { plain = refl; short = omega arith };
  to_inc = record { plain = refl; short = omega arith };
}

-- ---- INFO and CONNECT

incarnation_is_plain : (inc : ℕ) → inc ≤ MAX_INCARNATION → IsPlainText 16 (decimal inc)
incarnation_is_plain inc most = number_is_plain inc (omega arith)

pub info_text : (info : Info) → IsInfo info → IsPlainText 200 (codes "INFO " ++ compact_text (info_json info))
info_text info is =
    let most = (is.inc).most in
    let named : Members = member (codes "server_name") (string info.server_name) no_members in
    let name_is = member_is_plain true 34 1 60 (codes "server_name") (string info.server_name) no_members
    keys.server_name (quoted_is_plain info.server_name is.server_name) end_is_plain (omega arith) in
    both_plain 6 100 200 (codes "INFO " ++ 123 ∷ [])
    (members_text false (member (codes "inc") (number_data info.inc) named))
    (record { plain = refl; short = omega arith })
    (member_is_plain false 16 60 100 (codes "inc") (number_data info.inc) named keys.inc
    (incarnation_is_plain info.inc most) name_is (omega arith))
    (omega arith)

pub serial_range : (serial : ℕ) → is_serial serial ≡ true → (1 ≤ serial) × (serial ≤ MAX_COUNTER)
serial_range serial is = grind (arith, nat_tests)

pub connect_text : (connect : Connect)
    → IsConnect connect
    → IsPlainText 300 (codes "CONNECT " ++ compact_text (connect_json connect))
connect_text connect is =
    let most = (is.inc).most in
    let to_most = (is.to_inc).most in
    let serial_most = (serial_range connect.serial is.serial).1 in
    let from_to_inc : Members = member (codes "to_inc") (number_data connect.to_inc) no_members in
    let from_to : Members = member (codes "to") (string connect.to) from_to_inc in
    let from_name : Members = member (codes "server_name") (string connect.server_name) from_to in
    let from_serial : Members = member (codes "serial") (number_data connect.serial) from_name in
    let to_inc_is = member_is_plain true 16 1 40 (codes "to_inc") (number_data connect.to_inc) no_members keys.to_inc
    (incarnation_is_plain connect.to_inc to_most) end_is_plain (omega arith) in
    let to_is = member_is_plain true 34 40 90 (codes "to") (string connect.to) from_to_inc keys.to
    (quoted_is_plain connect.to is.to) to_inc_is (omega arith) in
    let name_is = member_is_plain true 34 90 140 (codes "server_name") (string connect.server_name) from_to
    keys.server_name (quoted_is_plain connect.server_name is.server_name) to_is (omega arith) in
    let serial_is = member_is_plain true 16 140 180 (codes "serial") (number_data connect.serial) from_name keys.serial
    (number_is_plain connect.serial (omega arith)) name_is (omega arith) in
    both_plain 9 220 300 (codes "CONNECT " ++ 123 ∷ [])
    (members_text false (member (codes "inc") (number_data connect.inc) from_serial))
    (record { plain = refl; short = omega arith })
    (member_is_plain false 16 180 220 (codes "inc") (number_data connect.inc) from_serial keys.inc
    (incarnation_is_plain connect.inc most) serial_is (omega arith))
    (omega arith)
