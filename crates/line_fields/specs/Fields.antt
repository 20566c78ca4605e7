-- A line as a list of fields.
use Rattle.std.specs.Prelude.{ℕ, Bool, true, false, not, ◌&&◌, ◌||◌, nat_eq, nat_le, List, [], ◌∷◌, length, map, filter, Option, Some, None, if◌then◌else◌}
use Rattle.std.specs.Borrow.{Bor}
use Rattle.std.specs.List.{slice_split}
use Rattle.std.specs.Str.{all_ascii_digits, bytes_eq, str_to_ascii_lowercase}
use Rattle.std.specs.Str.Parse.{digits_value}
use Rattle.list_laws.specs.Lists.{is_empty}

-- NATS documentation, "Client Protocol": fields are separated by spaces or tabs
abbrev pub is_blank : ℕ → Bool
is_blank byte = nat_eq byte 32 || nat_eq byte 9

abbrev pub is_field_byte : ℕ → Bool
is_field_byte byte = not (is_blank byte)

-- the pieces between blanks; several blanks count as one, and blanks at the ends as none
abbrev pub fields : List ℕ → List (List ℕ)
fields text = filter (λ piece. not (is_empty piece)) (slice_split is_blank text)

abbrev pub begins_with_blank : List ℕ → Bool
begins_with_blank [] = false
begins_with_blank (byte ∷ bytes) = is_blank byte

abbrev pub begins_with_field : List ℕ → Bool
begins_with_field [] = false
begins_with_field (byte ∷ bytes) = is_field_byte byte

-- profile: the operation stands at the very beginning of a line
abbrev pub line_fields : List ℕ → List (List ℕ)
line_fields line = if begins_with_blank line then [] else fields line

-- NATS documentation, "Client Protocol": the ASCII letters of an operation ignore case
abbrev pub is_word : List ℕ → List ℕ → Bool
is_word word field = bytes_eq (str_to_ascii_lowercase field) (str_to_ascii_lowercase word)

-- profile: a number is ASCII digits, at least one and at most so many
abbrev pub is_digit_field : ℕ → List ℕ → Bool
is_digit_field most field =
    not (is_empty field) && (nat_le (length field) most && all_ascii_digits field)

-- the number that a field spells
abbrev pub number_of : ℕ → List ℕ → Option ℕ
number_of most field = if is_digit_field most field then Some (digits_value 10 field) else None

-- fields, without where they lie in memory
abbrev pub texts : List (Bor (List ℕ)) → List (List ℕ)
texts slices = map (λ slice. slice.now) slices
