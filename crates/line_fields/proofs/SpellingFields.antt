-- The fields of a line are those that it is put together from.
use Rattle.std.proofs.Common.{◌≡◌, ℕ, ◌+◌, ◌≤◌, ◌<◌, Bool, true, false, not, ◌&&◌, ◌||◌, cond, List, [], ◌∷◌, ◌++◌, length, take, drop, refl, ap, sym, ◌∙◌, arith, subst, take-append-drop, take_all, ◌⊎◌, inl, inr}
use Rattle.std.specs.Prelude.{nat_lt}
use Rattle.std.specs.List.{slice_split, onto_first, position_or_len, list_all, list_any}
use Rattle.std.proofs.Math.Numerals.{one-add}
use Rattle.std.proofs.lemmas.List.{drop_all}
use Rattle.std.proofs.lemmas.Bool.Decides.{nat_tests}
use Rattle.list_laws.specs.Lists.{is_empty}
use Rattle.line_fields.specs.Fields.{is_blank, is_field_byte, fields, begins_with_blank, line_fields}
use Rattle.line_fields.specs.Spelling.{AreBlanks, IsGap, IsField, Begins, ComesNext, FieldsFollow}
use Rattle.line_fields.proofs.FieldLemmas.{kept, BeginsField, starts, skip, in_front}

-- the end of a line, or a blank
abbrev pub stops : List ℕ → Bool
stops [] = true
stops (x ∷ xs) = is_blank x

or_false : (a b : Bool) → (a || b) ≡ false → (a ≡ false) × (b ≡ false)
or_false true b e = absurd (cc)
or_false false b e = (refl, e)

and_true : (a b : Bool) → (a && b) ≡ true → (a ≡ true) × (b ≡ true)
and_true true b e = (refl, e)
and_true false b e = absurd (cc)

-- ---- from a spelling to the fields

fields-blank : (x : ℕ) (xs : List ℕ) → is_blank x ≡ true → fields (x ∷ xs) ≡ fields xs
fields-blank x xs e = ap (λ b. kept (cond b ([] ∷ slice_split is_blank xs) (onto_first x (slice_split is_blank xs)))) e

fields-gap : (gap rest : List ℕ) → AreBlanks gap → fields (gap ++ rest) ≡ fields rest
fields-gap [] rest blanks = refl
fields-gap (x ∷ gap) rest blanks =
    let parts = and_true (is_blank x) (list_all is_blank gap) blanks in
    fields-blank x (gap ++ rest) parts.0 ∙ fields-gap gap rest parts.1

-- the piece in front, and what the others are the fields of
record Splits (front rest : List ℕ) : Type 0 where
  others : List (List ℕ)
  is : slice_split is_blank (front ++ rest) ≡ front ∷ others
  same : kept others ≡ fields rest

splits : (front rest : List ℕ) → list_any is_blank front ≡ false → stops rest ≡ true → Splits front rest
splits [] [] plain stop = record { others = []; is = refl; same = refl }
splits [] (x ∷ xs) plain stop = record {
  others = slice_split is_blank xs;
  is = ap (λ b. cond b ([] ∷ slice_split is_blank xs) (onto_first x (slice_split is_blank xs))) stop;
  same = sym (fields-blank x xs stop);
}
splits (x ∷ front) rest plain stop =
    let parts = or_false (is_blank x) (list_any is_blank front) plain in
    let behind = splits front rest parts.1 stop in
    record {
      others = behind.others;
      is =
          ap (λ b.
          cond b ([] ∷ slice_split is_blank (front ++ rest)) (onto_first x (slice_split is_blank (front ++ rest))))
          parts.0
          ∙ ap (onto_first x) behind.is;
      same = behind.same;
    }

kept-field : (field : List ℕ) (others : List (List ℕ))
    → is_empty field ≡ false
    → kept (field ∷ others) ≡ field ∷ kept others
kept-field [] others some = absurd (cc)
kept-field (x ∷ xs) others some = refl

fields-field : (field rest : List ℕ) → IsField field → stops rest ≡ true → fields (field ++ rest) ≡ field ∷ fields rest
fields-field field rest is stop =
    let parts = splits field rest is.1 stop in
    ap kept parts.is ∙ kept-field field parts.others is.0 ∙ ap (λ others. field ∷ others) parts.same

stops-blanks : (gap rest : List ℕ) → AreBlanks gap → stops rest ≡ true → stops (gap ++ rest) ≡ true
stops-blanks [] rest blanks stop = stop
stops-blanks (x ∷ gap) rest blanks stop = (and_true (is_blank x) (list_all is_blank gap) blanks).0

stops-gap : (gap rest : List ℕ) → IsGap gap → stops (gap ++ rest) ≡ true
stops-gap [] rest is = absurd (let empty = is.0 in cc)
stops-gap (x ∷ gap) rest is = (and_true (is_blank x) (list_all is_blank gap) is.1).0

blanks_only : (bytes : List ℕ) → AreBlanks bytes → (fields bytes ≡ []) × (stops bytes ≡ true)
blanks_only [] blanks = (refl, refl)
blanks_only (x ∷ xs) blanks =
    let parts = and_true (is_blank x) (list_all is_blank xs) blanks in
    (fields-blank x xs parts.0 ∙ (blanks_only xs parts.1).0, parts.0)

pub fields_follow : (others : List (List ℕ)) (bytes : List ℕ)
    → FieldsFollow others bytes
    → (fields bytes ≡ others) × (stops bytes ≡ true)
fields_follow [] bytes follow = blanks_only bytes follow
fields_follow (field ∷ others) bytes follow =
    let later = fields_follow others follow.rest follow.follows in (
      ap fields follow.whole ∙ fields-gap follow.gap (field ++ follow.rest) follow.is_gap.1
          ∙ fields-field field follow.rest follow.is_field later.1 ∙ ap (λ fs. field ∷ fs) later.0,
      ap stops follow.whole ∙ stops-gap follow.gap (field ++ follow.rest) follow.is_gap,
    )

begins-field : (field rest : List ℕ) → IsField field → begins_with_blank (field ++ rest) ≡ false
begins-field [] rest is = absurd (let empty = is.0 in cc)
begins-field (x ∷ field) rest is = (or_false (is_blank x) (list_any is_blank field) is.1).0

pub line_fields_are : (operation : List ℕ) (arguments : List (List ℕ)) (line : List ℕ)
    → Begins operation line (FieldsFollow arguments)
    → line_fields line ≡ operation ∷ arguments
line_fields_are operation arguments line begins =
    let later = fields_follow arguments begins.rest begins.follows in
    ap line_fields begins.whole
    ∙ ap (λ b. cond b [] (fields (operation ++ begins.rest))) (begins-field operation begins.rest begins.is_field)
    ∙ fields-field operation begins.rest begins.is_field later.1 ∙ ap (λ fs. operation ∷ fs) later.0

-- ---- from the fields to a spelling

abbrev field_len : List ℕ → ℕ
field_len bytes = position_or_len is_blank bytes

plain_front_on : (x : ℕ) (xs : List ℕ) (b : Bool)
    → is_blank x ≡ b
    → list_any is_blank (take (field_len xs) xs) ≡ false
    → list_any is_blank (take (cond (not b) (1 + field_len xs) 0) (x ∷ xs)) ≡ false
plain_front_on x xs true e later = refl
plain_front_on x xs false e later =
    ap (λ n. list_any is_blank (take n (x ∷ xs))) (one-add (field_len xs))
    ∙ ap (λ b. b || list_any is_blank (take (field_len xs) xs)) e
    ∙ later

plain_front : (bytes : List ℕ) → list_any is_blank (take (field_len bytes) bytes) ≡ false
plain_front [] = refl
plain_front (x ∷ xs) = plain_front_on x xs (is_blank x) refl (plain_front xs)

stops_behind_on : (x : ℕ) (xs : List ℕ) (b : Bool)
    → is_blank x ≡ b
    → stops (drop (field_len xs) xs) ≡ true
    → stops (drop (cond (not b) (1 + field_len xs) 0) (x ∷ xs)) ≡ true
stops_behind_on x xs true e later = e
stops_behind_on x xs false e later = ap (λ n. stops (drop n (x ∷ xs))) (one-add (field_len xs)) ∙ later

stops_behind : (bytes : List ℕ) → stops (drop (field_len bytes) bytes) ≡ true
stops_behind [] = refl
stops_behind (x ∷ xs) = stops_behind_on x xs (is_blank x) refl (stops_behind xs)

abbrev gap_len : List ℕ → ℕ
gap_len bytes = position_or_len is_field_byte bytes

blanks_front_on : (x : ℕ) (xs : List ℕ) (b : Bool)
    → is_blank x ≡ b
    → AreBlanks (take (gap_len xs) xs)
    → AreBlanks (take (cond (not (not b)) (1 + gap_len xs) 0) (x ∷ xs))
blanks_front_on x xs true e later =
    ap (λ n. list_all is_blank (take n (x ∷ xs))) (one-add (gap_len xs))
    ∙ ap (λ b. b && list_all is_blank (take (gap_len xs) xs)) e
    ∙ later
blanks_front_on x xs false e later = refl

blanks_front : (bytes : List ℕ) → AreBlanks (take (gap_len bytes) bytes)
blanks_front [] = refl
blanks_front (x ∷ xs) = blanks_front_on x xs (is_blank x) refl (blanks_front xs)

-- behind the blanks in front
abbrev rest_of : List ℕ → List ℕ
rest_of bytes = drop (gap_len bytes) bytes

abbrev field_of : List ℕ → List ℕ
field_of bytes = take (field_len (rest_of bytes)) (rest_of bytes)

abbrev behind_field : List ℕ → List ℕ
behind_field bytes = drop (field_len (rest_of bytes)) (rest_of bytes)

first_field_is : (bytes : List ℕ)
    → gap_len bytes < length bytes
    → fields bytes ≡ field_of bytes ∷ fields (behind_field bytes)
first_field_is bytes l = skip bytes ∙ in_front (rest_of bytes) (starts bytes l)

nonempty_on : (x : ℕ) (xs : List ℕ) → is_blank x ≡ false → is_empty (take (field_len (x ∷ xs)) (x ∷ xs)) ≡ false
nonempty_on x xs e =
    ap (λ b. is_empty (take (cond (not b) (1 + field_len xs) 0) (x ∷ xs))) e
    ∙ ap (λ n. is_empty (take n (x ∷ xs))) (one-add (field_len xs))

front_is_field : (rest : List ℕ) → BeginsField rest → IsField (take (field_len rest) rest)
front_is_field rest begins =
    let P : List ℕ → Type 0 = λ t. is_empty (take (field_len t) t) ≡ false in
    (subst P (sym begins.is) (nonempty_on begins.head begins.tail begins.other), plain_front rest)

none_or_field : (bytes : List ℕ) (none : Bool)
    → nat_lt (gap_len bytes) (length bytes) ≡ none
    → (length bytes ≤ gap_len bytes) ⊎ (gap_len bytes < length bytes)
none_or_field bytes true e = inr (grind (arith, nat_tests))
none_or_field bytes false e = inl (grind (arith, nat_tests))

all_blanks : (bytes : List ℕ) → length bytes ≤ gap_len bytes → AreBlanks bytes
all_blanks bytes past = subst AreBlanks (take_all (gap_len bytes) bytes past) (blanks_front bytes)

no_field_bytes : (bytes : List ℕ) → length bytes ≤ gap_len bytes → fields bytes ≡ []
no_field_bytes bytes past = skip bytes ∙ ap fields (drop_all (gap_len bytes) bytes past)

gap_is_some : (bytes : List ℕ)
    → stops bytes ≡ true
    → gap_len bytes < length bytes
    → is_empty (take (gap_len bytes) bytes) ≡ false
gap_is_some [] stop l = absurd (omega arith)
gap_is_some (x ∷ xs) stop l =
    ap (λ b. is_empty (take (cond (not (not b)) (1 + gap_len xs) 0) (x ∷ xs))) stop
    ∙ ap (λ n. is_empty (take n (x ∷ xs))) (one-add (gap_len xs))

whole_of : (bytes : List ℕ) (n m : ℕ) → bytes ≡ take n bytes ++ (take m (drop n bytes) ++ drop m (drop n bytes))
whole_of bytes n m =
    sym (take-append-drop n bytes) ∙ ap (λ rest. take n bytes ++ rest) (sym (take-append-drop m (drop n bytes)))

head_is : (bytes field : List ℕ) (others : List (List ℕ))
    → gap_len bytes < length bytes
    → fields bytes ≡ field ∷ others
    → (field_of bytes ≡ field) × (fields (behind_field bytes) ≡ others)
head_is bytes field others some are =
    let same : field_of bytes ∷ fields (behind_field bytes) ≡ field ∷ others =
    sym (first_field_is bytes some) ∙ are in
    (cc, cc)

no_follow : (bytes : List ℕ)
    → fields bytes ≡ []
    → (length bytes ≤ gap_len bytes) ⊎ (gap_len bytes < length bytes)
    → AreBlanks bytes
no_follow bytes are (inl past) = all_blanks bytes past
no_follow bytes are (inr some) =
    absurd (let first : field_of bytes ∷ fields (behind_field bytes) ≡ [] = sym (first_field_is bytes some) ∙ are in cc)

next_follows : (bytes field : List ℕ) (others : List (List ℕ))
    → fields bytes ≡ field ∷ others
    → stops bytes ≡ true
    → (fields (behind_field bytes) ≡ others → FieldsFollow others (behind_field bytes))
    → (length bytes ≤ gap_len bytes) ⊎ (gap_len bytes < length bytes)
    → ComesNext field bytes (FieldsFollow others)
next_follows bytes field others are stop later (inl past) =
    absurd (let none : [] ≡ field ∷ others = sym (no_field_bytes bytes past) ∙ are in cc)
next_follows bytes field others are stop later (inr some) =
    let parts = head_is bytes field others some are in
    record {
      gap = take (gap_len bytes) bytes;
      rest = behind_field bytes;
      whole =
          whole_of bytes (gap_len bytes) (field_len (rest_of bytes))
          ∙ ap (λ f. take (gap_len bytes) bytes ++ (f ++ behind_field bytes)) parts.0;
      is_gap = (gap_is_some bytes stop some, blanks_front bytes);
      is_field = subst IsField parts.0 (front_is_field (rest_of bytes) (starts bytes some));
      follows = later parts.1;
    }

pub follow_fields : (others : List (List ℕ)) (bytes : List ℕ)
    → fields bytes ≡ others
    → stops bytes ≡ true
    → FieldsFollow others bytes
follow_fields [] bytes are stop = no_follow bytes are (none_or_field bytes _ refl)
follow_fields (field ∷ others) bytes are stop =
    next_follows bytes field others are stop
    (λ later. follow_fields others (behind_field bytes) later (stops_behind (rest_of bytes)))
    (none_or_field bytes _ refl)

-- a line that begins with a field
line_begins : (line operation : List ℕ) (arguments : List (List ℕ))
    → fields line ≡ operation ∷ arguments
    → begins_with_blank line ≡ false
    → Begins operation line (FieldsFollow arguments)
line_begins [] operation arguments are plain = absurd (cc)
line_begins (x ∷ xs) operation arguments are plain =
    let begins : BeginsField (x ∷ xs) = record { head = x; tail = xs; is = refl; other = plain } in
    let n = field_len (x ∷ xs) in
    let same : take n (x ∷ xs) ∷ fields (drop n (x ∷ xs)) ≡ operation ∷ arguments =
    sym (in_front (x ∷ xs) begins) ∙ are in
    let operation_is : take n (x ∷ xs) ≡ operation = cc in
    let arguments_are : fields (drop n (x ∷ xs)) ≡ arguments = cc in
    record {
      rest = drop n (x ∷ xs);
      whole = sym (take-append-drop n (x ∷ xs)) ∙ ap (λ f. f ++ drop n (x ∷ xs)) operation_is;
      is_field = subst IsField operation_is (front_is_field (x ∷ xs) begins);
      follows = follow_fields arguments (drop n (x ∷ xs)) arguments_are (stops_behind (x ∷ xs));
    }

begins_by : (line operation : List ℕ) (arguments : List (List ℕ)) (b : Bool)
    → begins_with_blank line ≡ b
    → cond b [] (fields line) ≡ operation ∷ arguments
    → Begins operation line (FieldsFollow arguments)
begins_by line operation arguments true blank are = absurd (cc)
begins_by line operation arguments false blank are = line_begins line operation arguments are blank

pub begins_with_fields : (line operation : List ℕ) (arguments : List (List ℕ))
    → line_fields line ≡ operation ∷ arguments
    → Begins operation line (FieldsFollow arguments)
begins_with_fields line operation arguments are = begins_by line operation arguments (begins_with_blank line) refl are
