-- Cutting the first field off a text.
use Rattle.std.proofs.Common.{◌++◌, take-append-drop, ◌≡◌, ℕ, suc, ◌+◌, ◌<◌, Bool, true, false, not, cond, List, [], ◌∷◌, length, take, drop, refl, ap, sym, ◌∙◌, arith, subst, take_all, Some, None}
use Rattle.std.specs.Prelude.{filter, position}
use Rattle.std.specs.List.{slice_split, onto_first, position_or_len}
use Rattle.std.proofs.Math.Numerals.{one-add}
use Rattle.std.proofs.lemmas.List.{drop_all, append-nil}
use Rattle.list_laws.proofs.Positions.{not_below, below}
use Rattle.list_laws.specs.Lists.{is_empty}
use Rattle.line_fields.specs.Fields.{is_blank, is_field_byte, fields, begins_with_field}

-- ---- where the first passes

pub position-below : (p : ℕ → Bool) (xs : List ℕ) (i : ℕ)
    → position p xs ≡ Some i
    → (i < length xs) × (position_or_len p xs ≡ i)
position-below p xs i e =
    let at = below (position_or_len p xs) (length xs) i e in
    let within = at.0 in
    let same = at.1 in
    (omega (arith, within, same), same)

-- ---- the pieces that are fields

abbrev pub kept : List (List ℕ) → List (List ℕ)
kept pieces = filter (λ piece. not (is_empty piece)) pieces

-- blanks in front make no field
pub skip : (text : List ℕ) → fields text ≡ fields (drop (position_or_len is_field_byte text) text)
skip [] = refl
skip (x ∷ xs) =
    (elim (is_blank x) as (λ b.
    is_blank x ≡ b
    → kept (cond b ([] ∷ slice_split is_blank xs) (onto_first x (slice_split is_blank xs)))
    ≡ kept (slice_split is_blank (drop (cond (not (not b)) (1 + position_or_len is_field_byte xs) 0) (x ∷ xs)))) [
      | true ↦ λ e. skip xs ∙ sym (ap (λ n. fields (drop n (x ∷ xs))) (one-add (position_or_len is_field_byte xs)))
      | false ↦ λ e.
          sym (ap (λ b. kept (cond b ([] ∷ slice_split is_blank xs) (onto_first x (slice_split is_blank xs)))) e)
    ])
    refl

-- the first piece, and what the others are the fields of
record Splits (text : List ℕ) (end : ℕ) : Type 0 where
  rest : List (List ℕ)
  is : slice_split is_blank text ≡ take end text ∷ rest
  others : kept rest ≡ fields (drop end text)

splits_on : (x : ℕ) (xs : List ℕ) (b : Bool)
    → is_blank x ≡ b
    → Splits xs (position_or_len is_blank xs)
    → Splits (x ∷ xs) (cond (not b) (1 + position_or_len is_blank xs) 0)
splits_on x xs true e behind = record {
  rest = slice_split is_blank xs;
  is = ap (λ b. cond b ([] ∷ slice_split is_blank xs) (onto_first x (slice_split is_blank xs))) e;
  others = sym (ap (λ b. kept (cond b ([] ∷ slice_split is_blank xs) (onto_first x (slice_split is_blank xs)))) e);
}
splits_on x xs false e behind =
    let n = position_or_len is_blank xs in
    record {
      rest = behind.rest;
      is =
          ap (λ b. cond b ([] ∷ slice_split is_blank xs) (onto_first x (slice_split is_blank xs))) e
          ∙ ap (onto_first x) behind.is
          ∙ sym (ap (λ k. take k (x ∷ xs) ∷ behind.rest) (one-add n));
      others = behind.others ∙ sym (ap (λ k. fields (drop k (x ∷ xs))) (one-add n));
    }

splits : (text : List ℕ) → Splits text (position_or_len is_blank text)
splits [] = record { rest = []; is = refl; others = refl }
splits (x ∷ xs) = splits_on x xs (is_blank x) refl (splits xs)

-- a text that begins with no blank begins with a field
pub record BeginsField (text : List ℕ) : Type 0 where
  pub head : ℕ
  pub tail : List ℕ
  pub is : text ≡ head ∷ tail
  pub other : is_blank head ≡ false

starts_on : (x : ℕ) (xs : List ℕ) (b : Bool)
    → is_blank x ≡ b
    → (position_or_len is_field_byte xs < length xs → BeginsField (drop (position_or_len is_field_byte xs) xs))
    → cond (not (not b)) (1 + position_or_len is_field_byte xs) 0 < suc (length xs)
    → BeginsField (drop (cond (not (not b)) (1 + position_or_len is_field_byte xs) 0) (x ∷ xs))
starts_on x xs true e behind l =
    let n = position_or_len is_field_byte xs in
    let P : ℕ → Type 0 = λ k. BeginsField (drop k (x ∷ xs)) in
    subst P (sym (one-add n)) (behind (omega arith))
starts_on x xs false e behind l = record { head = x; tail = xs; is = refl; other = e }

pub starts : (text : List ℕ)
    → position_or_len is_field_byte text < length text
    → BeginsField (drop (position_or_len is_field_byte text) text)
starts [] l = absurd (omega arith)
starts (x ∷ xs) l = starts_on x xs (is_blank x) refl (starts xs) l

-- the piece in front is a field
fields_on : (x : ℕ) (xs : List ℕ)
    → is_blank x ≡ false
    → fields (x ∷ xs)
    ≡ take (position_or_len is_blank (x ∷ xs)) (x ∷ xs) ∷ fields (drop (position_or_len is_blank (x ∷ xs)) (x ∷ xs))
fields_on x xs e =
    let n = position_or_len is_blank xs in
    let at : position_or_len is_blank (x ∷ xs) ≡ suc n = ap (λ b. cond (not b) (1 + n) 0) e ∙ one-add n in
    let parts = splits (x ∷ xs) in
    let P : ℕ → Type 0 = λ k. kept (take k (x ∷ xs) ∷ parts.rest) ≡ take k (x ∷ xs) ∷ kept parts.rest in
    ap kept parts.is
    ∙ subst P (sym at) refl
    ∙ ap (λ others. take (position_or_len is_blank (x ∷ xs)) (x ∷ xs) ∷ others) parts.others

pub in_front : (text : List ℕ)
    → BeginsField text
    → fields text ≡ take (position_or_len is_blank text) text ∷ fields (drop (position_or_len is_blank text) text)
in_front text begins =
    let P : List ℕ → Type 0 =
    λ t. fields t ≡ take (position_or_len is_blank t) t ∷ fields (drop (position_or_len is_blank t) t) in
    subst P (sym begins.is) (fields_on begins.head begins.tail begins.other)

-- ---- as the code cuts

pub no_field : (text : List ℕ) → position is_field_byte text ≡ None → fields text ≡ []
no_field text none = skip text ∙ ap fields (drop_all _ text (not_below _ _ none))

not_true : (b : Bool) → not b ≡ true → b ≡ false
not_true true e = absurd (cc)
not_true false e = refl

pub begins : (text : List ℕ) → begins_with_field text ≡ true → BeginsField text
begins [] e = absurd (cc)
begins (x ∷ xs) e = record { head = x; tail = xs; is = refl; other = not_true (is_blank x) e }

begins_too : (text : List ℕ) → BeginsField text → begins_with_field text ≡ true
begins_too text is = ap begins_with_field is.is ∙ ap not is.other

-- what begins with a field, once the blanks in front are cut off
pub rest_begins : (text rest : List ℕ) (start : ℕ)
    → position is_field_byte text ≡ Some start
    → rest ≡ drop start text
    → (begins_with_field rest ≡ true) × (fields text ≡ fields rest)
rest_begins text rest start found is =
    let at = position-below is_field_byte text start found in
    let same : drop (position_or_len is_field_byte text) text ≡ rest = ap (λ n. drop n text) at.1 ∙ sym is in
    (begins_too rest (subst BeginsField same (starts text (omega arith))), skip text ∙ ap fields same)

pub last_field : (text : List ℕ)
    → begins_with_field text ≡ true
    → position is_blank text ≡ None
    → fields text ≡ text ∷ []
last_field text is none =
    let past = not_below (position_or_len is_blank text) (length text) none in
    in_front text (begins text is)
    ∙ ap (λ t. t ∷ fields (drop (position_or_len is_blank text) text)) (take_all _ text past)
    ∙ ap (λ t. text ∷ fields t) (drop_all _ text past)

pub first_field : (text front behind : List ℕ) (end : ℕ)
    → begins_with_field text ≡ true
    → position is_blank text ≡ Some end
    → front ≡ take end text
    → behind ≡ drop end text
    → fields text ≡ front ∷ fields behind
first_field text front behind end is some front_is behind_is =
    let at = position-below is_blank text end some in
    in_front text (begins text is)
    ∙ ap (λ n. take n text ∷ fields (drop n text)) at.1
    ∙ ap (λ t. t ∷ fields (drop end text)) (sym front_is)
    ∙ ap (λ t. front ∷ fields t) (sym behind_is)

pub whole_again : (text front behind : List ℕ) (end : ℕ)
    → front ≡ take end text
    → behind ≡ drop end text
    → text ≡ front ++ behind
whole_again text front behind end front_is behind_is =
    sym (take-append-drop end text) ∙ ap (λ t. t ++ drop end text) (sym front_is) ∙ ap (λ t. front ++ t) (sym behind_is)

pub whole_alone : (text : List ℕ) → text ≡ text ++ []
whole_alone text = sym (append-nil text)
