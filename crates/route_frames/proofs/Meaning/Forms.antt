-- The form of a message, whose last field is taken off first.
use Rattle.std.proofs.Common.{◌≡◌, ℕ, zero, suc, ◌+◌, ◌<◌, ◌≤◌, List, [], ◌∷◌, ◌++◌, length, take, drop, take-append-drop, length-append, refl, ap, sym, ◌∙◌, arith, Some, not}
use Rattle.std.specs.List.{slice_split}
use Rattle.std.proofs.lemmas.List.{length-drop, drop-drop, take_all}
use Rattle.std.proofs.lemmas.List.Splits.{length-slice_split}
use Rattle.std.proofs.lemmas.List.Sums.{length-filter, count_by-le-length}
use Rattle.list_laws.specs.Lists.{is_empty}
use Rattle.line_fields.specs.Fields.{is_blank, fields}
use Rattle.route_frames.specs.Arguments.{in_front, split_last_of, split_last}

last_of : (field : List ℕ) (front : List (List ℕ)) (last : List ℕ)
    → split_last_of field (front ++ last ∷ []) ≡ (field ∷ front, last)
last_of field [] last = refl
last_of field (other ∷ others) last = ap (in_front field) (last_of other others last)

pub split_last-append : (front : List (List ℕ)) (last : List ℕ) → split_last (front ++ last ∷ []) ≡ Some (front, last)
split_last-append [] last = refl
split_last-append (field ∷ others) last = ap (λ split. Some split) (last_of field others last)

-- where one field is left, that is the last
pub last_at : (all : List (List ℕ)) (n : ℕ) (last : List ℕ)
    → drop n all ≡ last ∷ []
    → split_last all ≡ Some (take n all, last)
last_at all n last left =
    ap split_last (sym (take-append-drop n all) ∙ ap (λ rest. take n all ++ rest) left)
    ∙ split_last-append (take n all) last

pub drop_more : (all : List (List ℕ)) (n : ℕ) (field : List ℕ) (rest : List (List ℕ))
    → drop n all ≡ field ∷ rest
    → drop (n + 1) all ≡ rest
drop_more all n field rest left = sym (drop-drop 1 n all) ∙ ap (λ l. drop 1 l) left

pub count_at : (all : List (List ℕ)) (n : ℕ) (field : List ℕ) (rest : List (List ℕ))
    → drop n all ≡ field ∷ rest
    → n < length all
count_at all n field rest left = let len = length-drop n all in let same = ap length left in omega (arith, len, same)

-- a text has no more fields than places between its bytes
pub few_fields : (text : List ℕ) → length (fields text) ≤ length text + 1
few_fields text =
    let kept = length-filter (λ piece. not (is_empty piece)) (slice_split is_blank text) in
    let some = count_by-le-length (λ piece. not (is_empty piece)) (slice_split is_blank text) in
    let pieces = length-slice_split is_blank text in
    let blanks = count_by-le-length is_blank text in
    omega (arith, kept, some, pieces, blanks)

pub few_names : (count : ℕ) (text : List ℕ) → length (take count (fields text)) ≤ length text + 1
few_names count text =
    let few = few_fields text in
    let whole = ap length (take-append-drop count (fields text)) in
    let parts = length-append (take count (fields text)) (drop count (fields text)) in
    omega (arith, few, whole, parts)

-- so these are all
pub all_fields : (text : List ℕ) → take (length text + 1) (fields text) ≡ fields text
all_fields text = take_all (length text + 1) (fields text) (few_fields text)

-- the first of those that come first
pub first_of_first : (all : List (List ℕ)) (n m : ℕ) → n < length (take m all) → take n (take m all) ≡ take n all
first_of_first [] n zero below = absurd (omega arith)
first_of_first [] n (suc m) below = absurd (omega arith)
first_of_first (x ∷ all) n zero below = absurd (omega arith)
first_of_first (x ∷ all) zero (suc m) below = refl
first_of_first (x ∷ all) (suc n) (suc m) below = ap (λ l. x ∷ l) (first_of_first all n m (omega arith))
