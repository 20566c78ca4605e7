-- A loop that changes each element of a list in turn.
use Rattle.std.proofs.Common.{◌≡◌, ℕ, ◌+◌, ◌<◌, ◌≤◌, List, [], ◌∷◌, ◌++◌, length, map, take, drop, get_or, refl, sym, ap, ◌∙◌, add-zero, arith}
use Rattle.std.specs.Prelude.{slice_set}
use Rattle.std.proofs.lemmas.List.{take_more, take_more_set, get_or-drop, map-append, drop-set-lt, take_all}
use Rattle.std.proofs.lemmas.Grind.{drop_more_same}
use Rattle.list_laws.proofs.Changes.{map_map}

-- the element that is still to come is that of the first list
same_at : {A : Type 0} (now first : List A) (i : ℕ) (d : A)
    → drop i now ≡ drop i first
    → get_or now i d ≡ get_or first i d
same_at now first i d rest =
    ap (λ n. get_or now n d) (sym (add-zero i))
    ∙ sym (get_or-drop i now 0 d)
    ∙ ap (λ l. get_or l 0 d) rest
    ∙ get_or-drop i first 0 d
    ∙ ap (λ n. get_or first n d) (add-zero i)

-- as far as the loop has come, f of what is there is g of what was
pub map_on : {A B : Type 0} (f g : A → B) (now first : List A) (i : ℕ) (r y : A)
    → i < length now
    → i < length first
    → drop i now ≡ drop i first
    → f y ≡ g (get_or now i r)
    → map f (take i now) ≡ map g (take i first)
    → map f (take (i + 1) (slice_set now i y)) ≡ map g (take (i + 1) first)
map_on f g now first i r y lt within rest made so_far =
    ap (map f) (take_more_set now i y lt)
    ∙ map-append f (take i now) (y ∷ [])
    ∙ ap (λ l. l ++ f y ∷ []) so_far
    ∙ ap (λ z. map g (take i first) ++ z ∷ []) (made ∙ ap g (same_at now first i r rest))
    ∙ sym (map-append g (take i first) (get_or first i r ∷ []))
    ∙ sym (ap (map g) (take_more first i r within))

pub rest_on : {A : Type 0} (now first : List A) (i : ℕ) (y : A)
    → drop i now ≡ drop i first
    → drop (i + 1) (slice_set now i y) ≡ drop (i + 1) first
rest_on now first i y rest = drop-set-lt (i + 1) now i y (omega arith) ∙ drop_more_same now first i rest

pub whole : {A B : Type 0} (f : A → B) (h : B → B) (now first : List A) (i : ℕ)
    → length now ≤ i
    → length first ≤ i
    → map f (take i now) ≡ map (λ x. h (f x)) (take i first)
    → map f now ≡ map h (map f first)
whole f h now first i le le2 e =
    ap (map f) (sym (take_all i now le)) ∙ e ∙ ap (map (λ x. h (f x))) (take_all i first le2) ∙ sym (map_map f h first)

-- a slice of a vector that was handed on is all of it
pub rewritten : {A : Type 0} (new old : List A) (len : ℕ)
    → len ≡ length new
    → take len (new ++ drop (length new) old) ≡ new
rewritten new old len is = ap (λ k. take k (new ++ drop (length new) old)) is ∙ front new (drop (length new) old)
  where
    front : {A : Type 0} (xs ys : List A) → take (length xs) (xs ++ ys) ≡ xs
    front [] [] = refl
    front [] (y ∷ ys) = refl
    front (x ∷ xs) ys = ap (λ t. x ∷ t) (front xs ys)
