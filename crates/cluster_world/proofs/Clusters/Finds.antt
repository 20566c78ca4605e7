-- Finding a frame in lists put together.
use Rattle.std.proofs.Common.{◌≡◌, ℕ, zero, suc, ◌+◌, ◌-◌, ◌<◌, ◌≤◌, List, [], ◌∷◌, ◌++◌, map, take, drop, length, length-append, get_or, refl, sym, ap, ◌∙◌, arith}
use Rattle.std.specs.Prelude.{slice_get}
use Rattle.std.specs.List.{flat_map}
use Rattle.std.proofs.lemmas.List.{at_drop_more, take_more}
use Rattle.list_laws.proofs.Changes.{append_nil, append_assoc, map_append}

get_left : {A : Type 0} (xs ys : List A) (k : ℕ) → k < length xs → slice_get (xs ++ ys) k ≡ slice_get xs k
get_left [] ys k lt = absurd (omega arith)
get_left (x ∷ xs) ys zero lt = refl
get_left (x ∷ xs) ys (suc k) lt = get_left xs ys k (omega arith)

get_right : {A : Type 0} (xs ys : List A) (k : ℕ)
    → length xs ≤ k
    → slice_get (xs ++ ys) k ≡ slice_get ys (k - length xs)
get_right [] ys k le = let e : k ≡ k - 0 = omega arith in ap (slice_get ys) e
get_right (x ∷ xs) ys zero le = absurd (omega arith)
get_right (x ∷ xs) ys (suc k) le =
    let e : k - length xs ≡ suc k - length (x ∷ xs) = omega arith in
    get_right xs ys k (omega arith) ∙ ap (slice_get ys) e

pub found_here : {A B : Type 0} (f : A → List B) (xs : List A) (i k : ℕ) (x : A)
    → i < length xs
    → x ≡ get_or xs i x
    → k < length (f x)
    → slice_get (flat_map f (drop i xs)) k ≡ slice_get (f x) k
found_here f xs i k x lt is within =
    ap (λ l. slice_get l k)
    (at_drop_more (flat_map f) xs i x lt ∙ ap (λ y. f y ++ flat_map f (drop (i + 1) xs)) (sym is))
    ∙ get_left (f x) (flat_map f (drop (i + 1) xs)) k within

pub found_later : {A B : Type 0} (f : A → List B) (xs : List A) (i k : ℕ) (x : A)
    → i < length xs
    → x ≡ get_or xs i x
    → length (f x) ≤ k
    → slice_get (flat_map f (drop i xs)) k ≡ slice_get (flat_map f (drop (i + 1) xs)) (k - length (f x))
found_later f xs i k x lt is past =
    ap (λ l. slice_get l k)
    (at_drop_more (flat_map f) xs i x lt ∙ ap (λ y. f y ++ flat_map f (drop (i + 1) xs)) (sym is))
    ∙ get_right (f x) (flat_map f (drop (i + 1) xs)) k past

-- how many there are, from the list at this place on
pub counted_next : {A B : Type 0} (f : A → List B) (xs : List A) (i : ℕ) (x : A)
    → i < length xs
    → x ≡ get_or xs i x
    → length (flat_map f (drop i xs)) ≡ length (f x) + length (flat_map f (drop (i + 1) xs))
counted_next f xs i x lt is =
    ap length (at_drop_more (flat_map f) xs i x lt ∙ ap (λ y. f y ++ flat_map f (drop (i + 1) xs)) (sym is))
    ∙ length-append (f x) (flat_map f (drop (i + 1) xs))

-- one more at the end

pub flat_more : {A B : Type 0} (f : A → List B) (xs : List A) (x : A) → flat_map f (xs ++ x ∷ []) ≡ flat_map f xs ++ f x
flat_more f [] x = append_nil (f x)
flat_more f (y ∷ xs) x = ap (λ t. f y ++ t) (flat_more f xs x) ∙ sym (append_assoc (f y) (flat_map f xs) (f x))

pub map_take_more : {A B : Type 0} (f : A → B) (xs : List A) (i : ℕ) (d : A)
    → i < length xs
    → d ≡ get_or xs i d
    → map f (take (i + 1) xs) ≡ map f (take i xs) ++ f d ∷ []
map_take_more f xs i d lt is =
    ap (map f) (take_more xs i d lt)
    ∙ map_append f (take i xs) (get_or xs i d ∷ [])
    ∙ ap (λ t. map f (take i xs) ++ f t ∷ []) (sym is)

pub take_map : {A B : Type 0} (f : A → B) (k : ℕ) (xs : List A) → take k (map f xs) ≡ map f (take k xs)
take_map f zero xs = refl
take_map f (suc k) [] = refl
take_map f (suc k) (x ∷ xs) = ap (λ t. f x ∷ t) (take_map f k xs)

pub no_more : {A : Type 0} (xs : List A) → xs ≡ xs ++ []
no_more xs = sym (append_nil xs)
