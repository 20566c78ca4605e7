-- Lists that are filled, read and given out one item after the other.
use Rattle.std.proofs.Common.{◌≡◌, ℕ, zero, suc, ◌<◌, ◌≤◌, List, [], ◌∷◌, ◌++◌, length, get_or, map, replicate, set, take, drop, Some, refl, sym, ap, ◌∙◌, arith, append-nil}
use Rattle.std.specs.Prelude.{slice_get, slice_index}
use Rattle.std.proofs.lemmas.Option.{none-some, same_Some}
use Rattle.std.proofs.lemmas.List.{drop_all, take_all}

-- a list that is written up to a place, as another
pub taken_more : (xs ys : List ℕ) (k v : ℕ)
    → k < length xs
    → k < length ys
    → take k xs ≡ take k ys
    → v ≡ slice_index ys k
    → take (suc k) (set xs k v) ≡ take (suc k) ys
taken_more [] ys k v within there same at = absurd (omega arith)
taken_more (x ∷ xs) [] k v within there same at = absurd (omega arith)
taken_more (x ∷ xs) (y ∷ ys) zero v within there same at = ap (λ t. t ∷ []) at
taken_more (x ∷ xs) (y ∷ ys) (suc k) v within there same at = (λ i.
    ap (λ (l : List ℕ). get_or l 0 0) same i
    ∷ taken_more xs ys k v (omega arith) (omega arith) (ap (λ (l : List ℕ). drop 1 l) same) at i)

-- ---- each item is changed once

pub mapped_more : {A : Type 0} (f : A → A) (xs : List A) (k : ℕ) (x : A)
    → slice_get xs k ≡ Some x
    → set (map f (take k xs) ++ drop k xs) k (f x) ≡ map f (take (suc k) xs) ++ drop (suc k) xs
mapped_more f [] k x at = absurd (none-some x at)
mapped_more f (y ∷ xs) zero x at = ap (λ z. f z ∷ xs) (sym (same_Some y x at))
mapped_more f (y ∷ xs) (suc k) x at = ap (λ zs. f y ∷ zs) (mapped_more f xs k x at)

-- what stands behind a written place
pub rest_same : {A : Type 0} (xs : List A) (k : ℕ) (x : A) → drop (suc k) (set xs k x) ≡ drop (suc k) xs
rest_same [] k x = refl
rest_same (y ∷ xs) zero x = refl
rest_same (y ∷ xs) (suc k) x = rest_same xs k x

pub first_of_rest : {A : Type 0} (xs ys : List A) (k : ℕ) (x : A)
    → drop k xs ≡ drop k ys
    → slice_get xs k ≡ Some x
    → slice_get ys k ≡ Some x
first_of_rest xs ys k x same at = sym (read_drop ys k) ∙ sym (ap (λ l. slice_get l 0) same) ∙ read_drop xs k ∙ at
  where
    read_drop : {A : Type 0} (xs : List A) (k : ℕ) → slice_get (drop k xs) 0 ≡ slice_get xs k
    read_drop [] zero = refl
    read_drop [] (suc k) = refl
    read_drop (y ∷ xs) zero = refl
    read_drop (y ∷ xs) (suc k) = read_drop xs k

-- ---- items that are alike

pub popped : {A : Type 0} (xs : List A) (x y : A)
    → xs ++ x ∷ [] ≡ replicate (length (xs ++ x ∷ [])) y
    → (x ≡ y) × (xs ≡ replicate (length xs) y)
popped [] x y same = (ap (λ (l : List _). get_or l 0 x) same, refl)
popped (z ∷ xs) x y same =
    let rest = popped xs x y (ap (λ (l : List _). drop 1 l) same) in
    let first : z ≡ y = ap (λ (l : List _). get_or l 0 z) same in
    (rest.0, (λ i. first i ∷ rest.1 i))

pub rest_next : {A : Type 0} (xs ys : List A) (k : ℕ) → drop k xs ≡ drop k ys → drop (suc k) xs ≡ drop (suc k) ys
rest_next xs ys k same = sym (after xs k) ∙ ap (λ l. drop 1 l) same ∙ after ys k
  where
    after : {A : Type 0} (xs : List A) (k : ℕ) → drop 1 (drop k xs) ≡ drop (suc k) xs
    after [] zero = refl
    after [] (suc k) = refl
    after (y ∷ xs) zero = refl
    after (y ∷ xs) (suc k) = after xs k

-- a list that was written as a part of its own list
pub written : {A : Type 0} (len : ℕ) (new old : List A)
    → length new ≡ length old
    → len ≡ length old
    → take len (new ++ drop (length new) old) ≡ new
written len new old same whole =
    ap (λ l. take len (new ++ l)) (drop_all (length new) old (omega arith))
    ∙ ap (take len) (append-nil new)
    ∙ take_all len new (omega arith)

-- all of them are
pub all_mapped : {A : Type 0} (f : A → A) (xs : List A) (k : ℕ) → length xs ≤ k
    → map f (take k xs) ++ drop k xs ≡ map f xs
all_mapped f xs k few =
    ap (λ l. map f l ++ drop k xs) (take_all k xs few)
    ∙ ap (λ l. map f xs ++ l) (drop_all k xs few)
    ∙ append-nil (map f xs)
