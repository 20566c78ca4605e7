-- Words for lists: the oldest entry of a history stands first.
use Rattle.std.specs.Prelude.{◌≡◌, ◌⊎◌, ℕ, Bool, true, false, List, [], ◌∷◌, slice_get, Some}

-- There is no entry.
abbrev pub is_empty : {A : Type 0} → List A → Bool
is_empty [] = true
is_empty (x ∷ xs) = false

-- It is an entry of the list.
abbrev pub In : {A : Type 0} → A → List A → Type 0
In x [] = ⊥
In x (y ∷ ys) = (x ≡ y) ⊎ In x ys

-- Every entry is so.
abbrev pub Each : {A : Type 0} → (A → Type 0) → List A → Type 0
Each {A} P xs = (x : A) → In x xs → P x

-- Each two entries stand so to one another: R older newer.
abbrev pub Pairs : {A : Type 0} → (A → A → Type 0) → List A → Type 0
Pairs R [] = Unit {0}
Pairs R (x ∷ xs) = Each (R x) xs × Pairs R xs

-- Nothing stands at two places of the list.
abbrev pub NoRepeat : {A : Type 0} → List A → Type 0
NoRepeat {A} xs = (i j : ℕ) (x : A) → slice_get xs i ≡ Some x → slice_get xs j ≡ Some x → i ≡ j

-- Nothing stands in both lists.
abbrev pub Disjoint : {A : Type 0} → List A → List A → Type 0
Disjoint {A} xs ys = (x : A) → In x xs → In x ys → ⊥

-- The two lists are in step: entry for entry they stand so to one another.
abbrev pub Along : {A B : Type 0} → (A → B → Type 0) → List A → List B → Type 0
Along R [] [] = Unit {0}
Along R [] (y ∷ ys) = ⊥
Along R (x ∷ xs) [] = ⊥
Along R (x ∷ xs) (y ∷ ys) = R x y × Along R xs ys

-- Some of the entries, in their order.
abbrev pub SubList : {A : Type 0} → List A → List A → Type 0
SubList [] ys = Unit {0}
SubList (x ∷ xs) [] = ⊥
SubList (x ∷ xs) (y ∷ ys) = ((x ≡ y) × SubList xs ys) ⊎ SubList (x ∷ xs) ys
