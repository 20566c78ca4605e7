-- Lemmas on In, Each and Pairs, and on reading a list after a write.
use Rattle.std.proofs.Common.{◌≡◌, ◌≢◌, ◌⊎◌, ℕ, zero, suc, ◌<◌, List, [], ◌∷◌, ◌++◌, map, set, length, replicate, Some, refl, sym, ◌∙◌, subst, inl, inr, ⊎_elim, arith}
use Rattle.std.specs.Prelude.{slice_get}
use Rattle.std.proofs.lemmas.Option.{same_Some, none-some}
use Rattle.list_laws.specs.Lists.{In, Each, Pairs}

pub each_cons : {A : Type 0} (P : A → Type 0) (y : A) (ys : List A) → P y → Each P ys → Each P (y ∷ ys)
each_cons P y ys p h x i = ⊎_elim (λ e. subst P (sym e) p) (λ j. h x j) i

pub each_one : {A : Type 0} (P : A → Type 0) (y : A) → P y → Each P (y ∷ [])
each_one P y p x i = ⊎_elim (λ e. subst P (sym e) p) (λ k. absurd k) i

pub in_append : {A : Type 0} (x : A) (xs ys : List A) → In x (xs ++ ys) → In x xs ⊎ In x ys
in_append x [] ys i = inr i
in_append x (y ∷ xs) ys i =
    ⊎_elim (λ e. inl (inl e)) (λ j. ⊎_elim (λ k. inl (inr k)) (λ k. inr k) (in_append x xs ys j)) i

pub in_left : {A : Type 0} (x : A) (xs ys : List A) → In x xs → In x (xs ++ ys)
in_left x [] ys i = absurd i
in_left x (y ∷ xs) ys i = ⊎_elim (λ e. inl e) (λ j. inr (in_left x xs ys j)) i

pub in_right : {A : Type 0} (x : A) (xs ys : List A) → In x ys → In x (xs ++ ys)
in_right x [] ys i = i
in_right x (y ∷ xs) ys i = inr (in_right x xs ys i)

pub each_append : {A : Type 0} (P : A → Type 0) (xs ys : List A) → Each P xs → Each P ys → Each P (xs ++ ys)
each_append P xs ys f g x i = ⊎_elim (λ j. f x j) (λ j. g x j) (in_append x xs ys i)

pub pairs_append : {A : Type 0} (R : A → A → Type 0) (xs ys : List A) → Pairs R xs → Pairs R ys
    → ((x y : A) → In x xs → In y ys → R x y) → Pairs R (xs ++ ys)
pairs_append R [] ys p q h = q
pairs_append R (x ∷ xs) ys p q h = (
  each_append (R x) xs ys p.0 (λ y j. h x y (inl refl) j),
  pairs_append R xs ys p.1 q (λ a b i j. h a b (inr i) j),
)

-- two entries are one, or stand one way or the other
pub pairs_cases : {A : Type 0} (R : A → A → Type 0) (xs : List A)
    → Pairs R xs
    → (a b : A)
    → In a xs
    → In b xs
    → (a ≡ b) ⊎ (R a b ⊎ R b a)
pairs_cases R [] p a b i j = absurd i
pairs_cases R (x ∷ xs) p a b i j =
    ⊎_elim (λ (e : a ≡ x).
    ⊎_elim (λ (f : b ≡ x). inl (e ∙ sym f)) (λ (k : In b xs). inr (inl (subst (λ y. R y b) (sym e) (p.0 b k)))) j)
    (λ (l : In a xs).
    ⊎_elim (λ (f : b ≡ x). inr (inr (subst (λ y. R y a) (sym f) (p.0 a l))))
    (λ (k : In b xs). pairs_cases R xs p.1 a b l k) j)
    i

-- what is read after a write
pub read_set : {A : Type 0} (P : ℕ → A → Type 0) (xs : List A) (k : ℕ) (b : A)
    → ((n : ℕ) (a : A) → n ≢ k → slice_get xs n ≡ Some a → P n a)
    → P k b
    → (n : ℕ) (a : A)
    → slice_get (set xs k b) n ≡ Some a
    → P n a
read_set P [] k b h p n a e = absurd (none-some a e)
read_set P (x ∷ xs) zero b h p zero a e = subst (P zero) (same_Some b a e) p
read_set P (x ∷ xs) zero b h p (suc n) a e = h (suc n) a (omega arith) e
read_set P (x ∷ xs) (suc k) b h p zero a e = h zero a (omega arith) e
read_set P (x ∷ xs) (suc k) b h p (suc n) a e =
    read_set (λ m. P (suc m)) xs k b (λ m c d f. h (suc m) c (omega arith) f) p n a e

pub read_replicate : {A : Type 0} (k : ℕ) (x a : A) (n : ℕ) → slice_get (replicate k x) n ≡ Some a → a ≡ x
read_replicate zero x a n e = absurd (none-some a e)
read_replicate (suc k) x a zero e = sym (same_Some x a e)
read_replicate (suc k) x a (suc n) e = read_replicate k x a n e

pub in_read : {A : Type 0} (xs : List A) (k : ℕ) (x : A) → slice_get xs k ≡ Some x → In x xs
in_read [] k x e = absurd (none-some x e)
in_read (y ∷ xs) zero x e = inl (sym (same_Some y x e))
in_read (y ∷ xs) (suc k) x e = inr (in_read xs k x e)

pub in_map : {A B : Type 0} (f : A → B) (xs : List A) (y : B) → In y (map f xs) → (x : A) × In x xs × (y ≡ f x)
in_map f [] y i = absurd i
in_map f (x ∷ xs) y i =
    ⊎_elim (λ (e : y ≡ f x). (x, inl refl, e)) (λ (k : In y (map f xs)). let h = in_map f xs y k in (h.0, inr h.1, h.2))
    i

pub pairs_map : {A B : Type 0} (R : B → B → Type 0) (f : A → B) (xs : List A)
    → Pairs (λ x y. R (f x) (f y)) xs
    → Pairs R (map f xs)
pairs_map R f [] p = tt
pairs_map R f (x ∷ xs) p = (
  (λ y i. let h = in_map f xs y i in subst (R (f x)) (sym h.2) (p.0 h.0 h.1)),
  pairs_map R f xs p.1,
)

pub pairs_weaker : {A : Type 0} (R S : A → A → Type 0) (xs : List A)
    → ((x y : A) → In x xs → In y xs → R x y → S x y)
    → Pairs R xs
    → Pairs S xs
pairs_weaker R S [] h p = tt
pairs_weaker R S (x ∷ xs) h p = (
  (λ y i. h x y (inl refl) (inr i) (p.0 y i)),
  pairs_weaker R S xs (λ a b i j. h a b (inr i) (inr j)) p.1,
)

pub in_nil : {A : Type 0} (x : A) (xs : List A) → In x (xs ++ []) → In x xs
in_nil x xs i = ⊎_elim (λ k. k) (λ k. absurd k) (in_append x xs [] i)

pub read_map : {A B : Type 0} (f : A → B) (xs : List A) (n : ℕ) (y : B)
    → slice_get (map f xs) n ≡ Some y
    → (x : A) × (slice_get xs n ≡ Some x) × (y ≡ f x)
read_map f [] n y e = absurd (none-some y e)
read_map f (x ∷ xs) zero y e = (x, refl, sym (same_Some (f x) y e))
read_map f (x ∷ xs) (suc n) y e = read_map f xs n y e

-- what holds of a literal holds of what is equal to it
pub moved : {A B : Type 0} (P : A → B → Type 0) (a x : A) (b y : B) → a ≡ x → b ≡ y → P x y → P a b
moved P a x b y e f p = subst (λ z. P z b) (sym e) (subst (P x) (sym f) p)

pub get_some : {A : Type 0} (xs : List A) (n : ℕ) → n < length xs → (x : A) × (slice_get xs n ≡ Some x)
get_some [] n lt = absurd (omega arith)
get_some (x ∷ xs) zero lt = (x, refl)
get_some (x ∷ xs) (suc n) lt = get_some xs n (omega arith)
