-- Lemmas on lists that are written, mapped, filtered, put behind one another, or in step.
use Rattle.std.proofs.Common.{◌≡◌, ◌≢◌, ℕ, zero, suc, Bool, true, false, true≢false, cond, List, [], ◌∷◌, ◌++◌, map, set, Some, refl, sym, ap, ◌∙◌, subst, inl, inr, ⊎_elim}
use Rattle.std.specs.Prelude.{slice_get, filter}
use Rattle.std.proofs.lemmas.Option.{same_Some, none-some}
use Rattle.list_laws.specs.Lists.{In, Each, Pairs, Along, SubList}

pub get_set_here : {A : Type 0} (xs : List A) (n : ℕ) (a b : A)
    → slice_get xs n ≡ Some a
    → slice_get (set xs n b) n ≡ Some b
get_set_here [] n a b e = absurd (none-some a e)
get_set_here (x ∷ xs) zero a b e = refl
get_set_here (x ∷ xs) (suc n) a b e = get_set_here xs n a b e

pub get_set_there : {A : Type 0} (xs : List A) (n m : ℕ) (b : A) → m ≢ n → slice_get (set xs n b) m ≡ slice_get xs m
get_set_there [] n m b apart = refl
get_set_there (x ∷ xs) zero zero b apart = absurd (apart refl)
get_set_there (x ∷ xs) zero (suc m) b apart = refl
get_set_there (x ∷ xs) (suc n) zero b apart = refl
get_set_there (x ∷ xs) (suc n) (suc m) b apart = get_set_there xs n m b (λ e. apart (ap suc e))

pub get_map : {A B : Type 0} (f : A → B) (xs : List A) (n : ℕ) (a : A)
    → slice_get xs n ≡ Some a
    → slice_get (map f xs) n ≡ Some (f a)
get_map f [] n a e = absurd (none-some a e)
get_map f (x ∷ xs) zero a e = ap Some (ap f (same_Some x a e))
get_map f (x ∷ xs) (suc n) a e = get_map f xs n a e

pub along_append : {A B : Type 0} (R : A → B → Type 0) (xs xs' : List A) (ys ys' : List B)
    → Along R xs ys
    → Along R xs' ys'
    → Along R (xs ++ xs') (ys ++ ys')
along_append R [] xs' [] ys' p q = q
along_append R [] xs' (y ∷ ys) ys' p q = absurd p
along_append R (x ∷ xs) xs' [] ys' p q = absurd p
along_append R (x ∷ xs) xs' (y ∷ ys) ys' p q = (p.0, along_append R xs xs' ys ys' p.1 q)

pub along_in : {A B : Type 0} (R : A → B → Type 0) (xs : List A) (ys : List B)
    → Along R xs ys
    → (x : A)
    → In x xs
    → (y : B) × In y ys × R x y
along_in R [] ys p x i = absurd i
along_in R (z ∷ xs) [] p x i = absurd p
along_in R (z ∷ xs) (y ∷ ys) p x i =
    ⊎_elim (λ (e : x ≡ z). (y, inl refl, subst (λ t. R t y) (sym e) p.0))
    (λ (j : In x xs). let h = along_in R xs ys p.1 x j in (h.0, inr h.1, h.2)) i

pub along_pairs : {A B : Type 0} (R : A → B → Type 0) (S : A → A → Type 0) (T : B → B → Type 0) (xs : List A)
    (ys : List B) → ((x x' : A) (y y' : B) → R x y → R x' y' → T y y' → S x x') → Along R xs ys → Pairs T ys
    → Pairs S xs
along_pairs R S T [] ys h p q = tt
along_pairs R S T (x ∷ xs) [] h p q = absurd p
along_pairs R S T (x ∷ xs) (y ∷ ys) h p q = (
  (λ x' i. let g = along_in R xs ys p.1 x' i in h x x' y g.0 p.0 g.2 (q.0 g.0 g.1)),
  along_pairs R S T xs ys h p.1 q.1,
)

pub along_map : {A B C : Type 0} (R : A → B → Type 0) (f : C → A) (g : C → B) (xs : List C)
    → ((x : C) → R (f x) (g x))
    → Along R (map f xs) (map g xs)
along_map R f g [] h = tt
along_map R f g (x ∷ xs) h = (h x, along_map R f g xs h)

pub in_mapped : {A B : Type 0} (f : A → B) (xs : List A) (x : A) → In x xs → In (f x) (map f xs)
in_mapped f [] x i = absurd i
in_mapped f (y ∷ xs) x i = ⊎_elim (λ (e : x ≡ y). inl (ap f e)) (λ (j : In x xs). inr (in_mapped f xs x j)) i

pub map_append : {A B : Type 0} (f : A → B) (xs ys : List A) → map f (xs ++ ys) ≡ map f xs ++ map f ys
map_append f [] ys = refl
map_append f (x ∷ xs) ys = ap (λ t. f x ∷ t) (map_append f xs ys)

pub map_map : {A B C : Type 0} (f : A → B) (g : B → C) (xs : List A) → map g (map f xs) ≡ map (λ x. g (f x)) xs
map_map f g [] = refl
map_map f g (x ∷ xs) = ap (λ t. g (f x) ∷ t) (map_map f g xs)

pub map_same : {A B : Type 0} (f g : A → B) (xs : List A) → ((x : A) → f x ≡ g x) → map f xs ≡ map g xs
map_same f g [] h = refl
map_same f g (x ∷ xs) h = λ i. h x i ∷ map_same f g xs h i

pub map_set : {A B : Type 0} (f : A → B) (xs : List A) (n : ℕ) (b : A) → map f (set xs n b) ≡ set (map f xs) n (f b)
map_set f [] n b = refl
map_set f (x ∷ xs) zero b = refl
map_set f (x ∷ xs) (suc n) b = ap (λ t. f x ∷ t) (map_set f xs n b)

-- a write of what stands there already, as f sees it
pub map_set_same : {A B : Type 0} (f : A → B) (xs : List A) (n : ℕ) (a b : A)
    → slice_get xs n ≡ Some a
    → f b ≡ f a
    → map f (set xs n b) ≡ map f xs
map_set_same f [] n a b e s = refl
map_set_same f (x ∷ xs) zero a b e s = ap (λ t. t ∷ map f xs) (s ∙ ap f (sym (same_Some x a e)))
map_set_same f (x ∷ xs) (suc n) a b e s = ap (λ t. f x ∷ t) (map_set_same f xs n a b e s)

pub append_nil : {A : Type 0} (xs : List A) → xs ++ [] ≡ xs
append_nil [] = refl
append_nil (x ∷ xs) = ap (λ t. x ∷ t) (append_nil xs)

-- the tests of a filter

pub in_filter : {A : Type 0} (test : A → Bool) (xs : List A) (x : A) → In x (filter test xs) → In x xs × (test x ≡ true)
in_filter test [] x i = absurd i
in_filter test (y ∷ xs) x i = go (in_filter test xs x) (test y) refl i
  where
    go : (In x (filter test xs) → In x xs × (test x ≡ true))
        → (b : Bool)
        → test y ≡ b
        → In x (cond b (y ∷ filter test xs) (filter test xs))
        → In x (y ∷ xs) × (test x ≡ true)
    go below true e l =
        ⊎_elim (λ (s : x ≡ y). (inl s, ap test s ∙ e))
        (λ (m : In x (filter test xs)). let h = below m in (inr h.0, h.1)) l
    go below false e l = let h = below l in (inr h.0, h.1)

pub filter_in : {A : Type 0} (test : A → Bool) (xs : List A) (x : A) → In x xs → test x ≡ true → In x (filter test xs)
filter_in test [] x i e = absurd i
filter_in test (y ∷ xs) x i e = go (filter_in test xs x) (test y) refl i
  where
    go : (In x xs → test x ≡ true → In x (filter test xs))
        → (b : Bool)
        → test y ≡ b
        → In x (y ∷ xs)
        → In x (cond b (y ∷ filter test xs) (filter test xs))
    go below true f l = ⊎_elim (λ (s : x ≡ y). inl s) (λ (m : In x xs). inr (below m e)) l
    go below false f l =
        ⊎_elim (λ (s : x ≡ y). absurd (true≢false (sym e ∙ ap test s ∙ f))) (λ (m : In x xs). below m e) l

pub pairs_filter : {A : Type 0} (R : A → A → Type 0) (test : A → Bool) (xs : List A)
    → Pairs R xs
    → Pairs R (filter test xs)
pairs_filter R test [] p = tt
pairs_filter R test (x ∷ xs) p = go (pairs_filter R test xs p.1) (test x)
  where
    go : Pairs R (filter test xs) → (b : Bool) → Pairs R (cond b (x ∷ filter test xs) (filter test xs))
    go below true = ((λ y i. p.0 y (in_filter test xs y i).0), below)
    go below false = below

pub pairs_map_back : {A B : Type 0} (R : B → B → Type 0) (f : A → B) (xs : List A)
    → Pairs R (map f xs)
    → Pairs (λ x y. R (f x) (f y)) xs
pairs_map_back R f [] p = tt
pairs_map_back R f (x ∷ xs) p = ((λ y i. p.0 (f y) (in_mapped f xs y i)), pairs_map_back R f xs p.1)

pub sub_later : {A : Type 0} (xs : List A) (y : A) (ys : List A) → SubList xs ys → SubList xs (y ∷ ys)
sub_later [] y ys s = tt
sub_later (x ∷ xs) y ys s = inr s

pub in_sub : {A : Type 0} (xs ys : List A) → SubList xs ys → (x : A) → In x xs → In x ys
in_sub [] ys s x i = absurd i
in_sub (z ∷ xs) [] s x i = absurd s
in_sub {A} (z ∷ xs) (y ∷ ys) s x i =
    ⊎_elim (λ (h : (z ≡ y) × SubList xs ys).
    ⊎_elim (λ (e : x ≡ z). inl (e ∙ h.0)) (λ (j : In x xs). inr (in_sub xs ys h.1 x j)) i)
    (λ (h : SubList (z ∷ xs) ys). inr (in_sub (z ∷ xs) ys h x i)) s

pub pairs_sub : {A : Type 0} (R : A → A → Type 0) (xs ys : List A) → SubList xs ys → Pairs R ys → Pairs R xs
pairs_sub R [] ys s p = tt
pairs_sub R (x ∷ xs) [] s p = absurd s
pairs_sub R (x ∷ xs) (y ∷ ys) s p =
    ⊎_elim (λ (h : (x ≡ y) × SubList xs ys). (
      (λ z i. subst (λ t. R t z) (sym h.0) (p.0 z (in_sub xs ys h.1 z i))),
      pairs_sub R xs ys h.1 p.1,
    ))
    (λ (h : SubList (x ∷ xs) ys). pairs_sub R (x ∷ xs) ys h p.1) s

-- entries that each come from one of a list
pub choose : {A B : Type 0} (f : A → B) (from : List A) (ys : List B)
    → Each (λ y. (x : A) × In x from × (y ≡ f x)) ys
    → (xs : List A) × (ys ≡ map f xs) × Each (λ x. In x from) xs
choose f from [] h = ([], refl, λ x i. absurd i)
choose f from (y ∷ ys) h =
    let one = h y (inl refl) in
    let rest = choose f from ys (λ z i. h z (inr i)) in (
      one.0 ∷ rest.0,
      (λ i. one.2 i ∷ rest.1 i),
      λ x i. ⊎_elim (λ (e : x ≡ one.0). subst (λ t. In t from) (sym e) one.1) (λ (j : In x rest.0). rest.2 x j) i,
    )

pub map_filter : {A B : Type 0} (f : A → B) (p : A → Bool) (q : B → Bool) (xs : List A)
    → ((x : A) → q (f x) ≡ p x)
    → filter q (map f xs) ≡ map f (filter p xs)
map_filter f p q [] h = refl
map_filter f p q (x ∷ xs) h =
    ap (λ b. cond b (f x ∷ filter q (map f xs)) (filter q (map f xs))) (h x) ∙ go (p x) (map_filter f p q xs h)
  where
    go : (b : Bool)
        → filter q (map f xs) ≡ map f (filter p xs)
        → cond b (f x ∷ filter q (map f xs)) (filter q (map f xs)) ≡ map f (cond b (x ∷ filter p xs) (filter p xs))
    go true below = ap (λ t. f x ∷ t) below
    go false below = below

pub pairs_one : {A : Type 0} (R : A → A → Type 0) (b : Bool) (x : A) (xs : List A)
    → Pairs R (cond b (x ∷ xs) xs)
    → Pairs R xs
pairs_one R true x xs p = p.1
pairs_one R false x xs p = p

pub filter_append : {A : Type 0} (test : A → Bool) (xs ys : List A)
    → filter test (xs ++ ys) ≡ filter test xs ++ filter test ys
filter_append test [] ys = refl
filter_append test (x ∷ xs) ys = go (test x) (filter_append test xs ys)
  where
    go : (b : Bool)
        → filter test (xs ++ ys) ≡ filter test xs ++ filter test ys
        → cond b (x ∷ filter test (xs ++ ys)) (filter test (xs ++ ys))
        ≡ cond b (x ∷ filter test xs) (filter test xs) ++ filter test ys
    go true below = ap (λ t. x ∷ t) below
    go false below = below

pub append_assoc : {A : Type 0} (xs ys zs : List A) → (xs ++ ys) ++ zs ≡ xs ++ (ys ++ zs)
append_assoc [] ys zs = refl
append_assoc (x ∷ xs) ys zs = ap (λ t. x ∷ t) (append_assoc xs ys zs)
