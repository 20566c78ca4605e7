-- Whether any of a list passes a test.
use Rattle.std.proofs.Common.{◌≡◌, ℕ, ◌+◌, ◌<◌, Bool, true, false, not, ◌&&◌, ◌||◌, cond, true≢false, List, [], ◌∷◌, ◌++◌, map, drop, length, get_or, refl, sym, ap, ◌∙◌, subst, inl, inr, ⊎_elim}
use Rattle.std.specs.List.{list_any}
use Rattle.std.proofs.lemmas.List.{at_drop_more}
use Rattle.list_laws.specs.Lists.{In, Pairs}
use Rattle.list_laws.proofs.Lists.{in_right}

pub both_hold : (a b : Bool) → a ≡ true → b ≡ true → (a && b) ≡ true
both_hold a b e f = ap (λ t. t && b) e ∙ f

pub any_in : {A : Type 0} (f : A → Bool) (xs : List A) → list_any f xs ≡ true → (x : A) × In x xs × (f x ≡ true)
any_in f [] e = absurd (true≢false (sym e))
any_in {A} f (x ∷ xs) e = go (any_in f xs) (f x) refl e
  where
    go : (list_any f xs ≡ true → (y : A) × In y xs × (f y ≡ true))
        → (b : Bool)
        → f x ≡ b
        → (b || list_any f xs) ≡ true
        → (y : A) × In y (x ∷ xs) × (f y ≡ true)
    go below true is any = (x, inl refl, is)
    go below false is any = let r = below any in (r.0, inr r.1, r.2)

pub in_any : {A : Type 0} (f : A → Bool) (xs : List A) (x : A) → In x xs → f x ≡ true → list_any f xs ≡ true
in_any f [] x i e = absurd i
in_any {A} f (y ∷ xs) x i e =
    ⊎_elim (λ (s : x ≡ y). ap (λ b. b || list_any f xs) (sym (ap f s) ∙ e))
    (λ (j : In x xs). later (f y) (in_any f xs x j e)) i
  where
    later : (b : Bool) → list_any f xs ≡ true → (b || list_any f xs) ≡ true
    later true any = refl
    later false any = any

pub not_any : {A : Type 0} (f : A → Bool) (xs : List A) → ((x : A) → In x xs → f x ≡ true → ⊥) → list_any f xs ≡ false
not_any {A} f xs none = go (list_any f xs) refl
  where
    go : (b : Bool) → list_any f xs ≡ b → list_any f xs ≡ false
    go true is = let r = any_in f xs is in absurd (none r.0 r.1 r.2)
    go false is = is

pub none_passes : {A : Type 0} (f : A → Bool) (xs : List A) (x : A) → list_any f xs ≡ false → In x xs → f x ≡ true → ⊥
none_passes f xs x none i e = true≢false (sym (in_any f xs x i e) ∙ none)

pub any_push : {A : Type 0} (f : A → Bool) (xs : List A) (x : A)
    → list_any f (xs ++ x ∷ []) ≡ cond (f x) true (list_any f xs)
any_push f [] x = go (f x)
  where
    go : (b : Bool) → (b || false) ≡ cond b true false
    go true = refl
    go false = refl
any_push f (y ∷ xs) x = ap (λ t. f y || t) (any_push f xs x) ∙ go (f y) (f x)
  where
    go : (b c : Bool) → (b || cond c true (list_any f xs)) ≡ cond c true (b || list_any f xs)
    go true true = refl
    go true false = refl
    go false true = refl
    go false false = refl

pub not_is : (a b : Bool) → a ≡ not b → a ≡ true → b ≡ false
not_is a true e f = absurd (true≢false (sym f ∙ e))
not_is a false e f = refl

-- the last of a list stands so to each before it
pub pairs_last : {A : Type 0} (R : A → A → Type 0) (xs : List A) (y : A)
    → Pairs R (xs ++ y ∷ [])
    → (x : A)
    → In x xs
    → R x y
pairs_last R [] y p x i = absurd i
pairs_last {A} R (z ∷ xs) y p x i =
    ⊎_elim (λ (e : x ≡ z). subst (λ (t : A). R t y) (sym e) (p.0 y (in_right y xs (y ∷ []) (inl refl))))
    (λ (j : In x xs). pairs_last R xs y p.1 x j) i

-- ---- a list that is gone over

module _ {A B : Type 0} (f : A → Bool) (g : B → A) (xs : List B) (i : ℕ) (x : B) (lt : i < length xs)
    (is : x ≡ get_or xs i x) where
  opened : list_any f (map g (drop i xs)) ≡ (f (g x) || list_any f (map g (drop (i + 1) xs)))
  opened =
      at_drop_more (λ l. list_any f (map g l)) xs i x lt
      ∙ ap (λ y. f (g y) || list_any f (map g (drop (i + 1) xs))) (sym is)

  pub any_here : f (g x) ≡ true → list_any f (map g (drop i xs)) ≡ true
  any_here passes = opened ∙ ap (λ b. b || list_any f (map g (drop (i + 1) xs))) passes

  pub any_next : f (g x) ≡ false → list_any f (map g (drop i xs)) ≡ list_any f (map g (drop (i + 1) xs))
  any_next fails = opened ∙ ap (λ b. b || list_any f (map g (drop (i + 1) xs))) fails

pub any_never : {A : Type 0} (xs : List A) → list_any (λ (x : A). false) xs ≡ false
any_never [] = refl
any_never (x ∷ xs) = any_never xs
