-- Places of a list.
use Rattle.std.proofs.Common.{◌≡◌, ℕ, zero, suc, ◌<◌, List, [], ◌∷◌, map, refl, sym, ap, ◌∙◌, subst, arith, inl, inr, ⊎_elim}
use mathlib.Core.Option.{some, some-ne-none, some-injective}
use Rattle.list_laws.specs.Lists.{In, Pairs}
use Rattle.claim_cells.specs.Rule.{At, Has}

pub at_in : {A : Type 0} (xs : List A) (i : ℕ) (x : A) → At xs i x → In x xs
at_in [] i x e = absurd (some-ne-none x (sym e))
at_in (y ∷ ys) zero x e = inl (sym (some-injective y x e))
at_in (y ∷ ys) (suc i) x e = inr (at_in ys i x e)

pub in_at : {A : Type 0} (xs : List A) (x : A) → In x xs → Has xs x
in_at [] x i = absurd i
in_at (y ∷ ys) x i =
    ⊎_elim (λ (e : x ≡ y). (0, ap some (sym e))) (λ (j : In x ys). let there = in_at ys x j in (suc there.0, there.1)) i

pub at_same : {A : Type 0} (xs : List A) (i : ℕ) (x y : A) → At xs i x → At xs i y → x ≡ y
at_same xs i x y e f = some-injective x y (sym e ∙ f)

-- of two places the lower one stands first
pub pairs_at : {A : Type 0} (R : A → A → Type 0) (xs : List A)
    → Pairs R xs
    → (i j : ℕ) (x y : A)
    → i < j
    → At xs i x
    → At xs j y
    → R x y
pairs_at R [] p i j x y lt e f = absurd (some-ne-none x (sym e))
pairs_at R (z ∷ zs) p zero zero x y lt e f = absurd (omega arith)
pairs_at R (z ∷ zs) p zero (suc j) x y lt e f = subst (λ a. R a y) (some-injective z x e) (p.0 y (at_in zs j y f))
pairs_at R (z ∷ zs) p (suc i) zero x y lt e f = absurd (omega arith)
pairs_at R (z ∷ zs) p (suc i) (suc j) x y lt e f = pairs_at R zs p.1 i j x y (omega arith) e f

pub at_map : {A B : Type 0} (f : A → B) (xs : List A) (k : ℕ) (x : A) → At xs k x → At (map f xs) k (f x)
at_map f [] k x e = absurd (some-ne-none x (sym e))
at_map f (y ∷ ys) zero x e = ap (λ z. some (f z)) (some-injective y x e)
at_map f (y ∷ ys) (suc k) x e = at_map f ys k x e

pub at_unmap : {A B : Type 0} (f : A → B) (xs : List A) (k : ℕ) (y : B)
    → At (map f xs) k y
    → (x : A) × At xs k x × (f x ≡ y)
at_unmap f [] k y e = absurd (some-ne-none y (sym e))
at_unmap f (x ∷ xs) zero y e = (x, refl, some-injective (f x) y e)
at_unmap f (x ∷ xs) (suc k) y e = at_unmap f xs k y e
