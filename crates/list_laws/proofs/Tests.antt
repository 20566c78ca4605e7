-- Tests, and what their answers say.
use Rattle.std.proofs.Common.{◌≡◌, ◌≢◌, ℕ, ◌<◌, ◌≤◌, Bool, true, false, not, ◌&&◌, ◌||◌, true≢false, nat_eq, nat_lt, nat_le, List, [], ◌∷◌, Option, Some, None, refl, sym, ap, ◌∙◌, inl, inr, ⊎_elim, arith}
use Rattle.std.specs.Prelude.{if◌then◌else◌}
use Rattle.std.proofs.lemmas.Bool.Decides.{nat_tests}
use Rattle.std.proofs.lemmas.Option.{none-some}
use Rattle.std.specs.Str.{bytes_eq}
use Rattle.std.proofs.lemmas.Slice.Eq.{bytes_eq-Decides}
use Rattle.list_laws.specs.Lists.{In}
use Rattle.std.specs.List.{list_any}

pub eq_true : (a b : ℕ) → nat_eq a b ≡ true → a ≡ b
eq_true a b e = grind (arith, nat_tests, e)

pub eq_false : (a b : ℕ) → nat_eq a b ≡ false → a ≢ b
eq_false a b e = λ f. true≢false (sym (ap (λ t. nat_eq t b) f ∙ same b) ∙ e)
  where
    same : (n : ℕ) → nat_eq n n ≡ true
    same n = grind (arith, nat_tests)

pub true_eq : (a b : ℕ) → a ≡ b → nat_eq a b ≡ true
true_eq a b e = grind (arith, nat_tests, e)

pub false_eq : (a b : ℕ) → a ≢ b → nat_eq a b ≡ false
false_eq a b e = go (nat_eq a b) refl
  where
    go : (t : Bool) → nat_eq a b ≡ t → nat_eq a b ≡ false
    go true f = absurd (e (eq_true a b f))
    go false f = f

pub lt_false : (a b : ℕ) → nat_lt a b ≡ false → b ≤ a
lt_false a b e = grind (arith, nat_tests, e)

pub lt_true : (a b : ℕ) → nat_lt a b ≡ true → a < b
lt_true a b e = grind (arith, nat_tests, e)

pub le_false : (a b : ℕ) → nat_le a b ≡ false → b < a
le_false a b e = grind (arith, nat_tests, e)

pub le_true : (a b : ℕ) → nat_le a b ≡ true → a ≤ b
le_true a b e = grind (arith, nat_tests, e)

-- a cause that isn't told doesn't stand
pub no_cause : {R : Type 0} (b : Bool) (x : R) (o : Option R)
    → (if b then Some x else o) ≡ None
    → (b ≡ false) × (o ≡ None)
no_cause true x o e = absurd (none-some x (sym e))
no_cause false x o e = (refl, e)

pub no_end : {R : Type 0} (b : Bool) (x : R) → (if b then None else Some x) ≡ None → b ≡ true
no_end true x e = refl
no_end false x e = absurd (none-some x (sym e))

pub not_false : (b : Bool) → not b ≡ false → b ≡ true
not_false true e = refl
not_false false e = absurd (true≢false e)

pub not_true : (b : Bool) → not b ≡ true → b ≡ false
not_true true e = absurd (true≢false (sym e))
not_true false e = refl

pub and_true : (a b : Bool) → (a && b) ≡ true → (a ≡ true) × (b ≡ true)
and_true true b e = (refl, e)
and_true false b e = absurd (true≢false (sym e))

pub or_false : (a b : Bool) → (a || b) ≡ false → (a ≡ false) × (b ≡ false)
or_false true b e = absurd (true≢false e)
or_false false b e = (refl, e)

pub same_bytes : (a b : List ℕ) → bytes_eq a b ≡ true → a ≡ b
same_bytes a b e = (bytes_eq-Decides a b).0 e

pub has_in : (k : ℕ) (xs : List ℕ) → list_any (nat_eq k) xs ≡ true → In k xs
has_in k [] e = absurd (true≢false (sym e))
has_in k (x ∷ xs) e = go (has_in k xs) (nat_eq k x) refl e
  where
    go : (list_any (nat_eq k) xs ≡ true → In k xs)
        → (b : Bool)
        → nat_eq k x ≡ b
        → (b || list_any (nat_eq k) xs) ≡ true
        → In k (x ∷ xs)
    go below true f g = inl (eq_true k x f)
    go below false f g = inr (below g)

pub in_has : (k : ℕ) (xs : List ℕ) → In k xs → list_any (nat_eq k) xs ≡ true
in_has k [] i = absurd i
in_has k (x ∷ xs) i = go (in_has k xs) (nat_eq k x) refl i
  where
    go : (In k xs → list_any (nat_eq k) xs ≡ true)
        → (b : Bool)
        → nat_eq k x ≡ b
        → In k (x ∷ xs)
        → (b || list_any (nat_eq k) xs) ≡ true
    go below true f j = refl
    go below false f j = ⊎_elim (λ (e : k ≡ x). absurd (eq_false k x f e)) (λ (l : In k xs). below l) j
