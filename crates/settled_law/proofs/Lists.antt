-- Where an entry of a list stands, tests of all entries, and comparisons of numbers that are so.
use Rattle.std.proofs.Common.{◌≡◌, ℕ, suc, ◌<◌, ◌≤◌, Bool, true, false, ◌&&◌, nat_lt, nat_le, List, [], ◌∷◌, Some, refl, sym, ap, ◌∙◌, inl, inr, ⊎_elim, arith}
use Rattle.std.specs.Prelude.{slice_get}
use Rattle.std.specs.List.{list_all}
use Rattle.std.proofs.lemmas.Bool.Decides.{nat_tests}
use Rattle.list_laws.specs.Lists.{In, Each}
use Rattle.list_laws.proofs.Tests.{and_true}

pub in_at : {A : Type 0} (xs : List A) (x : A) → In x xs → (j : ℕ) × (slice_get xs j ≡ Some x)
in_at [] x i = absurd i
in_at (y ∷ xs) x i =
    ⊎_elim (λ (e : x ≡ y). (0, ap Some (sym e))) (λ (k : In x xs). let h = in_at xs x k in (suc h.0, h.1)) i

pub all_so : {A : Type 0} (test : A → Bool) (xs : List A) → Each (λ x. test x ≡ true) xs → list_all test xs ≡ true
all_so test [] each = refl
all_so test (x ∷ xs) each = λ i. each x (inl refl) i && all_so test xs (λ y j. each y (inr j)) i

pub all_in : {A : Type 0} (test : A → Bool) (xs : List A) → list_all test xs ≡ true → Each (λ x. test x ≡ true) xs
all_in test [] e x i = absurd i
all_in test (y ∷ ys) e x i =
    let h = and_true (test y) (list_all test ys) e in
    ⊎_elim (λ (s : x ≡ y). ap test s ∙ h.0) (λ (j : In x ys). all_in test ys h.1 x j) i

pub is_less : (a b : ℕ) → a < b → nat_lt a b ≡ true
is_less a b lt = grind (arith, nat_tests)

pub not_less : (a b : ℕ) → b ≤ a → nat_lt a b ≡ false
not_less a b le = grind (arith, nat_tests)

pub is_at_most : (a b : ℕ) → a ≤ b → nat_le a b ≡ true
is_at_most a b le = grind (arith, nat_tests)

pub not_at_most : (a b : ℕ) → b < a → nat_le a b ≡ false
not_at_most a b lt = grind (arith, nat_tests)
