-- Names in the order of their bytes.
use Rattle.std.proofs.Common.{◌≡◌, ℕ, true, true≢false, List, [], ◌∷◌, refl, sym, ap, ◌∙◌, subst, ⊎_elim}
use Rattle.std.specs.Cmp.Lexicographic.{slice_cmp, nat_list_cmp_total}
use Rattle.std.specs.Cmp.{eq_by_cmp_equiv}
use Rattle.std.specs.declared.cmp.Ordering.{Ordering}
use Rattle.std.specs.declared.cmp.Ordering.TheVariants.{Less, Equal, Greater}
use Rattle.std.specs.Ordering.{is_lt, is_eq, nat_cmp}
use Rattle.list_laws.specs.Lists.{In}
use Rattle.list_laws.proofs.Tests.{and_true}
use Rattle.subj.specs.QueueNames.{is_before, are_rising}

less : (r : Ordering) → is_lt r ≡ true → r ≡ Less
less Less e = refl
less Equal e = absurd (true≢false (sym e))
less Greater e = absurd (true≢false (sym e))

pub before_trans : (x y z : List ℕ) → is_before x y ≡ true → is_before y z ≡ true → is_before x z ≡ true
before_trans x y z e f =
    ap is_lt (nat_list_cmp_total.trans x y z (less (slice_cmp nat_cmp x y) e) (less (slice_cmp nat_cmp y z) f))

pub not_before : (x : List ℕ) → is_before x x ≡ true → ⊥
not_before x e =
    go (slice_cmp nat_cmp x x) (less (slice_cmp nat_cmp x x) e) ((eq_by_cmp_equiv nat_list_cmp_total).refl x)
  where
    go : (r : Ordering) → r ≡ Less → is_eq r ≡ true → ⊥
    go r is tied = true≢false (sym tied ∙ ap is_eq is)

-- the first of rising names is before each other one
pub head_below : (x : List ℕ) (xs : List (List ℕ))
    → are_rising (x ∷ xs) ≡ true
    → (z : List ℕ)
    → In z xs
    → is_before x z ≡ true
head_below x [] r z i = absurd i
head_below x (y ∷ ys) r z i =
    let parts = and_true (is_before x y) (are_rising (y ∷ ys)) r in
    ⊎_elim (λ (e : z ≡ y). subst (λ n. is_before x n ≡ true) (sym e) parts.0)
    (λ (j : In z ys). before_trans x y z parts.0 (head_below y ys parts.1 z j)) i
