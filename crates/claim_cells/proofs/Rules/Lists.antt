-- Lists as sets, the list with one element set, and the place of a pair
use Rattle.std.proofs.Common.{◌≡◌, ◌≢◌, ℕ, zero, suc, ◌+◌, ◌*◌, ◌%◌, ◌<◌, ◌≤◌, ◌⊎◌, List, [], ◌∷◌, ◌++◌, length, set, slice_index, sym, refl, ap, ◌∙◌, subst, ⊎_elim, inl, inr, arith, mul-le-mul_right, suc-mul, mod-lt, lt_of_not-le, Option, Some, None}
use mathlib.Core.Option.{some-ne-none, some-injective}
use native.Mathlib.Decide.{dec_le}
use lib.ListN.{get_elem?}
use Rattle.atomic_table.proofs.Lists.{at_set, at_snoc, at_longer, at_last}
use Rattle.claim_cells.specs.Rule.{At, Has, cell}

module _ {A : Type 0} where
  pub un_some : (a b : A) → Some a ≡ Some b → a ≡ b
  un_some a b e = ap (λ (o : Option A). elim o as (λ _. A) [ None ↦ a | Some x ↦ x ]) e

  pub no_some : (a : A) → None ≡ Some a → ⊥
  no_some a e = cc

  -- an element of a list behind another
  pub append_at : (l m : List A) (i : ℕ) (a : A)
      → At (l ++ m) i a
      → At l i a ⊎ ((k : ℕ) × (i ≡ length l + k) × At m k a)
  append_at [] m i a e = inr (i, omega arith, e)
  append_at (x ∷ xs) m zero a e = inl e
  append_at (x ∷ xs) m (suc i) a e =
      ⊎_elim (λ h. inl h) (λ t. inr (t.0, (let n = t.1 in omega arith), t.2)) (append_at xs m i a e)

  pub at_below : (l : List A) (i : ℕ) (a : A) → At l i a → i < length l
  at_below [] i a e = absurd (some-ne-none a (sym e))
  at_below (x ∷ xs) zero a e = omega arith
  at_below (x ∷ xs) (suc i) a e = let h = at_below xs i a e in omega arith

  pub at_there : (l : List A) (i : ℕ) → i < length l → (a : A) × At l i a
  at_there [] i h = absurd (omega arith)
  at_there (x ∷ xs) zero h = (x, refl)
  at_there (x ∷ xs) (suc i) h = at_there xs i (omega arith)

  pub same_at : (l : List A) (i j : ℕ) (a b : A) → i ≡ j → At l i a → At l j b → a ≡ b
  same_at l i j a b is x y = some-injective a b (sym x ∙ ap (get_elem? l) is ∙ y)

  pub has_snoc : (l : List A) (a b : A) → Has (l ++ a ∷ []) b → Has l b ⊎ (a ≡ b)
  has_snoc l a b h = ⊎_elim (λ e. inl (h.0, e)) (λ e. inr e) (at_snoc l a b h.0 h.1)

  pub has_more : (l m : List A) (a : A) → Has l a → Has (l ++ m) a
  has_more l m a h = (h.0, at_longer l m h.0 a h.1)

  pub has_behind : (l m : List A) (a : A) → Has m a → Has (l ++ m) a
  has_behind [] m a h = h
  has_behind (x ∷ xs) m a h = let k = has_behind xs m a h in (suc k.0, k.1)

  pub behind_at : (l m : List A) (k : ℕ) (a : A) → At m k a → At (l ++ m) (length l + k) a
  behind_at [] m k a e = subst (λ (n : ℕ). At m n a) {x = k} {y = 0 + k} (omega arith) e
  behind_at (x ∷ xs) m k a e =
      subst (λ (n : ℕ). At (x ∷ (xs ++ m)) n a) {x = suc (length xs + k)} {y = suc (length xs) + k} (omega arith)
      (behind_at xs m k a e)

  pub has_last : (l : List A) (a : A) → Has (l ++ a ∷ []) a
  has_last l a = (length l, at_last l a (length l) refl)

  pub snoc_at : (l : List A) (a b : A) (i : ℕ) → At (l ++ a ∷ []) i b → At l i b ⊎ ((i ≡ length l) × (a ≡ b))
  snoc_at [] a b zero e = inr (refl, some-injective a b e)
  snoc_at [] a b (suc i) e = absurd (some-ne-none b (sym e))
  snoc_at (x ∷ xs) a b zero e = inl e
  snoc_at (x ∷ xs) a b (suc i) e = ⊎_elim (λ h. inl h) (λ h. inr (ap suc h.0, h.1)) (snoc_at xs a b i e)

  -- what holds of the new element and of all others holds of each
  pub set_case : (l : List A) (i : ℕ) (a : A) (M : ℕ → A → Type 0) → M i a
      → ((j : ℕ) (b : A) → j ≢ i → At l j b → M j b) → (j : ℕ) (b : A) → At (set l i a) j b → M j b
  set_case l i a M here there j b e =
      ⊎_elim (λ (t : (j ≡ i) × (a ≡ b)). subst (λ (z : ℕ × A). M z.0 z.1) (λ k. (sym t.0 k, t.1 k)) here)
      (λ (t : (j ≢ i) × At l j b). there j b t.0 t.1) (at_set l i j a b e)

pub read_at : (l : List ℕ) (i n : ℕ) → At l i n → n ≡ slice_index l i
read_at [] i n e = absurd (some-ne-none n (sym e))
read_at (x ∷ xs) zero n e = sym (some-injective x n e)
read_at (x ∷ xs) (suc i) n e = read_at xs i n e

further : (a b n : ℕ) → a < b → a * n + n ≤ b * n
further a b n h = let m : suc a * n ≤ b * n = mul-le-mul_right n h in omega (arith, suc-mul a n)

pub cell_below : (window names t x : ℕ) → 0 < window → x < names → cell window names t x < window * names
cell_below window names t x w h =
    let m = further (t % window) window names (mod-lt t w) in
    let r : ℕ = t % window * names in
    let q : ℕ = window * names in
    let m' : r + names ≤ q = m in
    omega arith

same_row : (a b n x y : ℕ) → x < n → y < n → a * n + x ≡ b * n + y → Dec (b ≤ a) → Dec (a ≤ b) → (a ≡ b) × (x ≡ y)
same_row a b n x y hx hy e (yes p) (yes q) =
    let s : a ≡ b = omega arith in (
      s,
      (let u : a * n ≡ b * n = ap (λ (k : ℕ). k * n) s in
          let v : ℕ = a * n in
          let w : ℕ = b * n in
          let u' : v ≡ w = u in
          let e' : v + x ≡ w + y = e in
          omega arith),
    )
same_row a b n x y hx hy e (no p) _ =
    let m = further a b n (lt_of_not-le p) in
    let v : ℕ = a * n in
    let w : ℕ = b * n in
    let m' : v + n ≤ w = m in
    let e' : v + x ≡ w + y = e in
    absurd (omega arith)
same_row a b n x y hx hy e (yes p) (no q) =
    let m = further b a n (lt_of_not-le q) in
    let v : ℕ = a * n in
    let w : ℕ = b * n in
    let m' : w + n ≤ v = m in
    let e' : v + x ≡ w + y = e in
    absurd (omega arith)

pub cell_same : (window names t u x y : ℕ)
    → x < names
    → y < names
    → cell window names t x ≡ cell window names u y
    → (t % window ≡ u % window) × (x ≡ y)
cell_same window names t u x y hx hy e = same_row (t % window) (u % window) names x y hx hy e (dec_le _ _) (dec_le _ _)
