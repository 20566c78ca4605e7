-- What is kept of offers is the first of the best.
use Rattle.std.proofs.Common.{◌≡◌, ◌⊎◌, ℕ, ◌<◌, Bool, true, false, true≢false, ◌&&◌, ◌||◌, cond, nat_eq, nat_lt, List, [], ◌∷◌, Some, refl, sym, ap, ◌∙◌, subst, inl, inr, ⊎_elim, arith}
use Rattle.std.specs.List.{AllByRecursion}
use Rattle.std.proofs.lemmas.Bool.Decides.{nat_tests}
use Rattle.list_laws.proofs.Tests.{eq_true, lt_true}
use Rattle.route_session.specs.Best.{Offer, is_better, best_after}
use Rattle.route_session.specs.Laws.{IsFirstBest, BestIsKept}

-- ---- the order: by incarnation, then by the dialer, then by the serial

abbrev Above : Offer → Offer → Type 0
Above a b =
    (b.inc < a.inc) ⊎ ((b.inc ≡ a.inc) × ((a.dialer < b.dialer) ⊎ ((a.dialer ≡ b.dialer) × (b.serial < a.serial))))

above : (a b : Offer) → is_better a b ≡ true → Above a b
above a b e =
    go (nat_lt b.inc a.inc) (nat_eq b.inc a.inc) (nat_lt a.dialer b.dialer) (nat_eq a.dialer b.dialer)
    (nat_lt b.serial a.serial) refl refl refl refl refl e
  where
    go : (v w x y z : Bool)
        → nat_lt b.inc a.inc ≡ v
        → nat_eq b.inc a.inc ≡ w
        → nat_lt a.dialer b.dialer ≡ x
        → nat_eq a.dialer b.dialer ≡ y
        → nat_lt b.serial a.serial ≡ z
        → (v || (w && (x || (y && z)))) ≡ true
        → Above a b
    go true w x y z d f g h i e = inl (lt_true b.inc a.inc d)
    go false true true y z d f g h i e = inr (eq_true b.inc a.inc f, inl (lt_true a.dialer b.dialer g))
    go false true false true true d f g h i e =
        inr (eq_true b.inc a.inc f, inr (eq_true a.dialer b.dialer h, lt_true b.serial a.serial i))
    go false true false true false d f g h i e = absurd (true≢false (sym e))
    go false true false false z d f g h i e = absurd (true≢false (sym e))
    go false false x y z d f g h i e = absurd (true≢false (sym e))

lt_is : (n m : ℕ) → n < m → nat_lt n m ≡ true
lt_is n m lt = grind (arith, nat_tests)

eq_is : (n m : ℕ) → n ≡ m → nat_eq n m ≡ true
eq_is n m is = grind (arith, nat_tests)

or_true : (b : Bool) → (b || true) ≡ true
or_true true = refl
or_true false = refl

better : (a b : Offer) → Above a b → is_better a b ≡ true
better a b (inl lt) =
    ap (λ v.
    v || (nat_eq b.inc a.inc && (nat_lt a.dialer b.dialer || (nat_eq a.dialer b.dialer && nat_lt b.serial a.serial))))
    (lt_is b.inc a.inc lt)
better a b (inr (same, inl lt)) =
    ap (λ w.
    nat_lt b.inc a.inc || (w && (nat_lt a.dialer b.dialer || (nat_eq a.dialer b.dialer && nat_lt b.serial a.serial))))
    (eq_is b.inc a.inc same)
    ∙ ap (λ x. nat_lt b.inc a.inc || (x || (nat_eq a.dialer b.dialer && nat_lt b.serial a.serial)))
    (lt_is a.dialer b.dialer lt)
    ∙ or_true (nat_lt b.inc a.inc)
better a b (inr (same, inr (dialer, lt))) =
    ap (λ w.
    nat_lt b.inc a.inc || (w && (nat_lt a.dialer b.dialer || (nat_eq a.dialer b.dialer && nat_lt b.serial a.serial))))
    (eq_is b.inc a.inc same)
    ∙ ap (λ y. nat_lt b.inc a.inc || (nat_lt a.dialer b.dialer || (y && nat_lt b.serial a.serial)))
    (eq_is a.dialer b.dialer dialer)
    ∙ ap (λ z. nat_lt b.inc a.inc || (nat_lt a.dialer b.dialer || z)) (lt_is b.serial a.serial lt)
    ∙ ap (λ b. b) (ap (λ x. nat_lt b.inc a.inc || x) (or_true (nat_lt a.dialer b.dialer)))
    ∙ or_true (nat_lt b.inc a.inc)

-- what is not above stands level or below
abbrev Upto : Offer → Offer → Type 0
Upto a b =
    (a.inc < b.inc)
    ⊎ ((a.inc ≡ b.inc) × ((b.dialer < a.dialer) ⊎ ((a.dialer ≡ b.dialer) × ((b.serial < a.serial) → ⊥))))

upto : (a b : Offer) → is_better a b ≡ false → Upto a b
upto a b e =
    go (nat_lt b.inc a.inc) (nat_eq b.inc a.inc) (nat_lt a.dialer b.dialer) (nat_eq a.dialer b.dialer)
    (nat_lt b.serial a.serial) refl refl refl refl refl e
  where
    less : (n m : ℕ) → nat_lt m n ≡ false → nat_eq m n ≡ false → n < m
    less n m d f = grind (arith, nat_tests)

    go : (v w x y z : Bool)
        → nat_lt b.inc a.inc ≡ v
        → nat_eq b.inc a.inc ≡ w
        → nat_lt a.dialer b.dialer ≡ x
        → nat_eq a.dialer b.dialer ≡ y
        → nat_lt b.serial a.serial ≡ z
        → (v || (w && (x || (y && z)))) ≡ false
        → Upto a b
    go true w x y z d f g h i e = absurd (true≢false e)
    go false true true y z d f g h i e = absurd (true≢false e)
    go false true false true true d f g h i e = absurd (true≢false e)
    go false true false true false d f g h i e =
        inr (
          sym (eq_true b.inc a.inc f),
          inr (eq_true a.dialer b.dialer h, λ lt. true≢false (sym (lt_is b.serial a.serial lt) ∙ i)),
        )
    go false true false false z d f g h i e = inr (sym (eq_true b.inc a.inc f), inl (less b.dialer a.dialer g h))
    go false false x y z d f g h i e = inl (less a.inc b.inc d f)

-- better than one that is better than a third
over_both : (a b c : Offer) → is_better a b ≡ true → is_better b c ≡ true → is_better a c ≡ true
over_both a b c d e = better a c (go (above a b d) (above b c e))
  where
    go : Above a b → Above b c → Above a c
    go (inl x) (inl y) = inl (omega arith)
    go (inl x) (inr (p, y)) = inl (omega arith)
    go (inr (p, x)) (inl y) = inl (omega arith)
    go (inr (p, inl x)) (inr (q, inl y)) = inr (q ∙ p, inl (omega arith))
    go (inr (p, inl x)) (inr (q, inr (r, y))) = inr (q ∙ p, inl (omega arith))
    go (inr (p, inr (r, x))) (inr (q, inl y)) = inr (q ∙ p, inl (omega arith))
    go (inr (p, inr (r, x))) (inr (q, inr (s, y))) = inr (q ∙ p, inr (r ∙ s, omega arith))

-- better than one than which a third is not better
over_third : (a b c : Offer) → is_better a b ≡ true → is_better c b ≡ false → is_better a c ≡ true
over_third a b c d e = better a c (go (above a b d) (upto c b e))
  where
    later : (n m k : ℕ) → n < m → (n < k → ⊥) → k < m
    later n m k lt not = omega arith

    go : Above a b → Upto c b → Above a c
    go (inl x) (inl y) = inl (omega arith)
    go (inl x) (inr (p, y)) = inl (omega arith)
    go (inr (p, x)) (inl y) = inl (omega arith)
    go (inr (p, inl x)) (inr (q, inl y)) = inr (q ∙ p, inl (omega arith))
    go (inr (p, inl x)) (inr (q, inr (r, y))) = inr (q ∙ p, inl (omega arith))
    go (inr (p, inr (r, x))) (inr (q, inl y)) = inr (q ∙ p, inl (omega arith))
    go (inr (p, inr (r, x))) (inr (q, inr (s, y))) = inr (q ∙ p, inr (r ∙ sym s, later b.serial a.serial c.serial x y))

-- ---- what is kept

-- the one that was kept, or the first of the best behind it, which is better
abbrev Best : Offer → List Offer → Offer → Type 0
Best kept offers best =
    ((best ≡ kept) × AllByRecursion (λ offer. is_better offer kept ≡ false) offers)
    ⊎ ((is_better best kept ≡ true) × IsFirstBest best offers)

record Kept (kept : Offer) (offers : List Offer) : Type 0 where
  best : Offer
  is : best_after (Some kept) offers ≡ Some best
  first : Best kept offers best

all_over : (best : Offer) (d : Offer) (ds : List Offer)
    → IsFirstBest best ds
    → is_better best d ≡ true
    → IsFirstBest best (d ∷ ds)
all_over best d ds first over = record {
  before = d ∷ first.before;
  behind = first.behind;
  among = ap (λ l. d ∷ l) first.among;
  over = (over, first.over);
  under = first.under;
}

best_of : (kept : Offer) (offers : List Offer) → Kept kept offers
best_of kept [] = record { best = kept; is = refl; first = inl (refl, tt) }
best_of kept (d ∷ ds) = go (best_of d ds) (best_of kept ds) (is_better d kept) refl
  where
    go : Kept d ds → Kept kept ds → (b : Bool) → is_better d kept ≡ b → Kept kept (d ∷ ds)
    go new old true e = record {
      best = new.best;
      is = ap (λ b. best_after (Some (cond b d kept)) ds) e ∙ new.is;
      first =
          ⊎_elim (λ (f : (new.best ≡ d) × AllByRecursion (λ offer. is_better offer d ≡ false) ds).
          inr (
            ap (λ o. is_better o kept) f.0 ∙ e,
            subst (λ o. IsFirstBest o (d ∷ ds)) (sym f.0)
                (record { before = []; behind = ds; among = refl; over = tt; under = f.1 }),
          ))
          (λ (f : (is_better new.best d ≡ true) × IsFirstBest new.best ds).
          inr (over_both new.best d kept f.0 e, all_over new.best d ds f.1 f.0))
          new.first;
    }
    go new old false e = record {
      best = old.best;
      is = ap (λ b. best_after (Some (cond b d kept)) ds) e ∙ old.is;
      first =
          ⊎_elim
          (λ (f : (old.best ≡ kept) × AllByRecursion (λ offer. is_better offer kept ≡ false) ds). inl (f.0, (e, f.1)))
          (λ (f : (is_better old.best kept ≡ true) × IsFirstBest old.best ds).
          inr (f.0, all_over old.best d ds f.1 (over_third old.best kept d f.0 e)))
          old.first;
    }

pub best_is_kept : BestIsKept
best_is_kept [] = refl
best_is_kept (d ∷ ds) =
    let k = best_of d ds in
    rw k.is (⊎_elim (λ (f : (k.best ≡ d) × AllByRecursion (λ offer. is_better offer d ≡ false) ds).
    subst (λ o. IsFirstBest o (d ∷ ds)) (sym f.0)
    (record { before = []; behind = ds; among = refl; over = tt; under = f.1 }))
    (λ (f : (is_better k.best d ≡ true) × IsFirstBest k.best ds). all_over k.best d ds f.1 f.0) k.first)
