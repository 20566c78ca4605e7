-- The best of the same dials is the same.
use Rattle.std.proofs.Common.{◌≡◌, ◌⊎◌, ℕ, ◌<◌, ◌≤◌, Bool, true, false, true≢false, ◌&&◌, ◌||◌, cond, nat_eq, nat_lt, List, [], ◌∷◌, map, Some, refl, sym, ap, ◌∙◌, subst, inl, inr, ⊎_elim, arith}
use Rattle.std.proofs.lemmas.Bool.Decides.{nat_tests}
use Rattle.list_laws.specs.Lists.{In}
use Rattle.list_laws.proofs.Tests.{eq_true, eq_false, lt_true, lt_false}
use Rattle.route_session.specs.Best.{is_better, best_after}
use Rattle.route_session.specs.Laws.{Dial, offer_of, dial_kept, EndsAgree}

abbrev Better : Dial → Dial → Type 0
Better d r = (d.0 < r.0) ⊎ ((d.0 ≡ r.0) × (r.1 < d.1))

abbrev NoBetter : Dial → Dial → Type 0
NoBetter d r = (r.0 < d.0) ⊎ ((r.0 ≡ d.0) × (d.1 ≤ r.1))

not_below : (n : ℕ) → nat_lt n n ≡ false
not_below n = grind (arith, nat_tests)

equal : (n : ℕ) → nat_eq n n ≡ true
equal n = grind (arith, nat_tests)

-- of one incarnation the dials alone decide
by_dials : (peer inc : ℕ) (d r : Dial)
    → is_better (offer_of peer inc d) (offer_of peer inc r) ≡ (nat_lt d.0 r.0 || (nat_eq d.0 r.0 && nat_lt r.1 d.1))
by_dials peer inc d r = λ i. not_below inc i || (equal inc i && (nat_lt d.0 r.0 || (nat_eq d.0 r.0 && nat_lt r.1 d.1)))

better : (d r : Dial) → (nat_lt d.0 r.0 || (nat_eq d.0 r.0 && nat_lt r.1 d.1)) ≡ true → Better d r
better d r e = go (nat_lt d.0 r.0) (nat_eq d.0 r.0) (nat_lt r.1 d.1) refl refl refl e
  where
    go : (x y z : Bool)
        → nat_lt d.0 r.0 ≡ x
        → nat_eq d.0 r.0 ≡ y
        → nat_lt r.1 d.1 ≡ z
        → (x || (y && z)) ≡ true
        → Better d r
    go true y z f g h k = inl (lt_true d.0 r.0 f)
    go false true true f g h k = inr (eq_true d.0 r.0 g, lt_true r.1 d.1 h)
    go false true false f g h k = absurd (true≢false (sym k))
    go false false z f g h k = absurd (true≢false (sym k))

no_better : (d r : Dial) → (nat_lt d.0 r.0 || (nat_eq d.0 r.0 && nat_lt r.1 d.1)) ≡ false → NoBetter d r
no_better d r e = go (nat_lt d.0 r.0) (nat_eq d.0 r.0) (nat_lt r.1 d.1) refl refl refl e
  where
    above : r.0 ≤ d.0 → (d.0 ≡ r.0 → ⊥) → r.0 < d.0
    above le apart = omega arith

    go : (x y z : Bool)
        → nat_lt d.0 r.0 ≡ x
        → nat_eq d.0 r.0 ≡ y
        → nat_lt r.1 d.1 ≡ z
        → (x || (y && z)) ≡ false
        → NoBetter d r
    go true y z f g h k = absurd (true≢false k)
    go false true true f g h k = absurd (true≢false k)
    go false true false f g h k = inr (sym (eq_true d.0 r.0 g), lt_false r.1 d.1 h)
    go false false z f g h k = inl (above (lt_false d.0 r.0 f) (eq_false d.0 r.0 g))

-- ---- the order

same : (d : Dial) → NoBetter d d
same d = inr (refl, omega arith)

over : (d k r : Dial) → NoBetter d k → NoBetter k r → NoBetter d r
over d k r (inl a) (inl b) = inl (omega arith)
over d k r (inl a) (inr b) = let e = b.0 in inl (omega arith)
over d k r (inr a) (inl b) = let e = a.0 in inl (omega arith)
over d k r (inr a) (inr b) = let x = a.1 in let y = b.1 in inr (b.0 ∙ a.0, omega arith)

weaker : (d k : Dial) → Better d k → NoBetter k d
weaker d k (inl a) = inl a
weaker d k (inr a) = let x = a.1 in inr (a.0, omega arith)

both : (d e : Dial) → NoBetter d e → NoBetter e d → d ≡ e
both d e (inl a) (inl b) = absurd (omega arith)
both d e (inl a) (inr b) = absurd (let x = b.0 in omega arith)
both d e (inr a) (inl b) = absurd (let x = a.0 in omega arith)
both d e (inr a) (inr b) =
    let serials : d.1 ≡ e.1 = (let x = a.1 in let y = b.1 in omega arith) in λ i. (sym a.0 i, serials i)

-- ---- what is kept

record IsBest (peer inc : ℕ) (k : Dial) (ds : List Dial) : Type 0 where
  best : Dial
  is : best_after (Some (offer_of peer inc k)) (map (offer_of peer inc) ds) ≡ Some (offer_of peer inc best)
  among : In best (k ∷ ds)
  most : (d : Dial) → In d (k ∷ ds) → NoBetter d best

best_of : (peer inc : ℕ) (k : Dial) (ds : List Dial) → IsBest peer inc k ds
best_of peer inc k [] = record {
  best = k;
  is = refl;
  among = inl refl;
  most = λ d i. ⊎_elim (λ (e : d ≡ k). subst (λ x. NoBetter x k) (sym e) (same k)) (λ j. absurd j) i;
}
best_of peer inc k (d ∷ ds) =
    go (best_of peer inc d ds) (best_of peer inc k ds) (is_better (offer_of peer inc d) (offer_of peer inc k)) refl
  where
    go : IsBest peer inc d ds
        → IsBest peer inc k ds
        → (b : Bool)
        → is_better (offer_of peer inc d) (offer_of peer inc k) ≡ b
        → IsBest peer inc k (d ∷ ds)
    go new old true e = record {
      best = new.best;
      is =
          ap (λ b. best_after (Some (cond b (offer_of peer inc d) (offer_of peer inc k))) (map (offer_of peer inc) ds))
          e
          ∙ new.is;
      among = inr new.among;
      most = λ x i.
          ⊎_elim (λ (same : x ≡ k).
          subst (λ y. NoBetter y new.best) (sym same)
          (over k d new.best (weaker d k (better d k (sym (by_dials peer inc d k) ∙ e))) (new.most d (inl refl))))
          (λ (j : In x (d ∷ ds)). new.most x j) i;
    }
    go new old false e = record {
      best = old.best;
      is =
          ap (λ b. best_after (Some (cond b (offer_of peer inc d) (offer_of peer inc k))) (map (offer_of peer inc) ds))
          e
          ∙ old.is;
      among = ⊎_elim (λ (same : old.best ≡ k). inl same) (λ (j : In old.best ds). inr (inr j)) old.among;
      most = λ x i.
          ⊎_elim (λ (same : x ≡ k). old.most x (inl same))
          (λ (j : In x (d ∷ ds)).
          ⊎_elim (λ (same : x ≡ d).
          subst (λ y. NoBetter y old.best) (sym same)
          (over d k old.best (no_better d k (sym (by_dials peer inc d k) ∙ e)) (old.most k (inl refl))))
          (λ (l : In x ds). old.most x (inr l)) j)
          i;
    }

pub ends_agree : EndsAgree
ends_agree here there here_inc there_inc [] [] alike = refl
ends_agree here there here_inc there_inc [] (e ∷ es) alike = absurd ((alike e).1 (inl refl))
ends_agree here there here_inc there_inc (d ∷ ds) [] alike = absurd ((alike d).0 (inl refl))
ends_agree here there here_inc there_inc (d ∷ ds) (e ∷ es) alike =
    let one = best_of there there_inc d ds in
    let other = best_of here here_inc e es in
    ap dial_kept one.is
    ∙ ap (λ (x : Dial). Some x)
    (both one.best other.best (other.most one.best ((alike one.best).0 one.among))
    (one.most other.best ((alike other.best).1 other.among)))
    ∙ sym (ap dial_kept other.is)
