-- Subscriptions that close, and counts that rise: what the cluster law's shard sees of it.
use Rattle.std.proofs.Common.{◌≡◌, ◌≢◌, ℕ, ◌+◌, Bool, true, false, true≢false, cond, nat_eq, not, ◌||◌, List, [], ◌∷◌, map, Option, refl, sym, ap, ◌∙◌, subst, inl, inr}
use Rattle.std.specs.Prelude.{filter}
use Rattle.std.specs.List.{list_any}
use Rattle.list_laws.specs.Lists.{In, Pairs}
use Rattle.list_laws.proofs.Lists.{in_map}
use Rattle.list_laws.proofs.Tests.{has_in, in_has}
use Rattle.list_laws.proofs.Changes.{in_filter, filter_in, pairs_filter, in_mapped, map_filter, map_map, map_same}
use Rattle.cluster_law.specs.Shard as law
use Rattle.sub_table.specs.Subscriptions.{has_serial, serial_of, with_changed, with_max}
use Rattle.sub_table.specs.declared.Subscription.{Subscription}
use Rattle.shard_core.specs.Closings.{serials_of, is_left}
use Rattle.shard_core.specs.Owed.{sub_with_count}
use Rattle.shard_core.specs.AsLaw.{sub_of, is_open_serial}

law_has : (k : ℕ) (xs : List ℕ) → law.has k xs ≡ list_any (nat_eq k) xs
law_has k [] = refl
law_has k (x ∷ xs) = go (nat_eq k x) (law_has k xs)
  where
    go : (b : Bool) → law.has k xs ≡ list_any (nat_eq k) xs → cond b true (law.has k xs) ≡ (b || list_any (nat_eq k) xs)
    go true below = refl
    go false below = below

-- those of these serials that are open
abbrev pub closed_of : List ℕ → List Subscription → List ℕ
closed_of ended us = filter (λ k. list_any (nat_eq k) ended) (serials_of us)

without_is : (ended closed : List ℕ) (us : List Subscription)
    → ((k : ℕ) → In k (serials_of us) → law.has k closed ≡ list_any (nat_eq k) ended)
    → law.subs_without closed (map sub_of us) ≡ map sub_of (filter (is_left ended) us)
without_is ended closed [] h = refl
without_is ended closed (u ∷ us) h =
    ap (λ t. cond t (law.subs_without closed (map sub_of us)) (sub_of u ∷ law.subs_without closed (map sub_of us)))
    (h u.serial (inl refl))
    ∙ go (list_any (nat_eq u.serial) ended) (without_is ended closed us (λ k i. h k (inr i)))
  where
    go : (b : Bool)
        → law.subs_without closed (map sub_of us) ≡ map sub_of (filter (is_left ended) us)
        → cond b (law.subs_without closed (map sub_of us)) (sub_of u ∷ law.subs_without closed (map sub_of us))
        ≡ map sub_of (cond (not b) (u ∷ filter (is_left ended) us) (filter (is_left ended) us))
    go true below = below
    go false below = ap (λ t. sub_of u ∷ t) below

pub closes : (ended : List ℕ) (us : List Subscription)
    → law.subs_without (closed_of ended us) (map sub_of us) ≡ map sub_of (filter (is_left ended) us)
closes ended us =
    without_is ended (closed_of ended us) us
    (λ k i. law_has k (closed_of ended us) ∙ go k i (list_any (nat_eq k) ended) refl)
  where
    go : (k : ℕ)
        → In k (serials_of us)
        → (b : Bool)
        → list_any (nat_eq k) ended ≡ b
        → list_any (nat_eq k) (closed_of ended us) ≡ list_any (nat_eq k) ended
    go k i true e =
        in_has k (closed_of ended us) (filter_in (λ j. list_any (nat_eq j) ended) (serials_of us) k i e) ∙ sym e
    go k i false e = by (list_any (nat_eq k) (closed_of ended us)) refl
      where
        by : (t : Bool)
            → list_any (nat_eq k) (closed_of ended us) ≡ t
            → list_any (nat_eq k) (closed_of ended us) ≡ list_any (nat_eq k) ended
        by true f =
            absurd (true≢false (sym
            (in_filter (λ j. list_any (nat_eq j) ended) (serials_of us) k (has_in k (closed_of ended us) f)).1 ∙ e))
        by false f = f ∙ sym e

pub are_open : (ended : List ℕ) (us : List Subscription)
    → Pairs (λ j k. j ≢ k) (serials_of us)
    → law.AreOpen (map sub_of us) (closed_of ended us)
are_open ended us apart = record {
  each_open = λ k i.
      let m = in_map serial_of us k (in_filter (λ j. list_any (nat_eq j) ended) (serials_of us) k i).0 in
      (sub_of m.0, in_mapped sub_of us m.0 m.1, sym m.2);
  once = pairs_filter (λ j k. j ≢ k) (λ k. list_any (nat_eq k) ended) (serials_of us) apart;
}

pub serials_left : (ended : List ℕ) (us : List Subscription)
    → serials_of (filter (is_left ended) us) ≡ filter (λ j. not (list_any (nat_eq j) ended)) (serials_of us)
serials_left ended us = sym (map_filter serial_of (is_left ended) (λ j. not (list_any (nat_eq j) ended)) us (λ u. refl))

-- what is open no more was closed
pub closed_in : (ended : List ℕ) (us : List Subscription) (k : ℕ)
    → is_open_serial k us ≡ true
    → is_open_serial k (filter (is_left ended) us) ≡ false
    → In k (closed_of ended us)
closed_in ended us k was now = go (list_any (nat_eq k) ended) refl
  where
    go : (b : Bool) → list_any (nat_eq k) ended ≡ b → In k (closed_of ended us)
    go true e = filter_in (λ j. list_any (nat_eq j) ended) (serials_of us) k (has_in k (serials_of us) was) e
    go false e =
        absurd (true≢false (sym (in_has k _ (subst (In k) (sym (serials_left ended us))
        (filter_in (λ j. not (list_any (nat_eq j) ended)) (serials_of us) k (has_in k (serials_of us) was) (ap not e))))
        ∙ now))

-- counts and maxima are not seen

pub counted_sub : (given : List ℕ) (us : List Subscription) → map sub_of (map (sub_with_count given) us) ≡ map sub_of us
counted_sub given us =
    map_map (sub_with_count given) sub_of us
    ∙ map_same (λ u. sub_of (sub_with_count given u)) sub_of us (λ u. go u (list_any (nat_eq u.serial) given))
  where
    go : (u : Subscription) (b : Bool) → sub_of (cond b (record u { delivered = u.delivered + 1 }) u) ≡ sub_of u
    go u true = refl
    go u false = refl

pub counted_serials : (given : List ℕ) (us : List Subscription)
    → serials_of (map (sub_with_count given) us) ≡ serials_of us
counted_serials given us =
    map_map (sub_with_count given) serial_of us
    ∙ map_same (λ u. (sub_with_count given u).serial) serial_of us (λ u. go u (list_any (nat_eq u.serial) given))
  where
    go : (u : Subscription) (b : Bool) → (cond b (record u { delivered = u.delivered + 1 }) u).serial ≡ u.serial
    go u true = refl
    go u false = refl

-- what a change that f does not see leaves
changed_same : {A : Type 0} (f : Subscription → A) (serial : ℕ) (change : Subscription → Subscription)
    (us : List Subscription)
    → ((u : Subscription) → f (change u) ≡ f u)
    → map f (with_changed serial change us) ≡ map f us
changed_same f serial change [] h = refl
changed_same {A} f serial change (u ∷ us) h = go (has_serial serial u) (changed_same f serial change us h)
  where
    go : (b : Bool)
        → map f (with_changed serial change us) ≡ map f us
        → map f (cond b (change u ∷ us) (u ∷ with_changed serial change us)) ≡ f u ∷ map f us
    go true below = ap (λ t. t ∷ map f us) (h u)
    go false below = ap (λ t. f u ∷ t) below

pub max_sub : (serial : ℕ) (max : Option ℕ) (us : List Subscription)
    → map sub_of (with_max serial max us) ≡ map sub_of us
max_sub serial max us = changed_same sub_of serial (λ u. record u { max = max }) us (λ u. refl)

pub max_serials : (serial : ℕ) (max : Option ℕ) (us : List Subscription)
    → serials_of (with_max serial max us) ≡ serials_of us
max_serials serial max us = changed_same serial_of serial (λ u. record u { max = max }) us (λ u. refl)
