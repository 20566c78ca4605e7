-- Counts are the numbers of the open, and the limits of the open are those of the counts.
use Rattle.std.proofs.Common.{◌≡◌, ℕ, zero, suc, ◌+◌, ◌<◌, ◌≤◌, Bool, true, false, not, ◌⊎◌, inl, inr, ⊎_elim, cond, List, [], ◌∷◌, length, All, Option, Some, None, refl, ap, sym, ◌∙◌, subst, arith}
use Rattle.std.specs.Prelude.{nat_le, unwrap_or, sum_by, filter}
use Rattle.std.specs.List.{AllByRecursion}
use Rattle.std.specs.Cmp.{alike_right, eq_by_cmp_equiv}
use Rattle.std.specs.declared.cmp.Ordering.TheVariants.{Less, Equal}
use Rattle.std.specs.Ordering.{is_eq}
use Rattle.std.specs.List.Sorted.{IsStrictlySortedBy}
use Rattle.std.specs.Map.{keys_of, values_of, lookup}
use Rattle.std.specs.BTreeMap.{is_at}
use Rattle.std.proofs.lemmas.Bool.Decides.{nat_tests}
use Rattle.std.proofs.lemmas.List.Elements.{All-head, All-tail}
use Rattle.std.proofs.lemmas.List.Filters.{sum_by-filter_both}
use Rattle.std.proofs.lemmas.List.Sums.{sum_by-cons}
use Rattle.std.proofs.lemmas.Map.Keys.{sorted_head, sorted_tail}
use Rattle.subj.specs.declared.keys.Key.{Key}
use Rattle.subj.specs.declared.limits.TheConstants.{MAX_WEIGHT, SUBSCRIPTIONS, SUBSCRIPTION_BYTES}
use Rattle.subj.specs.Keys.{key_cmp, cost_of, opening, closing}
use Rattle.interest.specs.Counts.{Counts, count_of, delta_fault, too_many_if, total_cost, IsInterest}
use Rattle.interest.specs.Laws.{IsCounting, one_if_same, times}
use Rattle.interest.proofs.Counting.Deltas.{opening_of_known, opening_of_unknown, closing_of_known, has_room}
use Rattle.interest.specs.KeyOrder.{key_order_total}
use Rattle.interest.proofs.Counting.Ties.{tied_cost}
use Rattle.interest.proofs.Counting.Told.{step, is_equal, lookup_tied}

abbrev tied : Key → Key → Bool
tied key other = is_eq (key_cmp key other)

-- ---- the keys of counts are among those that they number

-- each number is of one at least
abbrev pub AreSome : Counts → Type 0
AreSome [] = Unit {0}
AreSome (e ∷ es) = (1 ≤ e.1) × AreSome es

pub are_some : (counts : Counts) → All (λ count. (1 ≤ count) × (count ≤ MAX_WEIGHT)) (values_of counts) → AreSome counts
are_some [] all = tt
are_some (e ∷ es) all = (
  (All-head (λ count. (1 ≤ count) × (count ≤ MAX_WEIGHT)) e.1 (values_of es) all).0,
  are_some es (All-tail (λ count. (1 ≤ count) × (count ≤ MAX_WEIGHT)) e.1 (values_of es) all),
)

more_of : (f : Key → ℕ) (k : Key) (ks : List Key) → sum_by f (k ∷ ks) ≡ f k + sum_by f ks
more_of f k ks = sum_by-cons f k ks

-- one that stands there counts
weighs : (f : Key → ℕ)
    → ((a b : Key) → key_cmp a b ≡ Equal → f a ≡ f b)
    → (key : Key) (keys : List Key)
    → 1 ≤ times key keys
    → f key ≤ sum_by f (filter (tied key) keys)
weighs f same key [] some = absurd (omega arith)
weighs f same key (k ∷ ks) some = go (λ one. weighs f same key ks one) (tied key k) refl
  where
    rest : (b : Bool) → tied key k ≡ b → 1 ≤ cond b 1 0 + times key ks
    rest b is = subst (λ b. 1 ≤ cond b 1 0 + times key ks) is (subst (λ n. 1 ≤ n) (more_of (one_if_same key) k ks) some)

    go : (1 ≤ times key ks → f key ≤ sum_by f (filter (tied key) ks))
        → (b : Bool)
        → tied key k ≡ b
        → f key ≤ sum_by f (cond b (k ∷ filter (tied key) ks) (filter (tied key) ks))
    go behind true is =
        let e = same key k (is_equal (key_cmp key k) is) in let m = more_of f k (filter (tied key) ks) in omega arith
    go behind false is = behind (let r = rest false is in omega arith)

-- those that are not the key stay as often
stays : (key other : Key)
    → tied other key ≡ false
    → (keys : List Key)
    → times other keys ≡ times other (filter (λ k. not (tied key k)) keys)
stays key other apart [] = refl
stays key other apart (k ∷ ks) = more_of (one_if_same other) k ks ∙ go (stays key other apart ks) (tied key k) refl
  where
    go : times other ks ≡ times other (filter (λ k. not (tied key k)) ks)
        → (b : Bool)
        → tied key k ≡ b
        → one_if_same other k + times other ks
        ≡ times other (cond (not b) (k ∷ filter (λ k. not (tied key k)) ks) (filter (λ k. not (tied key k)) ks))
    go rest true is =
        let none : one_if_same other k ≡ 0 = ap (λ b. cond b 1 0)
        (ap is_eq (sym (alike_right key_order_total key k other (is_equal (key_cmp key k) is))) ∙ apart) in
        omega arith
    go rest false is =
        ap (λ n. one_if_same other k + n) rest ∙ sym (more_of (one_if_same other) k (filter (λ k. not (tied key k)) ks))

found_none : (o : Option ℕ) → o ≡ None → unwrap_or o 0 ≡ 0
found_none o is = ap (λ o. unwrap_or o 0) is

-- behind the first entry its key has no other
pub absent_behind : (e : Key × ℕ) (es : Counts)
    → IsStrictlySortedBy key_cmp (keys_of (e ∷ es))
    → lookup (is_at (key_cmp e.0)) es ≡ None
absent_behind e es sorted = behind es (sorted_head key_cmp e.0 (keys_of es) sorted)
  where
    behind : (fs : Counts)
        → AllByRecursion (λ y. key_cmp e.0 y ≡ Less) (keys_of fs)
        → lookup (is_at (key_cmp e.0)) fs ≡ None
    behind [] all = refl
    behind (f ∷ fs) all = ap (λ r. cond (is_eq r) (Some f.1) (lookup (is_at (key_cmp e.0)) fs)) all.0 ∙ behind fs all.1

gone_behind : (e : Key × ℕ) (es : Counts) → IsStrictlySortedBy key_cmp (keys_of (e ∷ es)) → count_of es e.0 ≡ 0
gone_behind e es sorted = found_none (lookup (is_at (key_cmp e.0)) es) (absent_behind e es sorted)

pub keys_among : (f : Key → ℕ)
    → ((a b : Key) → key_cmp a b ≡ Equal → f a ≡ f b)
    → (counts : Counts) (keys : List Key)
    → IsStrictlySortedBy key_cmp (keys_of counts)
    → AreSome counts
    → ((other : Key) → count_of counts other ≤ times other keys)
    → sum_by (λ (e : Key × ℕ). f e.0) counts ≤ sum_by f keys
keys_among f same [] keys sorted some among = omega arith
keys_among f same (e ∷ es) keys sorted some among =
    let mine : 1 ≤ times e.0 keys = (let a = among e.0 in let n = first in let s = some.0 in omega arith) in
    let here = weighs f same e.0 keys mine in
    let rest = keys_among f same es (filter (λ k. not (tied e.0 k)) keys) (sorted_tail key_cmp e.0 (keys_of es) sorted)
    some.1 others in
    let both = sum_by-filter_both (tied e.0) (λ k. not (tied e.0 k)) (λ k. refl) f keys in
    let m = sum_by-cons (λ (e : Key × ℕ). f e.0) e es in
    omega arith
  where
    first : count_of (e ∷ es) e.0 ≡ e.1
    first =
        ap (λ b. unwrap_or (cond b (Some e.1) (lookup (is_at (key_cmp e.0)) es)) 0)
        ((eq_by_cmp_equiv key_order_total).refl e.0)

    others : (other : Key) → count_of es other ≤ times other (filter (λ k. not (tied e.0 k)) keys)
    others other = go (tied other e.0) refl
      where
        go : (b : Bool) → tied other e.0 ≡ b → count_of es other ≤ times other (filter (λ k. not (tied e.0 k)) keys)
        go true is =
            let none : count_of es other ≡ 0 =
            ap (λ o. unwrap_or o 0) (lookup_tied key_order_total other e.0 es (is_equal (key_cmp other e.0) is))
            ∙ gone_behind e es sorted in
            omega arith
        go false is =
            let a = among other in
            let there : count_of (e ∷ es) other ≡ count_of es other =
            ap (λ b. unwrap_or (cond b (Some e.1) (lookup (is_at (key_cmp other)) es)) 0) is in
            let kept = stays e.0 other is keys in
            omega arith

ones : {X : Type 0} (xs : List X) → sum_by (λ (x : X). 1) xs ≡ length xs
ones [] = refl
ones (x ∷ xs) = let m = sum_by-cons (λ x. 1) x xs in let r = ones xs in omega arith

times_most : (key : Key) (keys : List Key) → times key keys ≤ length keys
times_most key [] = omega arith
times_most key (k ∷ ks) =
    let m = more_of (one_if_same key) k ks in
    let r = times_most key ks in
    let one = at_most_one (tied key k) in
    omega arith
  where
    at_most_one : (b : Bool) → cond b 1 0 ≤ 1
    at_most_one true = omega arith
    at_most_one false = omega arith

not_most : (n m : ℕ) → n < m → nat_le m n ≡ false
not_most n m less = grind (arith, nat_tests)

taken_or_not : (n : ℕ) → (n ≡ 0) ⊎ (1 ≤ n)
taken_or_not zero = inl refl
taken_or_not (suc n) = inr (omega arith)

opens : (counts : Counts) (key : Key) (keys : List Key)
    → IsInterest counts
    → ((other : Key) → count_of counts other ≡ times other keys)
    → length keys + 1 ≤ SUBSCRIPTIONS
    → sum_by cost_of keys + cost_of key ≤ SUBSCRIPTION_BYTES
    → delta_fault counts (opening key) ≡ None
opens counts key keys is numbers few small = ⊎_elim new known (taken_or_not (count_of counts key))
  where
    among : (other : Key) → count_of counts other ≤ times other keys
    among other = let n = numbers other in omega arith

    fewer : length counts ≤ length keys
    fewer =
        let h = keys_among (λ k. 1) (λ a b e. refl) counts keys is.rising (are_some counts is.counted) among in
        let a = ones counts in
        let b = ones keys in
        omega arith

    less : total_cost counts ≤ sum_by cost_of keys
    less = keys_among cost_of tied_cost counts keys is.rising (are_some counts is.counted) among

    new : count_of counts key ≡ 0 → delta_fault counts (opening key) ≡ None
    new none =
        opening_of_unknown counts (opening key) refl none
        ∙ ap too_many_if (has_room counts key (let f = fewer in omega arith) (let l = less in omega arith))

    known : 1 ≤ count_of counts key → delta_fault counts (opening key) ≡ None
    known some =
        opening_of_known counts (opening key) (count_of counts key) refl refl some
        ∙ ap too_many_if
        (not_most (count_of counts key) MAX_WEIGHT (let n = numbers key in let t = times_most key keys in omega arith))

pub is_counting : IsCounting
is_counting = record {
  none = λ key. refl;
  opened = λ counts key other is taken. let s = step counts (opening key) other is.rising taken in omega arith;
  closed = λ counts key other is some.
      let s = step counts (closing key) other is.rising
      (closing_of_known counts (closing key) (count_of counts key) refl refl some) in
      omega arith;
  opens = opens;
  closes = λ counts key some. closing_of_known counts (closing key) (count_of counts key) refl refl some;
}
