-- The queue names that the hub's counts want are those of the open subscriptions.
use Rattle.std.proofs.Common.{◌≡◌, ℕ, ◌+◌, ◌≤◌, Bool, true, false, true≢false, ◌&&◌, cond, List, [], ◌∷◌, map, Option, Some, None, All, refl, sym, ap, ◌∙◌, subst, inl, inr, ⊎_elim, arith}
use Rattle.std.specs.Prelude.{unwrap_or}
use Rattle.std.specs.Map.{values_of, lookup}
use Rattle.std.specs.BTreeMap.{is_at}
use Rattle.std.specs.Cmp.Lexicographic.{slice_cmp}
use Rattle.std.specs.declared.cmp.Ordering.{Ordering}
use Rattle.std.specs.declared.cmp.Ordering.TheVariants.{Less, Equal, Greater}
use Rattle.std.specs.Option.{option_cmp}
use Rattle.std.specs.Ordering.{is_eq, nat_cmp, ordering_then}
use Rattle.std.specs.Cmp.{eq_by_cmp_equiv}
use Rattle.std.proofs.lemmas.List.Elements.{All-head, All-tail}
use Rattle.std.proofs.lemmas.List.Sums.{sum_by-cons}
use Rattle.std.proofs.lemmas.Map.Lookups.{exact_bytes}
use Rattle.std.proofs.lemmas.Option.{none-some}
use Rattle.std.proofs.lemmas.Slice.Eq.{bytes_eq-Decides}
use Rattle.list_laws.specs.Lists.{In}
use Rattle.list_laws.proofs.Lists.{in_map}
use Rattle.list_laws.proofs.Tests.{and_true}
use Rattle.subj.specs.declared.keys.Key.{Key}
use Rattle.subj.specs.declared.limits.TheConstants.{MAX_WEIGHT}
use Rattle.subj.specs.Keys.{key_cmp}
use Rattle.subj.specs.Matching.{subject_matches}
use Rattle.subj.proofs.Rising.{before_trans, not_before, head_below}
use Rattle.subj.specs.QueueNames.{is_before_first, are_rising, is_named}
use Rattle.subj.specs.Servers.{ServerIdentity}
use Rattle.interest.specs.Counts.{Counts, count_of, IsInterest}
use Rattle.interest.specs.Laws.{one_if_same, times}
use Rattle.interest.specs.Matches.{names_in, weight_in, matching_weight}
use Rattle.interest.specs.KeyOrder.{key_order_total}
use Rattle.sub_table.specs.declared.Subscription.{Subscription}
use Rattle.hub_core.specs.State.{State}
use Rattle.hub_core.specs.Wanted.{Wants, SomeWants, PeerWants, NamesAreWanted}
use Rattle.node_law.specs.CountsOpen.{keys_of}
use Rattle.mesh_pipe.specs.PipeText.{names_wanted}

-- ---- rising names are told by who is among them

abbrev Rises : List (List ℕ) → Type 0
Rises names = are_rising names ≡ true

tail_rises : (x : List ℕ) (xs : List (List ℕ)) → Rises (x ∷ xs) → Rises xs
tail_rises x xs r = (and_true (is_before_first x xs) (are_rising xs) r).1

abbrev Among : List (List ℕ) → List (List ℕ) → Type 0
Among xs ys = (z : List ℕ) → In z xs → In z ys

same_head : (x y : List ℕ) (xs ys : List (List ℕ))
    → Rises (x ∷ xs)
    → Rises (y ∷ ys)
    → Among (x ∷ xs) (y ∷ ys)
    → Among (y ∷ ys) (x ∷ xs)
    → x ≡ y
same_head x y xs ys r s to from =
    ⊎_elim (λ (e : x ≡ y). e)
    (λ (i : In x ys).
    ⊎_elim (λ (e : y ≡ x). sym e)
    (λ (j : In y xs). absurd (not_before x (before_trans x y x (head_below x xs r y j) (head_below y ys s x i))))
    (from y (inl refl)))
    (to x (inl refl))

among_tail : (x y : List ℕ) (xs ys : List (List ℕ)) → x ≡ y → Rises (x ∷ xs) → Among (x ∷ xs) (y ∷ ys) → Among xs ys
among_tail x y xs ys same r to z i =
    ⊎_elim (λ (e : z ≡ y). absurd (not_before x (head_below x xs r x (subst (λ n. In n xs) (e ∙ sym same) i))))
    (λ (j : In z ys). j) (to z (inr i))

same_names : (xs ys : List (List ℕ)) → Rises xs → Rises ys → Among xs ys → Among ys xs → xs ≡ ys
same_names [] [] r s to from = refl
same_names [] (y ∷ ys) r s to from = absurd (from y (inl refl))
same_names (x ∷ xs) [] r s to from = absurd (to x (inl refl))
same_names (x ∷ xs) (y ∷ ys) r s to from =
    let same = same_head x y xs ys r s to from in
    let rest = same_names xs ys (tail_rises x xs r) (tail_rises y ys s) (among_tail x y xs ys same r to)
    (among_tail y x ys xs (sym same) s from) in
    λ k. same k ∷ rest k

-- ---- who wants a name, by the counts and by the open subscriptions

both_equal : (a b : Ordering) → ordering_then a b ≡ Equal → (a ≡ Equal) × (b ≡ Equal)
both_equal Less b is = cc
both_equal Equal b is = (refl, is)
both_equal Greater b is = cc

same_queues : (a b : Option (List ℕ)) → option_cmp (slice_cmp nat_cmp) a b ≡ Equal → a ≡ b
same_queues None None is = refl
same_queues None (Some y) is = cc
same_queues (Some x) None is = cc
same_queues (Some x) (Some y) is = ap Some (exact_bytes x y is)

same_key : (a b : Key) → key_cmp a b ≡ Equal → a ≡ b
same_key a b tied =
    let parts =
    both_equal (slice_cmp nat_cmp a.pattern b.pattern) (option_cmp (slice_cmp nat_cmp) a.queue b.queue) tied in
    λ i. record { pattern = exact_bytes a.pattern b.pattern parts.0 i; queue = same_queues a.queue b.queue parts.1 i }

is_equal : (r : Ordering) → is_eq r ≡ true → r ≡ Equal
is_equal Less is = absurd (true≢false (sym is))
is_equal Equal is = refl
is_equal Greater is = absurd (true≢false (sym is))

-- each number is of one at least
abbrev AreSome : Counts → Type 0
AreSome [] = Unit {0}
AreSome (e ∷ es) = (1 ≤ e.1) × AreSome es

are_some : (counts : Counts) → All (λ count. (1 ≤ count) × (count ≤ MAX_WEIGHT)) (values_of counts) → AreSome counts
are_some [] all = tt
are_some (e ∷ es) all = (
  (All-head (λ count. (1 ≤ count) × (count ≤ MAX_WEIGHT)) e.1 (values_of es) all).0,
  are_some es (All-tail (λ count. (1 ≤ count) × (count ≤ MAX_WEIGHT)) e.1 (values_of es) all),
)

some_at : (counts : Counts) → AreSome counts → (entry : Key × ℕ) → In entry counts → 1 ≤ entry.1
some_at [] some entry i = absurd i
some_at (e ∷ es) some entry (inl is) = subst (λ (n : Key × ℕ). 1 ≤ n.1) (sym is) some.0
some_at (e ∷ es) some entry (inr i) = some_at es some.1 entry i

-- what stands there is counted
counted_there : (counts : Counts) → AreSome counts → (entry : Key × ℕ) → In entry counts → 1 ≤ count_of counts entry.0
counted_there [] some entry i = absurd i
counted_there (e ∷ es) some entry i = go (is_eq (key_cmp entry.0 e.0)) refl (λ j. counted_there es some.1 entry j)
  where
    go : (b : Bool)
        → is_eq (key_cmp entry.0 e.0) ≡ b
        → (In entry es → 1 ≤ count_of es entry.0)
        → 1 ≤ unwrap_or (cond b (Some e.1) (lookup (is_at (key_cmp entry.0)) es)) 0
    go true is later = some.0
    go false is later =
        ⊎_elim (λ (at : entry ≡ e).
        absurd (true≢false (sym ((eq_by_cmp_equiv key_order_total).refl entry.0)
        ∙ ap (λ (n : Key × ℕ). is_eq (key_cmp entry.0 n.0)) at ∙ is)))
        (λ (j : In entry es). later j) i

record CountedAt (key : Key) (counts : Counts) : Type 0 where
  entry : Key × ℕ
  there : In entry counts
  same : entry.0 ≡ key

find_counted : (key : Key) (counts : Counts) → 1 ≤ count_of counts key → CountedAt key counts
find_counted key [] some = absurd (omega arith)
find_counted key (e ∷ es) some = go (is_eq (key_cmp key e.0)) refl some (λ more. find_counted key es more)
  where
    go : (b : Bool)
        → is_eq (key_cmp key e.0) ≡ b
        → 1 ≤ unwrap_or (cond b (Some e.1) (lookup (is_at (key_cmp key)) es)) 0
        → (1 ≤ count_of es key → CountedAt key es)
        → CountedAt key (e ∷ es)
    go true is some later = record {
      entry = e;
      there = inl refl;
      same = sym (same_key key e.0 (is_equal (key_cmp key e.0) is));
    }
    go false is some later =
        let found = later some in record { entry = found.entry; there = inr found.there; same = found.same }

more_times : (key k : Key) (ks : List Key) → times key (k ∷ ks) ≡ one_if_same key k + times key ks
more_times key k ks = sum_by-cons (one_if_same key) k ks

record OpenAt (key : Key) (subs : List Subscription) : Type 0 where
  sub : Subscription
  there : In sub subs
  same : sub.key ≡ key

find_open : (key : Key) (subs : List Subscription) → 1 ≤ times key (keys_of subs) → OpenAt key subs
find_open key [] some = absurd (omega arith)
find_open key (u ∷ us) some =
    go (is_eq (key_cmp key u.key)) refl (subst (λ n. 1 ≤ n) (more_times key u.key (keys_of us)) some)
    (λ more. find_open key us more)
  where
    go : (b : Bool)
        → is_eq (key_cmp key u.key) ≡ b
        → 1 ≤ cond b 1 0 + times key (keys_of us)
        → (1 ≤ times key (keys_of us) → OpenAt key us)
        → OpenAt key (u ∷ us)
    go true is some later = record {
      sub = u;
      there = inl refl;
      same = sym (same_key key u.key (is_equal (key_cmp key u.key) is));
    }
    go false is some later =
        let found = later (omega (arith, some)) in
        record { sub = found.sub; there = inr found.there; same = found.same }

open_counts : (sub : Subscription) (subs : List Subscription) → In sub subs → 1 ≤ times sub.key (keys_of subs)
open_counts sub [] i = absurd i
open_counts sub (u ∷ us) i =
    subst (λ n. 1 ≤ n) (sym (more_times sub.key u.key (keys_of us)))
    (⊎_elim (λ (e : sub ≡ u). here e) (λ (j : In sub us). let more = open_counts sub us j in omega (arith, more)) i)
  where
    here : sub ≡ u → 1 ≤ one_if_same sub.key u.key + times sub.key (keys_of us)
    here e =
        let same : one_if_same sub.key u.key ≡ 1 = ap (λ b. cond b 1 0)
        (ap (λ (v : Subscription). is_eq (key_cmp sub.key v.key)) (sym e)
        ∙ (eq_by_cmp_equiv key_order_total).refl sub.key) in
        omega (arith, same)

abbrev weighed : Subscription → Key × ℕ
weighed sub = (sub.key, 1)

in_weighed : (sub : Subscription) (subs : List Subscription) → In sub subs → In (weighed sub) (map weighed subs)
in_weighed sub [] i = absurd i
in_weighed sub (u ∷ us) (inl e) = inl (ap weighed e)
in_weighed sub (u ∷ us) (inr i) = inr (in_weighed sub us i)

-- the counts are the numbers of the open subscriptions
pub record CountsOf (subs : List Subscription) (counts : Counts) : Type 0 where
  pub valid : IsInterest counts
  pub numbers : (key : Key) → count_of counts key ≡ times key (keys_of subs)

wanted_open : (subject z : List ℕ) (subs : List Subscription) (counts : Counts)
    → CountsOf subs counts
    → SomeWants subject z counts
    → SomeWants subject z (map weighed subs)
wanted_open subject z subs counts c w =
    let there = counted_there counts (are_some counts c.valid.counted) w.0 w.1 in
    let found = find_open w.0.0 subs (subst (λ n. 1 ≤ n) (c.numbers w.0.0) there) in (
      weighed found.sub,
      in_weighed found.sub subs found.there,
      record {
        queue = ap (λ (k : Key). k.queue) found.same ∙ w.2.queue;
        matches = ap (λ (k : Key). subject_matches k.pattern subject) found.same ∙ w.2.matches;
      },
    )

wanted_counted : (subject z : List ℕ) (subs : List Subscription) (counts : Counts)
    → CountsOf subs counts
    → SomeWants subject z (map weighed subs)
    → SomeWants subject z counts
wanted_counted subject z subs counts c w =
    let m = in_map weighed subs w.0 w.1 in
    let key : w.0.0 ≡ m.0.key = ap (λ (e : Key × ℕ). e.0) m.2 in
    let found =
    find_counted m.0.key counts (subst (λ n. 1 ≤ n) (sym (c.numbers m.0.key)) (open_counts m.0 subs m.1)) in (
      found.entry,
      found.there,
      record {
        queue = ap (λ (k : Key). k.queue) (found.same ∙ sym key) ∙ w.2.queue;
        matches = ap (λ (k : Key). subject_matches k.pattern subject) (found.same ∙ sym key) ∙ w.2.matches;
      },
    )

-- ---- the names

abbrev alone : Counts → State
alone keys = record { issued = 0; published = 0; changed = 0; draining = false; counts = keys; peers = [] }

nowhere : ServerIdentity
nowhere = record { names = []; me = 0; inc = 0; shards = 0 }

no_peer : (subject z : List ℕ) (keys : Counts) → PeerWants nowhere (alone keys) subject z → ⊥
no_peer subject z keys p = none-some p.peer p.at

module _ (law : NamesAreWanted) where
  from_keys : (subject z : List ℕ) (keys : Counts) → In z (names_in subject keys []) → SomeWants subject z keys
  from_keys subject z keys i =
      ⊎_elim (λ (s : SomeWants subject z keys). s)
      (λ (p : PeerWants nowhere (alone keys) subject z). absurd (no_peer subject z keys p))
      ((law.wanted nowhere (alone keys) subject z).0 i)

  to_keys : (subject z : List ℕ) (keys : Counts) → SomeWants subject z keys → In z (names_in subject keys [])
  to_keys subject z keys s = (law.wanted nowhere (alone keys) subject z).1 (inl s)

  pub names_are_open : (subject : List ℕ) (subs : List Subscription) (counts : Counts)
      → CountsOf subs counts
      → names_in subject counts [] ≡ names_wanted subject subs
  names_are_open subject subs counts c =
      same_names (names_in subject counts []) (names_wanted subject subs) (law.rising nowhere (alone counts) subject)
      (law.rising nowhere (alone (map weighed subs)) subject)
      (λ z i. to_keys subject z (map weighed subs) (wanted_open subject z subs counts c (from_keys subject z counts i)))
      (λ z i.
      to_keys subject z counts (wanted_counted subject z subs counts c (from_keys subject z (map weighed subs) i)))

-- ---- and each has a weight

weighs_there : (subject z : List ℕ) (keys : Counts) (entry : Key × ℕ)
    → In entry keys
    → Wants subject z entry
    → entry.1 ≤ weight_in subject z keys
weighs_there subject z [] entry i w = absurd i
weighs_there subject z (e ∷ es) entry i w =
    let split = sum_by-cons (matching_weight subject z) e es in
    ⊎_elim (λ (at : entry ≡ e).
    let full = subst (λ (n : Key × ℕ). matching_weight subject z n ≡ n.1) at (matches_fully subject z entry w) in
    let same = ap (λ (n : Key × ℕ). n.1) at in
    omega (arith, split, full, same))
    (λ (j : In entry es). let rest = weighs_there subject z es entry j w in omega (arith, split, rest)) i
  where
    own : (name : List ℕ) → is_named name (Some name) ≡ true
    own name = (bytes_eq-Decides name name).1 refl

    matches_fully : (subject z : List ℕ) (n : Key × ℕ) → Wants subject z n → matching_weight subject z n ≡ n.1
    matches_fully subject z n w =
        ap (λ b. cond b n.1 0)
        (ap (λ b. b && subject_matches n.0.pattern subject) (ap (is_named z) w.queue ∙ own z) ∙ w.matches)

pub has_weight : (subject z : List ℕ) (counts : Counts)
    → IsInterest counts
    → SomeWants subject z counts
    → 1 ≤ weight_in subject z counts
has_weight subject z counts valid w =
    let there = weighs_there subject z counts w.0 w.1 w.2 in
    let some = some_at counts (are_some counts valid.counted) w.0 w.1 in
    omega (arith, there, some)

pub wants_named : NamesAreWanted
    → (subject z : List ℕ) (counts : Counts)
    → In z (names_in subject counts [])
    → SomeWants subject z counts
wants_named law subject z counts i = from_keys law subject z counts i
