-- Keys that are counted are those of open subscriptions.
use Rattle.std.proofs.Common.{◌≡◌, ℕ, zero, suc, ◌+◌, ◌<◌, ◌≤◌, Bool, true, false, true≢false, cond, List, [], ◌∷◌, ◌++◌, Some, refl, sym, ap, ◌∙◌, subst, inl, inr, ⊎_elim, arith}
use Rattle.std.specs.Prelude.{slice_get, All, count_by, unwrap_or}
use Rattle.std.specs.BTreeMap.{is_at}
use Rattle.std.specs.Map.{values_of, lookup}
use Rattle.std.specs.Ordering.{is_eq, ordering_reverse}
use Rattle.std.specs.declared.cmp.Ordering.{Ordering}
use Rattle.std.specs.declared.cmp.Ordering.TheVariants.{Less, Equal, Greater}
use Rattle.std.proofs.lemmas.List.Elements.{All-head, All-tail}
use Rattle.std.proofs.lemmas.List.Sums.{sum_by-cons}
use Rattle.std.proofs.lemmas.Option.{none-some, same_Some}
use Rattle.list_laws.specs.Lists.{In, Each}
use Rattle.list_laws.proofs.Lists.{in_append, in_left, in_right, in_map}
use Rattle.list_laws.proofs.Changes.{in_mapped}
use Rattle.sub_table.specs.declared.Subscription.{Subscription}
use Rattle.subj.specs.declared.keys.Key.{Key}
use Rattle.subj.specs.Keys.{key_cmp}
use Rattle.interest.specs.Counts.{Counts, count_of}
use Rattle.interest.specs.KeyOrder.{key_order_total}
use Rattle.interest.specs.Laws.{times, one_if_same}
use Rattle.interest.specs.Told.{is_opening, is_closing}
use Rattle.subj.specs.declared.keys.Delta.{Delta}
use Rattle.interest.proofs.Counting.Ties.{same_key}
use Rattle.node_law.specs.CountsOpen.{keys_of, open_keys, pending}
use Rattle.node_law.specs.State.{ShardWithJobs}

-- ---- keys

pub self_equal : (key : Key) → key_cmp key key ≡ Equal
self_equal key = by (key_cmp key key) (key_order_total.antisymm key key)
  where
    by : (r : Ordering) → r ≡ ordering_reverse r → r ≡ Equal
    by Less e = cc
    by Equal e = refl
    by Greater e = cc

pub is_self : (key : Key) → is_eq (key_cmp key key) ≡ true
is_self key = ap is_eq (self_equal key)

pub same_if : (a b : Key) → is_eq (key_cmp a b) ≡ true → a ≡ b
same_if a b e = same_key a b (by (key_cmp a b) e)
  where
    by : (r : Ordering) → is_eq r ≡ true → r ≡ Equal
    by Less e = cc
    by Equal e = refl
    by Greater e = cc

-- ---- how often a key stands there

pub times_in : (key : Key) (keys : List Key) → 0 < times key keys → In key keys
times_in key [] lt = absurd (omega arith)
times_in key (k ∷ keys) lt = go (is_eq (key_cmp key k)) refl (times_in key keys)
  where
    go : (b : Bool) → is_eq (key_cmp key k) ≡ b → (0 < times key keys → In key keys) → In key (k ∷ keys)
    go true e later = inl (same_if key k e)
    go false e later =
        let s = sum_by-cons (one_if_same key) k keys in
        let z : ◌≡◌ {A = ℕ} (cond (is_eq (key_cmp key k)) 1 0) 0 = ap (λ b. cond b 1 0) e in
        inr (later (omega (arith, lt, s, z)))

pub in_times : (key : Key) (keys : List Key) → In key keys → 0 < times key keys
in_times key [] i = absurd i
in_times key (k ∷ keys) i =
    let s = sum_by-cons (one_if_same key) k keys in
    ⊎_elim (λ (e : key ≡ k).
    let one : ◌≡◌ {A = ℕ} (cond (is_eq (key_cmp key k)) 1 0) 1 =
    ap (λ b. cond b 1 0) (subst (λ x. is_eq (key_cmp key x) ≡ true) e (is_self key)) in
    omega (arith, s, one))
    (λ (j : In key keys). let h = in_times key keys j in omega (arith, s, h)) i

-- ---- open subscriptions

pub record OpenSub (lines : List ShardWithJobs) (key : Key) : Type 0 where
  pub place : ℕ
  pub line : ShardWithJobs
  pub at : slice_get lines place ≡ Some line
  pub sub : Subscription
  pub there : In sub line.shard.subs
  pub is : sub.key ≡ key

pub open_in : (lines : List ShardWithJobs) (key : Key) → In key (open_keys lines) → OpenSub lines key
open_in [] key i = absurd i
open_in (line ∷ lines) key i =
    ⊎_elim (λ (j : In key (keys_of line.shard.subs)).
    let h = in_map (λ (sub : Subscription). sub.key) line.shard.subs key j in
    record { place = 0; line = line; at = refl; sub = h.0; there = h.1; is = sym h.2 })
    (λ (j : In key (open_keys lines)).
    let h = open_in lines key j in
    record { place = suc h.place; line = h.line; at = h.at; sub = h.sub; there = h.there; is = h.is })
    (in_append key (keys_of line.shard.subs) (open_keys lines) i)

pub in_open : (lines : List ShardWithJobs) (place : ℕ) (line : ShardWithJobs) (sub : Subscription)
    → slice_get lines place ≡ Some line
    → In sub line.shard.subs
    → In sub.key (open_keys lines)
in_open [] place line sub at i = absurd (none-some line at)
in_open (x ∷ lines) zero line sub at i =
    in_left sub.key (keys_of x.shard.subs) (open_keys lines)
    (in_mapped (λ (u : Subscription). u.key) x.shard.subs sub
    (subst (λ (l : ShardWithJobs). In sub l.shard.subs) (sym (same_Some x line at)) i))
in_open (x ∷ lines) (suc place) line sub at i =
    in_right sub.key (keys_of x.shard.subs) (open_keys lines) (in_open lines place line sub at i)

-- ---- counts

pub counted_in : (counts : Counts) (key : Key) → 0 < count_of counts key → (n : ℕ) × In (key, n) counts
counted_in [] key lt = absurd (omega arith)
counted_in (e ∷ counts) key lt = go (is_eq (key_cmp key e.0)) refl lt (counted_in counts key)
  where
    go : (b : Bool)
        → is_eq (key_cmp key e.0) ≡ b
        → 0 < count_of (e ∷ counts) key
        → (0 < count_of counts key → (n : ℕ) × In (key, n) counts)
        → (n : ℕ) × In (key, n) (e ∷ counts)
    go true f lt later = let same = same_if key e.0 f in (e.1, inl (λ i. (same i, e.1)))
    go false f lt later =
        let g : count_of (e ∷ counts) key ≡ count_of counts key =
        ap (λ b. unwrap_or (cond b (Some e.1) (lookup (is_at (key_cmp key)) counts)) 0) f in
        let h = later (omega (arith, lt, g)) in
        (h.0, inr h.1)

pub in_counted : (counts : Counts) (key : Key) (n : ℕ)
    → All (λ count. 1 ≤ count) (values_of counts)
    → In (key, n) counts
    → 0 < count_of counts key
in_counted [] key n all i = absurd i
in_counted (e ∷ counts) key n all i =
    go (is_eq (key_cmp key e.0)) refl
    (in_counted counts key n (All-tail (λ (count : ℕ). 1 ≤ count) e.1 (values_of counts) all))
  where
    go : (b : Bool)
        → is_eq (key_cmp key e.0) ≡ b
        → (In (key, n) counts → 0 < count_of counts key)
        → 0 < count_of (e ∷ counts) key
    go true f later =
        let g : count_of (e ∷ counts) key ≡ e.1 =
        ap (λ b. unwrap_or (cond b (Some e.1) (lookup (is_at (key_cmp key)) counts)) 0) f in
        let one : 1 ≤ e.1 = All-head (λ (count : ℕ). 1 ≤ count) e.1 (values_of counts) all in
        omega (arith, g, one)
    go false f later =
        let g : count_of (e ∷ counts) key ≡ count_of counts key =
        ap (λ b. unwrap_or (cond b (Some e.1) (lookup (is_at (key_cmp key)) counts)) 0) f in
        ⊎_elim (λ (s : ◌≡◌ {A = Key × ℕ} (key, n) e).
        absurd
        (true≢false (sym (subst (λ x. is_eq (key_cmp key x) ≡ true) (ap (λ (p : Key × ℕ). p.0) s) (is_self key)) ∙ f)))
        (λ (j : In (key, n) counts). let h = later j in omega (arith, g, h)) i

-- where all was told, the counts are those of the open
none_pending : (test : Delta → Bool) (lines : List ShardWithJobs)
    → Each (λ (line : ShardWithJobs). line.shard.deltas ≡ []) lines
    → count_by test (pending lines) ≡ 0
none_pending test lines none = ap (count_by test) (empty lines none)
  where
    empty : (lines : List ShardWithJobs)
        → Each (λ (line : ShardWithJobs). line.shard.deltas ≡ []) lines
        → pending lines ≡ []
    empty [] none = refl
    empty (line ∷ lines) none = λ i. none line (inl refl) i ++ empty lines (λ l j. none l (inr j)) i

pub counts_of_open : (counts : Counts) (lines : List ShardWithJobs) (key : Key)
    → Each (λ (line : ShardWithJobs). line.shard.deltas ≡ []) lines
    → count_of counts key + count_by (is_opening key) (pending lines)
    ≡ times key (open_keys lines) + count_by (is_closing key) (pending lines)
    → count_of counts key ≡ times key (open_keys lines)
counts_of_open counts lines key none e =
    let a = none_pending (is_opening key) lines none in
    let b = none_pending (is_closing key) lines none in
    omega (arith, e, a, b)
