-- What news leave of the keys that were heard.
use Rattle.std.proofs.Common.{◌≡◌, ℕ, ◌+◌, ◌≤◌, Bool, true, false, ◌&&◌, cond, List, [], ◌∷◌, length, Option, Some, None, Result, Ok, Err, refl, ap, sym, ◌∙◌, subst, arith, ⊎_elim, length-set}
use Rattle.std.specs.Prelude.{nat_le, nat_lt, not, is_some, OnOk, OnErr, slice_index_or, slice_set, if◌then◌else◌}
use Rattle.std.specs.declared.cmp.Ordering.{Ordering}
use Rattle.std.specs.declared.cmp.Ordering.TheVariants.{Less, Equal, Greater}
use Rattle.std.specs.Ordering.{is_lt}
use Rattle.std.specs.List.{AllByRecursion}
use Rattle.std.specs.List.Sorted.{IsStrictlySortedBy}
use Rattle.std.specs.Map.{keys_of, lookup, remove_entry}
use Rattle.std.specs.BTreeMap.{is_at, insert_entry}
use Rattle.std.proofs.lemmas.Bool.Decides.{nat_tests}
use Rattle.std.proofs.lemmas.List.Edits.{length-insert}
use Rattle.subj.specs.declared.keys.Key.{Key}
use Rattle.subj.specs.declared.limits.TheConstants.{MAX_KEYS}
use Rattle.subj.specs.Keys.{key_cmp}
use Rattle.route_values.specs.Snapshots.{Weighted, is_before_first, are_rising}
use Rattle.interest.specs.declared.faults.InterestFault.TheVariants.{Late, TooManyKeys, UnknownKey}
use Rattle.interest.specs.Places.{IsPlaceOf, IsGapFor}
use Rattle.interest.specs.Views.{View, has_key, follow_fault}
use Rattle.interest.specs.declared.changes.Change.TheVariants.{Up, Gone}
use Rattle.interest.specs.Heard.{IsHeard}
use Rattle.interest.specs.KeyOrder.{key_order_total}
use Rattle.interest.proofs.Counting.Places.{sorted_inserted, sorted_removed}
use Rattle.interest.proofs.Counting.Ties.{same_key, placed}

pub no_keys : IsHeard []
unfolding IsStrictlySortedBy
no_keys = record { rising = tt; few = omega arith }

-- ---- one key

-- the entry that stands at the place of its key is written
pub written : (keys : View) (place : ℕ) (weighted : Weighted)
    → IsPlaceOf key_cmp weighted.0 keys place
    → slice_set keys place weighted ≡ insert_entry key_cmp keys weighted.0 weighted.1
written keys place weighted at =
    let same = same_key weighted.0 (slice_index_or keys place weighted).0 (at.ties weighted) in
    ap (λ (key : Key). slice_set keys place (key, weighted.1)) same ∙ at.writes weighted weighted.1

-- what is not there can't be taken away
not_there : (o : Option ℕ) → o ≡ None → is_some o ≡ false
not_there None is = refl
not_there (Some n) is = cc

pub nothing_less : (keys : View) (key : Key)
    → lookup (is_at (key_cmp key)) keys ≡ None
    → keys ≡ remove_entry (is_at (key_cmp key)) keys
nothing_less [] key none = refl
nothing_less (e ∷ es) key none = go (is_at (key_cmp key) e.0) none (nothing_less es key)
  where
    go : (b : Bool)
        → cond b (Some e.1) (lookup (is_at (key_cmp key)) es) ≡ None
        → (lookup (is_at (key_cmp key)) es ≡ None → es ≡ remove_entry (is_at (key_cmp key)) es)
        → e ∷ es ≡ cond b es (e ∷ remove_entry (is_at (key_cmp key)) es)
    go true h rest = cc
    go false h rest = ap (λ l. e ∷ l) (rest h)

-- ---- how many there are

pub key_at : (keys : View) (key : Key) (place : ℕ) → IsPlaceOf key_cmp key keys place → has_key keys key ≡ true
key_at keys key place at = ap is_some (at.value (key, 0))

pub no_key_at : (keys : View) (key : Key) (place : ℕ) → IsGapFor key_cmp key keys place → has_key keys key ≡ false
no_key_at keys key place at = not_there (lookup (is_at (key_cmp key)) keys) at.none

room : (n m : ℕ) → (if true && nat_le m n then Some TooManyKeys else None) ≡ None → n + 1 ≤ m
room n m taken = go (nat_le m n) refl taken
  where
    go : (b : Bool) → nat_le m n ≡ b → cond b (Some TooManyKeys) None ≡ None → n + 1 ≤ m
    go true is h = cc
    go false is h = grind (arith, nat_tests, is)

few_after : (keys : View) (weighted : Weighted)
    → IsHeard keys
    → (if not (has_key keys weighted.0) && nat_le MAX_KEYS (length keys) then Some TooManyKeys else None) ≡ None
    → length (insert_entry key_cmp keys weighted.0 weighted.1) ≤ MAX_KEYS
few_after keys weighted is taken =
    ⊎_elim (λ (at : (i : ℕ) × IsPlaceOf key_cmp weighted.0 keys i).
    let few = is.few in
    let same = length-set keys at.0 ((slice_index_or keys at.0 weighted).0, weighted.1) in
    subst (λ l. length l ≤ MAX_KEYS) (at.1.writes weighted weighted.1) (omega arith))
    (λ (at : (i : ℕ) × IsGapFor key_cmp weighted.0 keys i).
    let fits = room (length keys) MAX_KEYS
    (subst (λ b. (if not b && nat_le MAX_KEYS (length keys) then Some TooManyKeys else None) ≡ None)
    (no_key_at keys weighted.0 at.0 at.1) taken) in
    let more = length-insert keys at.0 (weighted.0, weighted.1) at.1.within in
    subst (λ l. length l ≤ MAX_KEYS) (at.1.inserts weighted.1) (omega arith))
    (placed key_order_total weighted.0 keys is.rising)

few_left : (keys : View) (test : Key → Bool) → length (remove_entry test keys) ≤ length keys
few_left [] test = omega arith
few_left (e ∷ es) test = elim (test e.0) as (λ b. length (cond b es (e ∷ remove_entry test es)) ≤ length (e ∷ es)) [
  | true ↦ omega arith
  | false ↦ let less = few_left es test in omega arith
]

-- ---- the keys after news are such that can be heard

pub put_is_heard : (keys : View) (weighted : Weighted)
    → IsHeard keys
    → (if not (has_key keys weighted.0) && nat_le MAX_KEYS (length keys) then Some TooManyKeys else None) ≡ None
    → IsHeard (insert_entry key_cmp keys weighted.0 weighted.1)
put_is_heard keys weighted is taken = record {
  rising = sorted_inserted key_order_total weighted.0 keys weighted.1 is.rising;
  few = few_after keys weighted is taken;
}

pub less_is_heard : (keys : View) (key : Key) → IsHeard keys → IsHeard (remove_entry (is_at (key_cmp key)) keys)
less_is_heard keys key is = record {
  rising = sorted_removed key_order_total key keys is.rising;
  few = let few = is.few in let less = few_left keys (is_at (key_cmp key)) in omega arith;
}

pub either_heard : {T E : Type 0} (r : Result T E) (done left new : View) → OnOk r (new ≡ done) → OnErr r (new ≡ left)
    → IsHeard done → IsHeard left → IsHeard new
either_heard (Ok x) done left new ok err is was = subst IsHeard (sym ok) is
either_heard (Err e) done left new ok err is was = subst IsHeard (sym err) was

-- ---- why a change can't act on the keys

pub can_go : (keys : View) (key : Key) → has_key keys key ≡ true → None ≡ follow_fault keys (Gone key)
can_go keys key there = ap (λ b. if b then None else Some UnknownKey) (sym there)

pub can_weigh : (keys : View) (weighted : Weighted)
    → has_key keys weighted.0 ≡ true
    → None ≡ follow_fault keys (Up weighted)
can_weigh keys weighted there =
    ap (λ b. if not b && nat_le MAX_KEYS (length keys) then Some TooManyKeys else None) (sym there)

pub can_come : (keys : View) (weighted : Weighted)
    → has_key keys weighted.0 ≡ false
    → (if nat_le MAX_KEYS (length keys) then Some TooManyKeys else None) ≡ follow_fault keys (Up weighted)
can_come keys weighted new =
    ap (λ b. if not b && nat_le MAX_KEYS (length keys) then Some TooManyKeys else None) (sym new)

-- ---- the keys of a snapshot

both : (a b : Bool) → (a && b) ≡ true → (a ≡ true) × (b ≡ true)
both true b is = (refl, is)
both false b is = cc

less_is : (r : Ordering) → is_lt r ≡ true → r ≡ Less
less_is Less is = refl
less_is Equal is = cc
less_is Greater is = cc

below_all : (key other : Key) (keys : List Key)
    → key_cmp key other ≡ Less
    → AllByRecursion (λ y. key_cmp other y ≡ Less) keys
    → AllByRecursion (λ y. key_cmp key y ≡ Less) keys
below_all key other [] below all = tt
below_all key other (y ∷ ys) below all = (
  key_order_total.trans key other y below all.0,
  below_all key other ys below all.1,
)

pub rising_is_sorted : (keys : View) → are_rising keys ≡ true → IsStrictlySortedBy key_cmp (keys_of keys)
unfolding IsStrictlySortedBy
rising_is_sorted [] rising = tt
rising_is_sorted (e ∷ es) rising = let parts = both (is_before_first e es) (are_rising es) rising in
    let rest = rising_is_sorted es parts.1 in (first es parts.0 rest, rest)
  where
    first : (fs : View)
        → is_before_first e fs ≡ true
        → IsStrictlySortedBy key_cmp (keys_of fs)
        → AllByRecursion (λ y. key_cmp e.0 y ≡ Less) (keys_of fs)
    first [] before sorted = tt
    first (f ∷ fs) before sorted =
        let below = less_is (key_cmp e.0 f.0) before in (below, below_all e.0 f.0 (keys_of fs) below sorted.0)

not_too_many : (n : ℕ) (late : Bool)
    → (if late then Some Late else (if nat_lt MAX_KEYS n then Some TooManyKeys else None)) ≡ None
    → n ≤ MAX_KEYS
not_too_many n true taken = cc
not_too_many n false taken = go MAX_KEYS (nat_lt MAX_KEYS n) refl taken
  where
    go : (m : ℕ) (b : Bool) → nat_lt m n ≡ b → cond b (Some TooManyKeys) None ≡ None → n ≤ m
    go m true is h = cc
    go m false is h = grind (arith, nat_tests, is)

pub snapshot_is_heard : (short : Bool) (keys : View) (late : Bool)
    → (short && are_rising keys) ≡ true
    → (if late then Some Late else (if nat_lt MAX_KEYS (length keys) then Some TooManyKeys else None)) ≡ None
    → IsHeard keys
snapshot_is_heard short keys late valid taken = record {
  rising = rising_is_sorted keys (both short (are_rising keys) valid).1;
  few = not_too_many (length keys) late taken;
}
