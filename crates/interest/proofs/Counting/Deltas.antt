-- What a delta does, by whether it is an opening and whether its key is there.
use Rattle.std.proofs.Common.{◌≡◌, ℕ, ◌+◌, ◌<◌, ◌≤◌, Bool, true, false, ◌||◌, cond, ◌⊎◌, inl, inr, length, Option, Some, None, Result, Ok, Err, ap, sym, ◌∙◌, arith}
use Rattle.std.specs.Prelude.{nat_eq, nat_lt, nat_le}
use Rattle.std.proofs.lemmas.Bool.Decides.{nat_tests}
use Rattle.subj.specs.declared.limits.TheConstants.{MAX_KEYS, MAX_WEIGHT, SUBSCRIPTION_BYTES}
use Rattle.subj.specs.declared.keys.Key.{Key}
use Rattle.subj.specs.declared.failures.Failure.{Failure}
use Rattle.subj.specs.declared.failures.Failure.TheVariants.{Refused, OutOfMemory}
use Rattle.subj.specs.Answers.{IsAnswered}
use Rattle.subj.specs.Keys.{cost_of}
use Rattle.interest.specs.declared.faults.InterestFault.TheVariants.{UnknownKey}
use Rattle.subj.specs.declared.keys.Delta.{Delta}
use Rattle.interest.specs.Counts.{Counts, count_of, total_cost, is_full, is_too_much, too_many_if, count_after, with_count, counts_after, change_between, change_of, delta_fault}

-- the same answer, told of another way
pub answered : {R T : Type 0} {a b : Option R} {P Q : T → Type 0} (S : Type 0)
    → a ≡ b
    → ((x : T) → P x → Q x)
    → (r : Result T (Failure R))
    → IsAnswered a P S r
    → IsAnswered b Q S r
answered S same f (Ok x) h = (sym same ∙ h.0, f x h.1)
answered S same f (Err (Refused why)) h = (sym same ∙ h.0, h.1)
answered S same f (Err OutOfMemory) h = (sym same ∙ h.0, h.1)

not_zero : (n : ℕ) → 1 ≤ n → nat_eq n 0 ≡ false
not_zero n some = grind (arith, nat_tests)

below_most : (n m : ℕ) → n < m → nat_le m n ≡ false
below_most n m below = grind (arith, nat_tests)

at_most : (n m : ℕ) → m ≤ n → nat_le m n ≡ true
at_most n m above = grind (arith, nat_tests)

not_above : (n m : ℕ) → n ≤ m → nat_lt m n ≡ false
not_above n m within = grind (arith, nat_tests)

above : (n m : ℕ) → m < n → nat_lt m n ≡ true
above n m over = grind (arith, nat_tests)

-- ---- whether there is room for a key

pub has_room : (counts : Counts) (key : Key)
    → length counts < MAX_KEYS
    → total_cost counts + cost_of key ≤ SUBSCRIPTION_BYTES
    → is_full counts key ≡ false
has_room counts key few small =
    ap (λ b. b || nat_lt SUBSCRIPTION_BYTES (total_cost counts + cost_of key)) (below_most (length counts) MAX_KEYS few)
    ∙ not_above (total_cost counts + cost_of key) SUBSCRIPTION_BYTES small

-- ---- the cause of a refusal

pub opening_of_known : (counts : Counts) (delta : Delta) (n : ℕ)
    → delta.up ≡ true
    → count_of counts delta.key ≡ n
    → 1 ≤ n
    → delta_fault counts delta ≡ too_many_if (nat_le MAX_WEIGHT n)
unfolding delta_fault
opening_of_known counts delta n up is some =
    ap (λ b.
    cond b (too_many_if (is_too_much counts delta.key))
    (cond (nat_eq (count_of counts delta.key) 0) (Some UnknownKey) None))
    up
    ∙ ap (λ m. too_many_if (cond (nat_eq m 0) (is_full counts delta.key) (nat_le MAX_WEIGHT m))) is
    ∙ ap (λ b. too_many_if (cond b (is_full counts delta.key) (nat_le MAX_WEIGHT n))) (not_zero n some)

pub opening_of_unknown : (counts : Counts) (delta : Delta)
    → delta.up ≡ true
    → count_of counts delta.key ≡ 0
    → delta_fault counts delta ≡ too_many_if (is_full counts delta.key)
unfolding delta_fault
opening_of_unknown counts delta up is =
    ap (λ b.
    cond b (too_many_if (is_too_much counts delta.key))
    (cond (nat_eq (count_of counts delta.key) 0) (Some UnknownKey) None))
    up
    ∙ ap (λ m. too_many_if (cond (nat_eq m 0) (is_full counts delta.key) (nat_le MAX_WEIGHT m))) is

pub closing_of_known : (counts : Counts) (delta : Delta) (n : ℕ)
    → delta.up ≡ false
    → count_of counts delta.key ≡ n
    → 1 ≤ n
    → delta_fault counts delta ≡ None
unfolding delta_fault
closing_of_known counts delta n up is some =
    ap (λ b.
    cond b (too_many_if (is_too_much counts delta.key))
    (cond (nat_eq (count_of counts delta.key) 0) (Some UnknownKey) None))
    up
    ∙ ap (λ m. cond (nat_eq m 0) (Some UnknownKey) None) is
    ∙ ap (λ b. cond b (Some UnknownKey) None) (not_zero n some)

pub closing_of_unknown : (counts : Counts) (delta : Delta)
    → delta.up ≡ false
    → count_of counts delta.key ≡ 0
    → delta_fault counts delta ≡ Some UnknownKey
unfolding delta_fault
closing_of_unknown counts delta up is =
    ap (λ b.
    cond b (too_many_if (is_too_much counts delta.key))
    (cond (nat_eq (count_of counts delta.key) 0) (Some UnknownKey) None))
    up
    ∙ ap (λ m. cond (nat_eq m 0) (Some UnknownKey) None) is

pub no_fault : (counts : Counts) (delta : Delta) (n : ℕ)
    → count_of counts delta.key ≡ n
    → 1 ≤ n
    → ((delta.up ≡ true) × (n < MAX_WEIGHT)) ⊎ (delta.up ≡ false)
    → delta_fault counts delta ≡ None
no_fault counts delta n is some (inl opened) =
    opening_of_known counts delta n opened.0 is some ∙ ap too_many_if (below_most n MAX_WEIGHT opened.1)
no_fault counts delta n is some (inr closed) = closing_of_known counts delta n closed is some

pub too_many : (counts : Counts) (delta : Delta) (n : ℕ)
    → delta.up ≡ true
    → count_of counts delta.key ≡ n
    → 1 ≤ n
    → MAX_WEIGHT ≤ n
    → delta_fault counts delta ≡ too_many_if true
too_many counts delta n up is some most =
    opening_of_known counts delta n up is some ∙ ap too_many_if (at_most n MAX_WEIGHT most)

pub number_most : (up : Bool) (n : ℕ)
    → ((up ≡ true) × (n < MAX_WEIGHT)) ⊎ (up ≡ false)
    → n ≤ MAX_WEIGHT
    → count_after up n ≤ MAX_WEIGHT
number_most true n (inl opened) most = let low = opened.1 in omega arith
number_most true n (inr closed) most = cc
number_most false n either most = omega arith

-- ---- what it leaves and what is told

pub counts_are : (counts : Counts) (delta : Delta) (n m : ℕ)
    → count_of counts delta.key ≡ n
    → m ≡ count_after delta.up n
    → with_count counts delta.key m ≡ counts_after counts delta
unfolding counts_after
counts_are counts delta n m is after = ap (with_count counts delta.key) (after ∙ ap (count_after delta.up) (sym is))

pub change_is : (counts : Counts) (delta : Delta) (n m : ℕ)
    → count_of counts delta.key ≡ n
    → m ≡ count_after delta.up n
    → change_between delta.key n m ≡ change_of counts delta
unfolding change_of
change_is counts delta n m is after =
    ap (change_between delta.key n) (after ∙ ap (count_after delta.up) (sym is))
    ∙ ap (λ k. change_between delta.key k (count_after delta.up (count_of counts delta.key))) (sym is)
