-- A delta that is not refused, counted in place.
use Rattle.std.proofs.Common.{◌≡◌, ℕ, zero, suc, ◌+◌, ◌<◌, ◌≤◌, Bool, true, false, true≢false, ◌&&◌, ◌||◌, cond, ◌-◌, length, List, [], ◌∷◌, ◌++◌, Option, Some, None, refl, sym, ap, ◌∙◌, arith, lit≤}
use Rattle.std.specs.Prelude.{nat_eq, nat_lt, nat_le, is_some, unwrap_or, option_to_list, slice_get, IsSome}
use Rattle.std.proofs.lemmas.Bool.Decides.{nat_tests}
use Rattle.std.proofs.lemmas.Option.{none-some}
use Rattle.subj.specs.declared.keys.Key.{Key}
use Rattle.subj.specs.declared.limits.TheConstants.{MAX_KEYS, MAX_WEIGHT, SUBSCRIPTION_BYTES}
use Rattle.subj.specs.Keys.{key_cmp, cost_of}
use Rattle.subj.specs.declared.keys.Delta.{Delta}
use Rattle.interest.specs.Counts.{Counts, count_of, count_after, counts_after, with_count, delta_fault, is_full, too_many_if, total_cost}
use Rattle.interest.specs.Places.{IsGapFor}
use Rattle.interest.specs.Tally.{is_refused_of, opens_key, key_if}
use Rattle.interest.proofs.Counting.Deltas.{closing_of_unknown, opening_of_unknown}
use Rattle.interest.proofs.Counting.Entries.{no_count}
use Rattle.interest.proofs.Counting.InOrder.{refused_is}

-- ---- the number after it is within the limit

pub not_refused : (counts : Counts) (delta : Delta) (n : ℕ)
    → count_of counts delta.key ≡ n
    → delta_fault counts delta ≡ None
    → is_refused_of (length counts) (total_cost counts) delta n ≡ false
not_refused counts delta n is taken =
    ap (is_refused_of (length counts) (total_cost counts) delta) (sym is)
    ∙ sym (refused_is counts delta)
    ∙ ap is_some taken

pub number_left : (delta : Delta) (keys bytes n : ℕ)
    → is_refused_of keys bytes delta n ≡ false
    → n ≤ MAX_WEIGHT
    → count_after delta.up n ≤ MAX_WEIGHT
number_left delta keys bytes n =
    go delta.up n (nat_le MAX_KEYS keys || nat_lt SUBSCRIPTION_BYTES (bytes + cost_of delta.key))
  where
    some : (n : ℕ) → nat_eq (suc n) 0 ≡ false
    some n = grind (arith, nat_tests)

    below : (m n : ℕ) → nat_le m n ≡ false → n + 1 ≤ m
    below m n is = grind (arith, nat_tests)

    go : (up : Bool) (n : ℕ) (full : Bool)
        → cond up (cond (nat_eq n 0) full (nat_le MAX_WEIGHT n)) (nat_eq n 0) ≡ false
        → n ≤ MAX_WEIGHT
        → cond up (n + 1) (n - 1) ≤ MAX_WEIGHT
    go true zero full is most = lit≤ tt
    go true (suc n) full is most =
        below MAX_WEIGHT (suc n) (sym (ap (λ b. cond b full (nat_le MAX_WEIGHT (suc n))) (some n)) ∙ is)
    go false n full is most = omega arith

-- ---- a key that is there

some_is_not : (n : ℕ) → 1 ≤ n → nat_eq n 0 ≡ false
some_is_not n some = grind (arith, nat_tests)

none_opened : (up : Bool) (n : ℕ) → 1 ≤ n → (up && nat_eq n 0) ≡ false
none_opened true n some = some_is_not n some
none_opened false n some = refl

pub opens_none : (counts : Counts) (delta : Delta) (n : ℕ)
    → count_of counts delta.key ≡ n
    → 1 ≤ n
    → opens_key counts delta ≡ false
opens_none counts delta n is some = ap (λ m. delta.up && nat_eq m 0) is ∙ none_opened delta.up n some

pub nothing_taken : (counts : Counts) (delta : Delta) (n : ℕ) (keys : List Key)
    → count_of counts delta.key ≡ n
    → 1 ≤ n
    → keys ≡ key_if (opens_key counts delta) delta.key ++ keys
nothing_taken counts delta n keys is some =
    ap (λ b. key_if b delta.key ++ keys) (sym (opens_none counts delta n is some))

-- ---- a key that is not there: the delta opens it, and it has room

module _ (counts : Counts) (delta : Delta) (i : ℕ) (at : IsGapFor key_cmp delta.key counts i)
    (taken : delta_fault counts delta ≡ None) where
  is_opening : delta.up ≡ true
  is_opening = go delta.up refl
    where
      go : (up : Bool) → delta.up ≡ up → delta.up ≡ true
      go true is = is
      go false is =
          absurd (none-some _ (sym taken ∙ closing_of_unknown counts delta is (no_count counts delta.key i at)))

  pub opens_one : opens_key counts delta ≡ true
  opens_one =
      ap (λ up. up && nat_eq (count_of counts delta.key) 0) is_opening
      ∙ ap (λ n. nat_eq n 0) (no_count counts delta.key i at)

  pub has_place : is_full counts delta.key ≡ false
  has_place =
      go (is_full counts delta.key)
      (sym (opening_of_unknown counts delta is_opening (no_count counts delta.key i at)) ∙ taken)
    where
      go : (b : Bool) → too_many_if b ≡ None → b ≡ false
      go true is = absurd (none-some _ (sym is))
      go false is = refl

  pub is_counted : with_count counts delta.key 1 ≡ counts_after counts delta
  unfolding counts_after
  is_counted =
      ap (λ n. with_count counts delta.key n)
      (sym (ap (λ up. count_after up (count_of counts delta.key)) is_opening
      ∙ ap (λ n. n + 1) (no_count counts delta.key i at)))

-- ---- the first of the keys is the next

pub is_first : (key first : Key) (keys rest : List Key)
    → slice_get keys 0 ≡ Some key
    → keys ≡ option_to_list (Some first) ++ rest
    → key ≡ first
is_first key first keys rest at is = some_same (sym at ∙ ap (λ (keys : List Key). slice_get keys 0) is)
  where
    some_same : Some key ≡ Some first → key ≡ first
    some_same same = ap (λ o. unwrap_or o key) same

pub one_more : (counts : Counts) (delta : Delta) (first : Key) (keys rest : List Key)
    → opens_key counts delta ≡ true
    → delta.key ≡ first
    → keys ≡ option_to_list (Some first) ++ rest
    → keys ≡ key_if (opens_key counts delta) delta.key ++ rest
one_more counts delta first keys rest opens same is =
    is ∙ ap (λ (key : Key). key ∷ rest) (sym same) ∙ ap (λ b. key_if b delta.key ++ rest) (sym opens)

pub not_none : (found : Option Key) (key : Key) (keys : List Key) (n : ℕ)
    → n ≡ length keys
    → slice_get keys 0 ≡ Some key
    → (0 < n → IsSome found)
    → found ≡ None
    → ⊥
not_none found key [] n is at some none = none-some key at
not_none found key (k ∷ ks) n is at some none = true≢false (sym (some (omega arith)) ∙ ap is_some none)
