-- Keys that tie are the same, and every key has its place among keys that rise.
use Rattle.std.proofs.Common.{◌≡◌, ℕ, suc, ◌⊎◌, inl, inr, ⊎_elim, cond, List, [], ◌∷◌, Option, Some, None, refl, ap, arith}
use Rattle.std.specs.Cmp.{IsTotalOrder}
use Rattle.std.specs.Cmp.Lexicographic.{slice_cmp}
use Rattle.std.specs.declared.cmp.Ordering.{Ordering}
use Rattle.std.specs.declared.cmp.Ordering.TheVariants.{Less, Equal, Greater}
use Rattle.std.specs.Option.{option_cmp}
use Rattle.std.specs.Ordering.{nat_cmp, ordering_then}
use Rattle.std.specs.List.Sorted.{IsStrictlySortedBy}
use Rattle.std.specs.Map.{keys_of, lookup}
use Rattle.std.specs.BTreeMap.{is_at}
use Rattle.std.proofs.lemmas.Map.{lookup-none}
use Rattle.std.proofs.lemmas.Map.Entries.{none_below_head}
use Rattle.std.proofs.lemmas.Map.Keys.{sorted_tail}
use Rattle.std.proofs.lemmas.Map.Lookups.{exact_bytes}
use Rattle.subj.specs.declared.keys.Key.{Key}
use Rattle.subj.specs.Keys.{key_cmp, cost_of}
use Rattle.interest.specs.Counts.{is_plain, told_weight}
use Rattle.interest.specs.Places.{IsPlaceOf, IsGapFor}
use Rattle.interest.proofs.Counting.Places.{found_here, found_behind, gap_here, gap_behind}

both_equal : (a b : Ordering) → ordering_then a b ≡ Equal → (a ≡ Equal) × (b ≡ Equal)
both_equal Less b is = cc
both_equal Equal b is = (refl, is)
both_equal Greater b is = cc

same_queues : (a b : Option (List ℕ)) → option_cmp (slice_cmp nat_cmp) a b ≡ Equal → a ≡ b
same_queues None None is = refl
same_queues None (Some y) is = cc
same_queues (Some x) None is = cc
same_queues (Some x) (Some y) is = ap Some (exact_bytes x y is)

pub same_key : (a b : Key) → key_cmp a b ≡ Equal → a ≡ b
same_key a b tied =
    let parts =
    both_equal (slice_cmp nat_cmp a.pattern b.pattern) (option_cmp (slice_cmp nat_cmp) a.queue b.queue) tied in
    λ i. record { pattern = exact_bytes a.pattern b.pattern parts.0 i; queue = same_queues a.queue b.queue parts.1 i }

pub tied_plain : (a b : Key) → key_cmp a b ≡ Equal → is_plain a ≡ is_plain b
tied_plain a b tied = ap is_plain (same_key a b tied)

pub tied_weight : (a b : Key) (n : ℕ) → key_cmp a b ≡ Equal → told_weight a n ≡ told_weight b n
tied_weight a b n tied = ap (λ plain. cond plain 1 n) (tied_plain a b tied)

module _ {K X : Type 0} {R : K → K → Ordering} (o : IsTotalOrder R) (k : K) where
  pub placed : (es : List (K × X))
      → IsStrictlySortedBy R (keys_of es)
      → ((i : ℕ) × IsPlaceOf R k es i) ⊎ ((i : ℕ) × IsGapFor R k es i)
  placed [] sorted = inr (0, record { within = omega arith; none = refl; inserts = λ w. refl })
  placed (e ∷ es) sorted =
      elim (R k e.0) as
      (λ r. R k e.0 ≡ r → ((i : ℕ) × IsPlaceOf R k (e ∷ es) i) ⊎ ((i : ℕ) × IsGapFor R k (e ∷ es) i)) [
        | Less ↦ λ is. inr (0, gap_here o k e es sorted is)
        | Equal ↦ λ is. inl (0, found_here o k e es is)
        | Greater ↦ λ is.
            ⊎_elim (λ (at : (i : ℕ) × IsPlaceOf R k es i). inl (suc at.0, found_behind o k e es at.0 is at.1))
            (λ (at : (i : ℕ) × IsGapFor R k es i). inr (suc at.0, gap_behind o k e es at.0 is at.1))
            (placed es (sorted_tail R e.0 (keys_of es) sorted))
      ] refl

  pub absent_below : (e : K × X) (es : List (K × X))
      → IsStrictlySortedBy R (keys_of (e ∷ es))
      → R k e.0 ≡ Less
      → lookup (is_at (R k)) (e ∷ es) ≡ None
  absent_below e es sorted is = lookup-none (is_at (R k)) (e ∷ es) (none_below_head o k e es sorted is)

pub tied_cost : (a b : Key) → key_cmp a b ≡ Equal → cost_of a ≡ cost_of b
tied_cost a b tied = ap cost_of (same_key a b tied)
