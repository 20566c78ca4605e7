-- What a peer was told, compared with what is counted, key by key.
use Rattle.std.proofs.Common.{◌≡◌, ◌≢◌, ℕ, zero, suc, ◌+◌, ◌<◌, ◌≤◌, Bool, true, false, ◌&&◌, nat_eq, [], ◌∷◌, length, drop, get_or, refl, sym, ap, ◌∙◌, arith, add-one}
use Rattle.std.specs.Ordering.{is_eq}
use Rattle.subj.specs.declared.keys.Key.{Key}
use Rattle.subj.specs.Keys.{key_cmp}
use Rattle.route_values.specs.Snapshots.{Weighted}
use Rattle.interest.specs.Counts.{Counts, told_weight}
use Rattle.interest.specs.Views.{View, same_views, told_view}

abbrev pub is_as_counted : Weighted → Key × ℕ → Bool
is_as_counted weighted entry = is_eq (key_cmp weighted.0 entry.0) && nat_eq weighted.1 (told_weight entry.0 entry.1)

-- as many keys as are counted, or the two differ
pub other_lengths : (keys : View) (counts : Counts)
    → length keys ≢ length counts
    → same_views keys (told_view counts) ≡ false
other_lengths [] [] other = absurd (other refl)
other_lengths [] (e ∷ counts) other = refl
other_lengths (w ∷ keys) [] other = refl
other_lengths (w ∷ keys) (e ∷ counts) other =
    by (is_as_counted w e) (other_lengths keys counts (λ same. other (ap suc same)))
  where
    by : (b : Bool) → same_views keys (told_view counts) ≡ false → (b && same_views keys (told_view counts)) ≡ false
    by true is = is
    by false is = refl

-- one place, and those behind it
told_step : (keys : View) (counts : Counts) (i : ℕ) (w : Weighted) (e : Key × ℕ)
    → i < length keys
    → i < length counts
    → w ≡ get_or keys i w
    → e ≡ get_or counts i e
    → same_views (drop i keys) (drop i (told_view counts))
    ≡ (is_as_counted w e && same_views (drop (suc i) keys) (drop (suc i) (told_view counts)))
told_step [] counts i w e lt lt2 is at = absurd (omega (arith, lt))
told_step (x ∷ keys) [] i w e lt lt2 is at = absurd (omega (arith, lt2))
told_step (x ∷ keys) (y ∷ counts) zero w e lt lt2 is at =
    λ j. is_as_counted (sym is j) (sym at j) && same_views keys (told_view counts)
told_step (x ∷ keys) (y ∷ counts) (suc i) w e lt lt2 is at =
    told_step keys counts i w e (omega (arith, lt)) (omega (arith, lt2)) is at

pub told_next : (keys : View) (counts : Counts) (i : ℕ) (w : Weighted) (e : Key × ℕ)
    → i < length keys
    → i < length counts
    → w ≡ get_or keys i w
    → e ≡ get_or counts i e
    → same_views (drop i keys) (drop i (told_view counts))
    ≡ (is_as_counted w e && same_views (drop (i + 1) keys) (drop (i + 1) (told_view counts)))
told_next keys counts i w e lt lt2 is at =
    told_step keys counts i w e lt lt2 is at
    ∙ (λ j.
    is_as_counted w e && same_views (drop (sym (add-one i) j) keys) (drop (sym (add-one i) j) (told_view counts)))

-- nothing is left
pub told_end : (keys : View) (counts : Counts) (i : ℕ)
    → length keys ≡ length counts
    → length keys ≤ i
    → same_views (drop i keys) (drop i (told_view counts)) ≡ true
told_end [] [] zero same all = refl
told_end [] [] (suc i) same all = refl
told_end [] (e ∷ counts) i same all = absurd (omega (arith, same))
told_end (w ∷ keys) [] i same all = absurd (omega (arith, same))
told_end (w ∷ keys) (e ∷ counts) zero same all = absurd (omega (arith, all))
told_end (w ∷ keys) (e ∷ counts) (suc i) same all = told_end keys counts i (omega (arith, same)) (omega (arith, all))
