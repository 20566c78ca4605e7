-- What deltas change never clears the interest.
use Rattle.std.proofs.Common.{◌≡◌, ◌∙◌, ℕ, zero, suc, Bool, true, false, cond, ◌&&◌, nat_eq, nat_lt, List, [], ◌∷◌, ◌++◌, Option, Some, None, refl}
use Rattle.std.specs.Prelude.{slice_get, option_to_list}
use Rattle.std.proofs.lemmas.Option.{none-some}
use Rattle.subj.specs.declared.keys.Delta.{Delta}
use Rattle.subj.specs.declared.keys.Key.{Key}
use Rattle.interest.specs.declared.changes.Change.{Change}
use Rattle.interest.specs.declared.changes.Change.TheVariants.{Up, Gone, Clear}
use Rattle.interest.specs.Counts.{Counts, is_plain, count_of, count_after, counts_after, change_of, told_weight}
use Rattle.interest.specs.Told.{changes_told}
use Rattle.route_values.specs.Snapshots.{Weighted}

of_one_key : (gone known : Bool) (key : Key) (weighted : Weighted)
    → cond gone (Some (Gone key)) (cond known None (Some (Up weighted))) ≡ Some Clear
    → ⊥
of_one_key true known key weighted e = cc
of_one_key false true key weighted e = cc
of_one_key false false key weighted e = cc

delta_never_clears : (counts : Counts) (delta : Delta) → change_of counts delta ≡ Some Clear → ⊥
unfolding change_of
delta_never_clears counts delta e =
    let before = count_of counts delta.key in
    let after = count_after delta.up before in
    of_one_key (nat_eq after 0) (is_plain delta.key && nat_lt 0 before) delta.key
    (delta.key, told_weight delta.key after) e

pub never_clear : (deltas : List Delta) (counts : Counts) (k : ℕ)
    → slice_get (changes_told counts deltas) k ≡ Some Clear
    → ⊥
never_clear [] counts k at = none-some Clear at
never_clear (delta ∷ deltas) counts k at =
    go (change_of counts delta) refl k at (never_clear deltas (counts_after counts delta))
  where
    go : (o : Option Change)
        → change_of counts delta ≡ o
        → (k : ℕ)
        → slice_get (option_to_list o ++ changes_told (counts_after counts delta) deltas) k ≡ Some Clear
        → ((j : ℕ) → slice_get (changes_told (counts_after counts delta) deltas) j ≡ Some Clear → ⊥)
        → ⊥
    go None is k at later = later k at
    go (Some change) is zero at later = delta_never_clears counts delta (is ∙ at)
    go (Some change) is (suc k) at later = later k at
