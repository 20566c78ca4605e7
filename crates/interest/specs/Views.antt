-- Interest views: what a peer has told of its interest (profile).
use Rattle.std.specs.Prelude.{ℕ, ◌+◌, Bool, true, false, not, ◌&&◌, nat_eq, nat_lt, nat_le, List, [], ◌∷◌, length, map, take, Option, Some, None, is_some, if◌then◌else◌}
use Rattle.std.specs.Map.{lookup, remove_entry}
use Rattle.std.specs.Ordering.{is_eq}
use Rattle.std.specs.BTreeMap.{is_at, insert_entry}
use Rattle.subj.specs.declared.limits.TheConstants.{MAX_KEYS}
use Rattle.subj.specs.declared.keys.Key.{Key}
use Rattle.subj.specs.Keys.{key_cmp}
use Rattle.route_values.specs.Snapshots.{Weighted}
use Rattle.interest.specs.declared.faults.InterestFault.{InterestFault}
use Rattle.interest.specs.declared.faults.InterestFault.TheVariants.{Late, Gap, UnknownKey, TooManyKeys}
use Rattle.interest.specs.declared.changes.Change.{Change}
use Rattle.interest.specs.declared.changes.Change.TheVariants.{Up, Gone, Clear}
use Rattle.interest.specs.Counts.{Counts, told_weight}

-- all that one incarnation has told: its keys with their weights, in order
abbrev pub View : Type 0
View = List Weighted

-- what counts are told as: with each key what it weighs to a peer
abbrev pub told_view : Counts → View
told_view counts = map (λ entry. (entry.0, told_weight entry.0 entry.1)) counts

-- whether two views have the same keys, each with the same weight
abbrev pub same_views : View → View → Bool
same_views [] [] = true
same_views [] (y ∷ ys) = false
same_views (x ∷ xs) [] = false
same_views (x ∷ xs) (y ∷ ys) = (is_eq (key_cmp x.0 y.0) && nat_eq x.1 y.1) && same_views xs ys

-- ---- changes

abbrev pub has_key : View → Key → Bool
has_key view key = is_some (lookup (is_at (key_cmp key)) view)

-- NATS documentation, "Cluster Protocol": `RS+` says that the key is there, `RS-` that it is gone;
-- the weight told takes the place of the one before
abbrev pub view_with_change : Change → View → View
view_with_change (Up weighted) view = insert_entry key_cmp view weighted.0 weighted.1
view_with_change (Gone key) view = remove_entry (is_at (key_cmp key)) view
-- a server that drains waits for nothing any more (profile)
view_with_change Clear view = []

abbrev pub followed_if : Option Change → View → View
followed_if None view = view
followed_if (Some change) view = view_with_change change view

-- after these changes, in order
abbrev pub view_after : List Change → View → View
view_after [] view = view
view_after (change ∷ changes) view = view_after changes (view_with_change change view)

-- what an incarnation has told by its first changes, so many of them: they act on no keys, in order
abbrev pub view_at : List Change → ℕ → View
view_at changes count = view_after (take count changes) []

-- ---- refusals, the first cause first

-- a key that is not there can't go, and a new key may be one too many
abbrev pub follow_fault : View → Change → Option InterestFault
follow_fault view (Up weighted) =
    if not (has_key view weighted.0) && nat_le MAX_KEYS (length view) then Some TooManyKeys
    else None
follow_fault view (Gone key) = if has_key view key then None else Some UnknownKey
follow_fault view Clear = None

-- a change must be the next one
abbrev pub change_fault : ℕ → View → ℕ → Change → Option InterestFault
change_fault mark view number change =
    if nat_le number mark then Some Late
    else (if nat_lt (mark + 1) number then Some Gap
    else follow_fault view change)

-- a snapshot may be of the last change that was taken, or of any later one
abbrev pub snapshot_fault : ℕ → ℕ → View → Option InterestFault
snapshot_fault mark number keys =
    if nat_lt number mark then Some Late
    else (if nat_lt MAX_KEYS (length keys) then Some TooManyKeys else None)
