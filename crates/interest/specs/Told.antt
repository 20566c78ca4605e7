-- The counts are those of the open: what was told of openings and closings, key by key.
use Rattle.std.specs.Prelude.{◌≡◌, ◌+◌, Bool, false, not, ◌&&◌, ◌||◌, List, [], ◌∷◌, ◌++◌, count_by, None, is_some, option_to_list}
use Rattle.std.specs.Ordering.{is_eq}
use Rattle.subj.specs.declared.keys.Key.{Key}
use Rattle.interest.specs.declared.changes.Change.{Change}
use Rattle.subj.specs.declared.keys.Delta.{Delta}
use Rattle.subj.specs.Keys.{key_cmp}
use Rattle.interest.specs.Counts.{Counts, count_of, counts_after, change_of, delta_fault}

abbrev pub is_opening : Key → Delta → Bool
is_opening key delta = delta.up && is_eq (key_cmp key delta.key)

abbrev pub is_closing : Key → Delta → Bool
is_closing key delta = not delta.up && is_eq (key_cmp key delta.key)

-- the counts after some deltas, and that none of these was refused
abbrev pub counts_told : Counts → List Delta → Counts
counts_told counts [] = counts
counts_told counts (delta ∷ deltas) = counts_told (counts_after counts delta) deltas

abbrev pub AreTaken : Counts → List Delta → Type 0
AreTaken counts [] = Unit {0}
AreTaken counts (delta ∷ deltas) =
    (delta_fault counts delta ≡ None) × AreTaken (counts_after counts delta) deltas

-- what peers are told of these deltas
abbrev pub changes_told : Counts → List Delta → List Change
changes_told counts [] = []
changes_told counts (delta ∷ deltas) =
    option_to_list (change_of counts delta) ++ changes_told (counts_after counts delta) deltas

-- one of these deltas would be refused
abbrev pub are_refused : Counts → List Delta → Bool
are_refused counts [] = false
are_refused counts (delta ∷ deltas) =
    is_some (delta_fault counts delta) || are_refused (counts_after counts delta) deltas

-- the number of a key is that of its openings that were not followed by a closing
abbrev pub CountsOpen : Type 0
CountsOpen =
    (deltas : List Delta) (key : Key)
    → AreTaken [] deltas
    → count_of (counts_told [] deltas) key + count_by (is_closing key) deltas
    ≡ count_by (is_opening key) deltas
