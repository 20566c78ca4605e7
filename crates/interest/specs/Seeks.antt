-- The next entry, among those whose keys rise, whose pattern matches a subject.
use Rattle.std.specs.Prelude.{◌≡◌, ℕ, ◌<◌, ◌≤◌, Bool, true, false, List, length, slice_index_or}
use Rattle.subj.specs.Matching.{subject_matches}
use Rattle.route_values.specs.Snapshots.{Weighted}

abbrev pub matches_entry : List ℕ → Weighted → Bool
matches_entry subject entry = subject_matches entry.0.pattern subject

-- from the place on none matches before the next place, and there one does, where there is an entry
pub record IsNextMatch {X : Type 0} (entry_of : X → Weighted) (entries : List X) (subject : List ℕ)
    (from next : ℕ) : Type 0 where
  pub after : from ≤ next
  pub within : next ≤ length entries
  pub passed : (i : ℕ) (d : X)
      → from ≤ i
      → i < next
      → matches_entry subject (entry_of (slice_index_or entries i d)) ≡ false
  pub found : (d : X)
      → next < length entries
      → matches_entry subject (entry_of (slice_index_or entries next d)) ≡ true
