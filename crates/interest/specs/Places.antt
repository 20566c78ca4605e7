-- The place of a key among entries whose keys rise.
use Rattle.std.specs.Prelude.{◌≡◌, ℕ, ◌<◌, ◌≤◌, List, length, slice_index_or, slice_set, insert, remove, Some, None}
use Rattle.std.specs.declared.cmp.Ordering.{Ordering}
use Rattle.std.specs.declared.cmp.Ordering.TheVariants.{Equal}
use Rattle.std.specs.Map.{lookup, remove_entry}
use Rattle.std.specs.BTreeMap.{is_at, insert_entry}

-- the key stands there: its value is there, and what is done with the key is done there
pub record IsPlaceOf {K X : Type 0} (compare : K → K → Ordering) (key : K) (entries : List (K × X))
    (place : ℕ) : Type 0 where
  pub within : place < length entries
  pub ties : (d : K × X) → compare key (slice_index_or entries place d).0 ≡ Equal
  pub value : (d : K × X)
      → lookup (is_at (compare key)) entries ≡ Some ((slice_index_or entries place d).1)
  pub removes : remove entries place ≡ remove_entry (is_at (compare key)) entries
  pub writes : (d : K × X) (value : X)
      → slice_set entries place ((slice_index_or entries place d).0, value)
      ≡ insert_entry compare entries key value

-- the key is absent, and would stand there
pub record IsGapFor {K X : Type 0} (compare : K → K → Ordering) (key : K) (entries : List (K × X))
    (place : ℕ) : Type 0 where
  pub within : place ≤ length entries
  pub none : lookup (is_at (compare key)) entries ≡ None
  pub inserts : (value : X)
      → insert entries place (key, value) ≡ insert_entry compare entries key value
