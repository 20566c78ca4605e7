-- Lists of queue names.
use Rattle.std.specs.Prelude.{◌≡◌, ℕ, Bool, true, false, ◌&&◌, nat_le, List, [], ◌∷◌, length, All, Option, Some, None, if◌then◌else◌}
use Rattle.std.specs.Str.{bytes_eq}
use Rattle.std.specs.Cmp.Lexicographic.{slice_cmp}
use Rattle.std.specs.Ordering.{is_lt, nat_cmp}
use Rattle.subj.specs.declared.limits.TheConstants.{MAX_QUEUE_NAMES}
use Rattle.subj.specs.Names.{queue_name_fault}

-- there is a name, and it is this one
abbrev pub is_named : List ℕ → Option (List ℕ) → Bool
is_named name None = false
is_named name (Some other) = bytes_eq other name

-- the order of bytes
abbrev pub is_before : List ℕ → List ℕ → Bool
is_before a b = is_lt (slice_cmp nat_cmp a b)

abbrev pub is_before_first : List ℕ → List (List ℕ) → Bool
is_before_first name [] = true
is_before_first name (other ∷ others) = is_before name other

abbrev pub are_rising : List (List ℕ) → Bool
are_rising [] = true
are_rising (name ∷ others) = is_before_first name others && are_rising others

-- the queue names of one publication (profile)
abbrev pub are_queue_names : List (List ℕ) → Bool
are_queue_names names = nat_le (length names) MAX_QUEUE_NAMES && are_rising names

abbrev pub queue_names_of : List (List ℕ) → Option (List (List ℕ))
queue_names_of names = if are_queue_names names then Some names else None

abbrev pub IsQueueName : List ℕ → Type 0
IsQueueName name = queue_name_fault name ≡ None

-- they are in order, and each is a queue name
pub record AreQueueNames (names : List (List ℕ)) : Type 0 where
  pub ordered : are_queue_names names ≡ true
  pub each : All IsQueueName names
