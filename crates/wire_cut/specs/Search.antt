-- Where a CR LF stands, and what a cutter keeps true of its fields.
use Rattle.std.specs.Prelude.{◌≡◌, ℕ, suc, ◌+◌, ◌^◌, ◌<◌, ◌≤◌, List, length, slice_index, Option, None, Some}

-- CR LF stands at place k
pub record HasCrLfAt (bytes : List ℕ) (k : ℕ) : Type 0 where
  pub within : k + 2 ≤ length bytes
  pub cr : slice_index bytes k ≡ 13
  pub lf : slice_index bytes (suc k) ≡ 10

-- no CR LF lies within the first n bytes
abbrev pub HasNoCrLf : List ℕ → ℕ → Type 0
HasNoCrLf bytes n = (k : ℕ) → k + 2 ≤ n → ¬ HasCrLfAt bytes k

-- the awaited size is within the limit
abbrev pub IsAllowed : ℕ → Option ℕ → Type 0
IsAllowed payload_max None = Unit {0}
IsAllowed payload_max (Some size) = size ≤ payload_max

pub record IsCutter (unread : List ℕ) (searched : ℕ) (expected : Option ℕ)
    (line_max payload_max : ℕ) : Type 0 where
  pub within : searched ≤ length unread
  pub reach : searched ≤ line_max + 2
  pub none : HasNoCrLf unread searched
  pub size : IsAllowed payload_max expected
  pub line_limit : line_max < 2 ^ 32
  pub payload_limit : payload_max < 2 ^ 32
