-- What an outbox's fields keep.
use Rattle.std.specs.Prelude.{◌≡◌, ℕ, ◌+◌, ◌≤◌, Bool, false, List, [], length, take}
use Rattle.outbox.specs.declared.outbox.TheConstants.{LAST_LINE_TEXT}
use Rattle.outbox.specs.Views.{Written, size_of}

pub record IsSound (entries : List Written) (capacity shown shown_bytes bytes : ℕ)
    (shut closing : Bool) (max_bytes : ℕ) : Type 0 where
  pub within : shown ≤ length entries
  pub counted : closing ≡ false → bytes ≡ size_of entries
  pub shown_counted : shut ≡ false → shown_bytes ≡ size_of (take shown entries)
  -- a last line that waits is among all that was put
  pub still_shut : closing ≡ false → shut ≡ false
  pub bytes_fit : bytes ≤ max_bytes
  pub shown_fit : shown_bytes ≤ max_bytes
  -- a place for the last line
  pub places : closing ≡ false → length entries + 1 ≤ capacity
  pub shown_places : shut ≡ false → shown + 1 ≤ capacity

-- the memory of the last line is there until it is put
pub record HasLastLine (shut : Bool) (last_line : List ℕ) (capacity : ℕ) : Type 0 where
  pub room : shut ≡ false → LAST_LINE_TEXT ≤ capacity
  pub empty : shut ≡ false → last_line ≡ []
