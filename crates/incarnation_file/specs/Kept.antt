-- What holds of a disk from one life to the next.
use Rattle.std.specs.Prelude.{◌≡◌, ◌≤◌, ◌<◌, ℕ, List, Option, None, Some, IfSome}
use Rattle.incarnation_file.specs.Disk.{Content}
use Rattle.incarnation_file.specs.Line.{IsLine}

-- a start reads no number below the last one, or is refused; there is no file only where there is
-- no last number
abbrev pub IsAtLeast : List ℕ → ℕ → Content → Type 0
IsAtLeast server last None = last ≡ 0
IsAtLeast server last (Some bytes) = (n : ℕ) → IsLine server n bytes → last ≤ n

-- so it is with all that a start may find
abbrev pub IsKept : (Content → Type 0) → List ℕ → ℕ → Type 0
IsKept found server last = (c : Content) → found c → IsAtLeast server last c

-- after a life the last number is the one that was answered, which is above the one before, or is
-- still that one
abbrev pub IsAfter : ℕ → Option ℕ → (ℕ → Type 0) → Type 0
IsAfter last None Kept = Kept last
IsAfter last (Some n) Kept = (last < n) × Kept n

-- where both were answered, the older is below the newer
abbrev pub IsBelow : Option ℕ → Option ℕ → Type 0
IsBelow older newer = IfSome older (λ m. IfSome newer (λ n. m < n))
