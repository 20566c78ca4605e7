-- What reads and writes do to known bytes and to the count of failures.
use Rattle.std.specs.Prelude.{◌≡◌, ℕ, ◌+◌, ◌<◌, ◌≤◌, List, ◌++◌, length, take, Option, Result, Ok, Err, MatchResult}
use Rattle.wire_cut.specs.declared.faults.FillFault.{FillFault}
use Rattle.wire_cut.specs.declared.faults.FillFault.TheVariants.{Cut, Read, OutOfMemory}
use Rattle.std.specs.Io.KnownBytes.{Appends, Consumes, IsAtEnd}

-- a call answers an error just where the count of failures rose, by one
abbrev pub CountsFailure : {T E : Type 0} → Result T E → ℕ → ℕ → Type 0
CountsFailure result old new = MatchResult result (λ _. new ≡ old) (λ _. new ≡ old + 1)

-- `old` grew to `new` by n bytes that were read, at most as many as asked for, and by none only at
-- the end
pub record Gains (old new : List ℕ) (before after : Option (List ℕ)) (asked n : ℕ) : Type 0 where
  pub bytes : List ℕ
  pub grown : new ≡ old ++ bytes
  pub count : length bytes ≡ n
  pub bound : n ≤ asked
  pub consumed : Consumes before after bytes
  pub end : n ≡ 0 → 0 < asked → IsAtEnd after

-- what was written is a front of the bytes, and not all of them
abbrev pub AppendsFront : Option (List ℕ) → Option (List ℕ) → List ℕ → Type 0
AppendsFront before after bytes = (n : ℕ) × (n < length bytes) × Appends before after (take n bytes)

-- a fill made one read, which failed just where the answer says so, or it did not reach the source
abbrev pub ReadsOnce : Result ℕ FillFault → Type 0 → ℕ → ℕ → ℕ → ℕ → Type 0
ReadsOnce (Ok n) untouched reads reads_after failures failures_after =
    (reads_after ≡ reads + 1) × (failures_after ≡ failures)
ReadsOnce (Err Read) untouched reads reads_after failures failures_after =
    (reads_after ≡ reads + 1) × (failures_after ≡ failures + 1)
ReadsOnce (Err (Cut fault)) untouched reads reads_after failures failures_after = untouched
ReadsOnce (Err OutOfMemory) untouched reads reads_after failures failures_after = untouched
