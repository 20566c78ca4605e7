-- Which shards a turn of the loop works, and of which it has the hub count what was opened and
-- closed.
use Rattle.std.specs.Prelude.{◌≡◌, ◌⊎◌, ℕ, zero, suc, ◌+◌, ◌-◌, ◌^◌, ◌≤◌, ◌<◌, Bool, true, Option, Result}
use Rattle.std.specs.declared.alloc.AllocError.{AllocError}
use Rattle.hub_core.specs.declared.answers.CollectResult.{CollectResult}
use Rattle.server_calls.specs.declared.shard.NextJob.{NextJob}
use Rattle.server_calls.specs.declared.shard.NextJob.TheVariants.{Worked, Nothing, Short}

-- ---- jobs

-- A job was worked to its end.
abbrev pub WasWorked : NextJob → Type 0
WasWorked (Worked jobs) = Unit {0}
WasWorked Nothing = ⊥
WasWorked Short = ⊥

-- So many times in a row the shard works what is next, each time to its end.
abbrev pub WorksMany : {S : Type 0} → (S → NextJob → S → Type 0) → S → ℕ → S → Type 0
WorksMany worked before zero after = after ≡ before
WorksMany {S} worked before (suc count) after =
    (mid : S)
    × (came : NextJob)
    × WorksMany worked before count mid
    × worked mid came after
    × WasWorked came

-- Behind a try that came to this no more is worked: no job could be begun, or there was no memory;
-- or what was put is to be taken first, where that is told.
abbrev pub IsLast : Bool → NextJob → Type 0
IsLast is_urgent (Worked jobs) = is_urgent ≡ true
IsLast is_urgent Nothing = Unit {0}
IsLast is_urgent Short = Unit {0}

-- The shard works to its end what is next, any number of times; and then it tries once more. That
-- is the last try, or the 2^64 - 1st.
pub record Works {S : Type 0} (worked : S → NextJob → S → Type 0) (is_urgent : Bool)
    (before after : S) : Type 0 where
  pub count : ℕ
  pub mid : S
  pub last : NextJob
  pub many : WorksMany worked before count mid
  pub tried : worked mid last after
  pub ends : IsLast is_urgent last ⊎ (count + 1 ≡ 2 ^ 64 - 1)

-- The same while the shard of this number is held.
pub record IsWorked {S : Type 0} (worked : S → NextJob → S → Type 0) (number : S → ℕ)
    (is_urgent : Bool) (shard : ℕ) : Type 0 where
  pub before : S
  pub after : S
  pub is : number before ≡ shard
  pub works : Works worked is_urgent before after

-- It is worked, unless there is no such shard.
abbrev pub WorksShard : {S : Type 0} → (S → NextJob → S → Type 0) → (S → ℕ) → (ℕ → Type 0) → Bool
    → ℕ → Type 0
WorksShard worked number lacks is_urgent shard =
    IsWorked worked number is_urgent shard ⊎ lacks shard

-- Each shard behind this place is, up to that one; whether what some have put is to be taken first
-- is told.
abbrev pub WorksBetween : {S : Type 0} → (S → NextJob → S → Type 0) → (S → ℕ) → (ℕ → Type 0) → Bool
    → ℕ → ℕ → Type 0
WorksBetween worked number lacks is_urgent from until =
    (shard : ℕ) → from < shard → shard ≤ until → WorksShard worked number lacks is_urgent shard

-- Each shard is, of so many.
abbrev pub WorksEach : {S : Type 0} → (S → NextJob → S → Type 0) → (S → ℕ) → (ℕ → Type 0) → Bool
    → ℕ → Type 0
WorksEach worked number lacks is_urgent count =
    WorksBetween worked number lacks is_urgent 0 count

-- ---- what was opened and closed

-- The hub is asked to count what each shard has opened and closed, of so many.
abbrev pub CollectsEach : (ℕ → Result (Option CollectResult) AllocError → Type 0) → ℕ → Type 0
CollectsEach collected count =
    (shard : ℕ)
    → 0 < shard
    → shard ≤ count
    → (came : Result (Option CollectResult) AllocError) × collected shard came
