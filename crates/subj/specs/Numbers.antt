-- Numbers within their limits.
use Rattle.std.specs.Prelude.{ℕ, nat_lt, nat_eq, ◌||◌, ◌+◌, ◌-◌, List, replicate, slice_get, unwrap_or, Option, Some, None, if◌then◌else◌}
use Rattle.subj.specs.declared.limits.TheConstants.{MAX_INCARNATION, MAX_COUNTER, MAX_SHARDS}

-- an incarnation is 1 to its limit (profile)
abbrev pub incarnation_of : ℕ → Option ℕ
incarnation_of number =
    if nat_eq number 0 || nat_lt MAX_INCARNATION number then None else Some number

-- a turn is at most the limit of a counter (profile)
abbrev pub turn_of : ℕ → Option ℕ
turn_of number = if nat_lt MAX_COUNTER number then None else Some number

abbrev pub next_turn : ℕ → Option ℕ
next_turn turn = turn_of (turn + 1)

-- the turn that a shard, counted from 1, finished last
abbrev pub finished_turn : List ℕ → ℕ → ℕ
finished_turn turns shard = if nat_eq shard 0 then 0 else unwrap_or (slice_get turns (shard - 1)) 0

abbrev pub no_turn_finished : List ℕ
no_turn_finished = replicate MAX_SHARDS 0
