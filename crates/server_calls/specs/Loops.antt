-- Which shards belong to which of a server's loops, and which clients.
use Rattle.std.specs.Prelude.{◌≡◌, ℕ, ◌+◌, ◌-◌, ◌*◌, ◌%◌, ◌/◌, ◌<◌, Bool, true, ◌&&◌, nat_eq, nat_lt, nat_le, Option, Some, None, if◌then◌else◌}
use Rattle.subj.specs.declared.limits.TheConstants.{MAX_SHARDS}

-- which of a server's loops it is, counted from 0, and how many there are
pub record Place : Type 0 where
  pub place : ℕ
  pub loops : ℕ

-- there is such a loop
abbrev pub place_in : ℕ → ℕ → Option Place
place_in place loops =
    if nat_lt place loops && nat_le loops MAX_SHARDS
    then Some (record { place = place; loops = loops }) else None

-- The place of the loop that the shard of this number belongs to, counted from 1.
abbrev pub place_of : ℕ → ℕ → ℕ
place_of loops shard = (shard - 1) % loops

abbrev pub owns : Place → ℕ → Bool
owns loop shard = nat_eq (place_of loop.loops shard) loop.place

-- how many shards belong to it, of so many
abbrev pub own_count : Place → ℕ → ℕ
own_count loop shards = (shards - loop.place + (loop.loops - 1)) / loop.loops

-- the shard of its client of this number, counted from 1 among its own, who go to its shards in
-- turn
abbrev pub shard_of : Place → ℕ → ℕ → Option ℕ
shard_of loop shards client =
    if nat_le shards loop.place then None
    else Some ((client - 1) % own_count loop shards * loop.loops + loop.place + 1)

-- Each shard belongs to just one of a server's loops.
abbrev pub OneOwns : Type 0
OneOwns =
    (loops shard : ℕ)
    → 0 < loops
    → (place : ℕ)
    × (place < loops)
    × (owns (record { place = place; loops = loops }) shard ≡ true)
    × ((other : ℕ) → owns (record { place = other; loops = loops }) shard ≡ true → other ≡ place)
