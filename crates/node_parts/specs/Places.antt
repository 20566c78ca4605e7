-- Which line a number is for.
use Rattle.std.specs.Prelude.{ℕ, ◌-◌, ◌%◌, ◌||◌, nat_eq, nat_lt, Option, Some, None, if◌then◌else◌}

-- the place of the line that has the connection of this number, of so many lines
abbrev pub place_of_conn : ℕ → ℕ → Option ℕ
place_of_conn count conn = if nat_eq conn 0 then None else Some ((conn - 1) % count)

-- the place of the line of the shard of this number, of so many lines
abbrev pub place_of_shard : ℕ → ℕ → Option ℕ
place_of_shard count shard = if nat_eq shard 0 || nat_lt count shard then None else Some (shard - 1)
