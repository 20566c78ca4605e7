-- The weighted pick (profile).
use Rattle.std.specs.Prelude.{◌≡◌, ℕ, ◌%◌, ◌<◌, List, length, replicate, slice_get, Option}
use Rattle.std.specs.List.{flat_map, sum_by}

-- a server's name, and its weight
abbrev pub Weighted : Type 0
Weighted = List ℕ × ℕ

abbrev pub weight_of : Weighted → ℕ
weight_of server = server.1

abbrev pub total_weight : List Weighted → ℕ
total_weight servers = sum_by weight_of servers

-- each server, in the order handed in, as often as its weight
abbrev pub units : List Weighted → List (List ℕ)
units servers = flat_map (λ server. replicate server.1 server.0) servers

-- the item `word mod total` of that list, counted from 0, where it has one
abbrev pub pick_of : List Weighted → ℕ → Option (List ℕ)
pick_of servers word = slice_get (units servers) (word % length (units servers))

-- the name is of a server that has a weight
abbrev pub HasWeight : List ℕ → Weighted → Type 0
HasWeight name server = (server.0 ≡ name) × (0 < server.1)
