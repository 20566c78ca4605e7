-- What the race and its seats show to contracts.
use Rattle.std.specs.Prelude.{◌≡◌, ℕ, ◌+◌, ◌-◌, ◌*◌, ◌<◌, ◌≤◌, List, [], ◌∷◌, Some, None}
use Rattle.atomic_table.specs.Table.{Me}
use Rattle.atomic_table.specs.Seated.{TableId}
use Rattle.claim_cells.specs.declared.parts.HubPart.{HubPart}
use Rattle.claim_cells.specs.declared.parts.ShardPart.{ShardPart}
use Rattle.claim_cells.specs.declared.parts.View.{View}
use Rattle.claim_cells.specs.Rule.{Has, newcomers, fresh_hub}
use Rattle.claim_cells.specs.Steps.{hub_of, part_of}

-- which race it is, and how many shards it has
pub record RaceId : Type 0 where
  pub table : TableId
  pub shards : ℕ

-- what the hub's seat shows: its race, and its part
pub record HubShown : Type 0 where
  pub race : RaceId
  pub part : HubPart

-- what a shard's seat shows
pub record ShardShown : Type 0 where
  pub race : RaceId
  pub part : ShardPart

-- the last load, or 0 where there is none
abbrev pub last_from : ℕ → List ℕ → ℕ
last_from n [] = n
last_from n (x ∷ xs) = last_from x xs

abbrev pub last_load : List ℕ → ℕ
last_load loads = last_from 0 loads

-- the shard has seen that the turn behind its finished one is issued
abbrev pub HasTurn : ShardPart → Type 0
HasTurn p = p.finished < last_load p.loads

-- how many turns behind its finished one it has seen issued
abbrev pub turns_seen : ShardPart → ℕ
turns_seen p = last_load p.loads - p.finished

-- the same of one of its loads
abbrev pub Sighted : ShardPart → Type 0
Sighted p = (n : ℕ) × Has p.loads n × (p.finished < n)

abbrev pub shard_view : ShardPart → ℕ → View
shard_view p count = record { hub = None; shards = p ∷ []; at = 0; count = count }

abbrev pub hub_view : HubPart → ℕ → ℕ → View
hub_view h at count = record { hub = Some h; shards = []; at = at; count = count }

-- the view of the seat that has the hub's part and those of n shards from this one on, as they are
-- at the start
abbrev pub left_from : ℕ → ℕ → ℕ → View
left_from shard n count = record {
  hub = Some fresh_hub;
  shards = newcomers shard n;
  at = 0;
  count = count;
}

-- the seat has a shard's part and no other
abbrev pub IsShard : {S : Type 0} → Me S View → Type 0
IsShard m = m ≡ (shard_view (part_of m) m.0.count, [])

-- the seat has the hub's part and no other
abbrev pub IsHub : {S : Type 0} → Me S View → Type 0
IsHub m = m ≡ (hub_view (hub_of m) m.0.at m.0.count, [])

-- the fields of a hub's seat say what it knows
pub record IsHubSeat {S : Type 0} (m : Me S View) (issued : ℕ) : Type 0 where
  pub whole : IsHub m
  pub last : (hub_of m).issued ≡ issued

-- the fields of a shard's seat say what it knows
pub record IsShardSeat {S : Type 0} (m : Me S View) (shard finished next seen : ℕ) : Type 0 where
  pub whole : IsShard m
  pub named : (part_of m).shard ≡ shard
  pub first : 1 ≤ shard
  pub last : shard ≤ m.0.count
  pub done : (part_of m).finished ≡ finished
  pub least : (part_of m).next ≡ next
  pub sight : last_load (part_of m).loads ≡ seen

-- the fields of the cells
pub record IsCells (window names limit : ℕ) (table : TableId) (key shards : ℕ) : Type 0 where
  pub words : table.words ≡ shards + 1 + window * names
  pub slots : table.slots ≡ 0
  pub told : key ≡ shards
  pub some : 1 ≤ shards
  pub most : shards ≤ limit
