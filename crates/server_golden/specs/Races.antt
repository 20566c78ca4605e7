-- A race of two shards, with all seats.
use Rattle.std.specs.Prelude.{◌≡◌}
use Rattle.claim_cells.specs.Seats.{RaceId, HubShown, ShardShown}

pub record AreTwo (race : RaceId) (hub : HubShown) (first second : ShardShown) : Type 0 where
  pub count : race.shards ≡ 2
  pub hubs : hub.race ≡ race
  pub firsts : first.race ≡ race
  pub seconds : second.race ≡ race
  pub shard_1 : first.part.shard ≡ 1
  pub shard_2 : second.part.shard ≡ 2
