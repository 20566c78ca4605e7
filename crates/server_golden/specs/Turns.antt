-- A server of one shard, as a case has it at its start.
use Rattle.std.specs.Prelude.{◌≡◌, [], None}
use Rattle.claim_cells.specs.Rule.{newcomer, fresh_hub}
use Rattle.claim_cells.specs.Seats.{RaceId, HubShown, ShardShown}
use Rattle.job_lane.specs.Ends.{Writer, Reader}

pub record IsAlone (race : RaceId) (hub : HubShown) (seat : ShardShown) (near : Writer)
    (far : Reader) : Type 0 where
  pub shards : race.shards ≡ 1
  pub hubs : hub.race ≡ race
  pub first : hub.part ≡ fresh_hub
  pub seats : seat.race ≡ race
  pub fresh : seat.part ≡ newcomer 1
  pub lane : near.lane ≡ far.lane
  pub pushed : near.pushed ≡ []
  pub popped : far.popped ≡ []
  pub hand : far.hand ≡ None
