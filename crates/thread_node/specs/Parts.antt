-- What a server on threads is made of.
use Rattle.std.specs.Prelude.{◌≡◌, ◌-◌, Bool, List, [], All, map, slice_get, Some, None}
use Rattle.atomic_table.specs.Seated.{TableId}
use Rattle.claim_cells.specs.Calls.{AllNew}
use Rattle.claim_cells.specs.Rule.{newcomer, fresh_hub}
use Rattle.claim_cells.specs.Seats.{RaceId, HubShown}
use Rattle.job_lane.specs.Ends.{Writer, Reader}
use Rattle.subj.specs.Servers.{ServerIdentity}
use Rattle.thread_node.specs.declared.node.ShardParts.{ShardParts}

-- the server, its race and its lanes, and whether what its calls answer is kept in writing
pub record Given : Type 0 where
  pub server : ServerIdentity
  pub race : RaceId
  pub lanes : List TableId
  pub keep : Bool

-- the ends of one lane through which nothing went
pub record IsFreshLane (near : Writer) (far : Reader) : Type 0 where
  pub one : near.lane ≡ far.lane
  pub pushed : near.pushed ≡ []
  pub popped : far.popped ≡ []
  pub hand : far.hand ≡ None

-- all parts of a server that has done nothing
pub record AreFresh (server : ServerIdentity) (race : RaceId) (hub : HubShown)
    (shards : List ShardParts) : Type 0 where
  pub count : race.shards ≡ server.shards
  pub hub_race : hub.race ≡ race
  pub hub_part : hub.part ≡ fresh_hub
  pub seats : AllNew race server.shards (map (λ (p : ShardParts). p.seat) shards)
  pub lanes : All (λ (p : ShardParts). IsFreshLane p.near p.far) shards

-- a shard that has done nothing, of the server that has this race and these lanes
pub record IsNamed (race : RaceId) (lanes : List TableId) (p : ShardParts) : Type 0 where
  pub race_is : p.seat.race ≡ race
  pub part : p.seat.part ≡ newcomer p.seat.part.shard
  pub near : slice_get lanes (p.seat.part.shard - 1) ≡ Some p.near.lane
  pub far : slice_get lanes (p.seat.part.shard - 1) ≡ Some p.far.lane
  pub fresh : IsFreshLane p.near p.far
