-- What every server keeps, from its start on.
use Rattle.std.specs.Prelude.{◌≡◌, ℕ, suc, ◌≤◌, List, length, slice_get, slice_index, Option, Some, None}
use Rattle.claim_race.specs.Race.{RaceState}
use Rattle.subj.specs.declared.jobs.Job.{Job}
use Rattle.subj.specs.Servers.{ServerIdentity}
use Rattle.subj.specs.declared.limits.TheConstants.{WINDOW}
use Rattle.interest.specs.Counts.{IsInterest}
use Rattle.hub_core.specs.AsLaw.{HasPeers}
use Rattle.shard_core.specs.Lines.{SoundLine}
use Rattle.node_law.specs.State.{ShardWithJobs, Node, finished_turns}

-- a line is in order, and its shard has the number of its place
pub record LineAt (server : ServerIdentity) (issued place : ℕ) (line : ShardWithJobs) : Type 0 where
  pub sound : SoundLine WINDOW issued line.shard line.waiting
  pub number : line.shard.shard ≡ suc place
  pub shards : line.shard.shards ≡ server.shards

-- the index that comes next is one of the job in hand
abbrev pub tried_of : Option Job → ℕ → ℕ
tried_of None next = 0
tried_of (Some job) next = next

-- the race knows how far each shard has come: which turn it finished, and that it claimed nothing
-- yet but what it tried
pub record IsRaced (race : RaceState) (lines : List ShardWithJobs) : Type 0 where
  pub finished : race.finished ≡ finished_turns lines
  pub next : (place : ℕ) (line : ShardWithJobs)
      → slice_get lines place ≡ Some line
      → slice_index race.next place ≤ tried_of line.shard.hand line.shard.next_index

-- the hub and the race count turns alike; each line is in order, and the race keeps up with them;
-- each server of the cluster has its place among the peers; and the counts of interest are within
-- their limits
pub record SoundNode (server : ServerIdentity) (a : Node) : Type 0 where
  pub issued : a.hub.issued ≡ a.race.issued
  pub size : length a.lines ≡ server.shards
  pub lines : (place : ℕ) (line : ShardWithJobs)
      → slice_get a.lines place ≡ Some line
      → LineAt server a.race.issued place line
  pub raced : IsRaced a.race a.lines
  pub peers : HasPeers server a.hub
  pub counts : IsInterest a.hub.counts
