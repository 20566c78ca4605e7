-- A server as its callers see it.
use Rattle.std.specs.Prelude.{ℕ, zero, suc, List, [], ◌∷◌, map, replicate}
use Rattle.subj.specs.Servers.{ServerIdentity}
use Rattle.subj.specs.declared.jobs.Job.{Job}
use Rattle.claim_race.specs.Race.{RaceState}
use Rattle.hub_core.specs.State as hub
use Rattle.hub_core.specs.State.{new_hub}
use Rattle.route_session.specs.State as sessions
use Rattle.route_session.specs.State.{no_sessions}
use Rattle.shard_core.specs.Shards as shards
use Rattle.shard_core.specs.Shards.{new_shard}

-- a shard, and the jobs that wait for it, in order
pub record ShardWithJobs : Type 0 where
  pub shard : shards.State
  pub waiting : List Job

pub record Node : Type 0 where
  pub hub : hub.State
  pub sessions : sessions.State
  pub race : RaceState
  -- of each shard, that of shard 1 first
  pub lines : List ShardWithJobs

-- ---- a server that has just started knows nothing

abbrev pub new_line : ℕ → ℕ → ShardWithJobs
new_line shards shard = record { shard = new_shard shard shards; waiting = [] }

-- so many lines, the first of this shard
abbrev pub lines_from : ℕ → ℕ → ℕ → List ShardWithJobs
lines_from shards shard zero = []
lines_from shards shard (suc count) = new_line shards shard ∷ lines_from shards (suc shard) count

abbrev pub new_race : ℕ → RaceState
new_race shards = record {
  issued = 0;
  finished = replicate shards 0;
  next = replicate shards 0;
  won = [];
}

abbrev pub new_node : ServerIdentity → Node
new_node server = record {
  hub = new_hub server;
  sessions = no_sessions;
  race = new_race server.shards;
  lines = lines_from server.shards 1 server.shards;
}

abbrev pub finished_turns : List ShardWithJobs → List ℕ
finished_turns lines = map (λ (line : ShardWithJobs). line.shard.finished) lines
