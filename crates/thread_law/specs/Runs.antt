-- What the hub and the shards of a server on threads did, and when that is legal.
use Rattle.std.specs.Prelude.{◌≡◌, ◌≢◌, ℕ, ◌+◌, true, false, List, length}
use Rattle.list_laws.specs.Lists.{Each}
use Rattle.subj.specs.QueueNames.{are_queue_names}
use Rattle.subj.specs.Servers.{IsListed}
use Rattle.subj.specs.declared.jobs.Job.{Job}
use Rattle.claim_cells.specs.Rule.{At, Has}
use Rattle.node_parts.specs.Sides as of_hub
use Rattle.node_threads.specs.AtHub.{AtHub}
use Rattle.node_threads.specs.AtWork.{AtWork, at_start, Makes}
use Rattle.node_threads.specs.Outlets.{AreFirst}
use Rattle.node_threads.specs.Steps.{Done, claims_of}

-- all that a shard did, the newest step first, and what has come of it
pub record ShardRun : Type 0 where
  pub steps : List Done
  pub end : AtWork

-- all that the hub and the sessions did, the newest step first, and what has come of it
pub record HubRun : Type 0 where
  pub steps : List of_hub.Done
  pub end : AtHub

-- Of a server of a cluster each step is the hub's or the sessions' own, and the jobs given to the
-- shards are those of their answers, whose queue names stand in order.
pub record IsHubRun (run : HubRun) : Type 0 where
  pub listed : IsListed run.end.side.server
  pub led : of_hub.Leads (of_hub.new_side run.end.side.server) run.steps run.end.side
  pub gave : run.end.issued ≡ of_hub.jobs_of run.steps
  pub count : length run.end.issued ≡ run.end.part.issued
  pub named : Each (λ job. are_queue_names job.queues ≡ true) run.end.issued

-- Each step is the shard's own; what it began and dropped is what it popped, in order, and that is
-- a beginning of what was given to the shards. Its seat won and lost just what its steps say.
pub record IsShardRun (shards : ℕ) (issued : List Job) (number : ℕ) (run : ShardRun) : Type 0 where
  pub made : Makes (at_start number shards) run.steps run.end
  pub given : AreFirst run.end.popped issued

-- the claims that a run won, and those that it lost: each a turn and the index of a queue name
abbrev pub claims_won : ShardRun → List (ℕ × ℕ)
claims_won run = claims_of true run.steps

abbrev pub claims_lost : ShardRun → List (ℕ × ℕ)
claims_lost run = claims_of false run.steps

-- The hub and each shard of a server, that of shard 1 first, did only steps of their own, over the
-- jobs that were given. No queue name of a turn was won twice, and each that was lost was won by
-- another shard.
pub record IsLegal (shards : ℕ) (hub : HubRun) (runs : List ShardRun) : Type 0 where
  pub hub_run : IsHubRun hub
  pub count : length runs ≡ shards
  pub each : (k : ℕ) (run : ShardRun) → At runs k run → IsShardRun shards hub.end.issued (k + 1) run
  pub once : (k l i j : ℕ) (r q : ShardRun) (pair : ℕ × ℕ)
      → At runs k r
      → At runs l q
      → At (claims_won r) i pair
      → At (claims_won q) j pair
      → (k ≡ l) × (i ≡ j)
  pub others : (k : ℕ) (r : ShardRun) (pair : ℕ × ℕ)
      → At runs k r
      → Has (claims_lost r) pair
      → (l : ℕ) × (q : ShardRun) × (l ≢ k) × At runs l q × Has (claims_won q) pair
