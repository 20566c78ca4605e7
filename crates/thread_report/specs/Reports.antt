-- What the end of a server on threads tells.
use Rattle.std.specs.Prelude.{◌≡◌, ℕ, ◌+◌, Bool, true, false, cond, List, [], All, length, map, Option, Some}
use Rattle.subj.specs.declared.jobs.Job.{Job}
use Rattle.claim_cells.specs.Calls.{IsClosed, finished_list}
use Rattle.claim_cells.specs.Rule.{At}
use Rattle.claim_cells.specs.Seats.{RaceId, ShardShown}
use Rattle.shard_core.specs.Shards.{new_shard}
use Rattle.node_parts.specs.Sides.{new_side}
use Rattle.node_threads.specs.AtHub.{AtHub}
use Rattle.node_threads.specs.AtWork.{AtWork}
use Rattle.node_threads.specs.Logs.{Made, Logs, steps_in}
use Rattle.node_threads.specs.Tapes.{entries_of}
use Rattle.node_threads.specs.declared.shard_entries.ShardEntry.{ShardEntry}
use Rattle.thread_law.specs.Runs.{HubRun, ShardRun, IsShardRun}
use Rattle.thread_node.specs.HubTapes as of_hub
use Rattle.thread_node.specs.declared.hub_entries.HubEntry.{HubEntry}

-- the last turn issued, and the last one that each shard finished
pub record Tells (hub : HubRun) (runs : List ShardRun) (issued : ℕ) (finished : List ℕ) :
    Type 0 where
  pub issued_is : issued ≡ hub.end.part.issued
  pub finished_are : finished ≡ finished_list (map (λ (run : ShardRun). run.end.part.finished) runs)

-- a shard at its end, with all that it did and refused, the newest first
pub record ShardLog : Type 0 where
  pub log : List Made
  pub end : AtWork

abbrev pub run_of : ShardLog → ShardRun
run_of l = record { steps = steps_in l.log; end = l.end }

-- what it refused, it refused in the state between its steps
abbrev pub IsLogged : ℕ → ShardLog → Type 0
IsLogged shards l = Logs (new_shard l.end.part.shard shards) l.log l.end.state

abbrev pub entries_written : Bool → ShardLog → List ShardEntry
entries_written kept l = cond kept (entries_of l.log) []

-- just the steps of these runs are written down, with what the shards refused between them; or
-- nothing at all
pub record AreWritten (kept : Bool) (shards : ℕ) (runs : List ShardRun)
    (tapes : List (List ShardEntry)) : Type 0 where
  pub logs : List ShardLog
  pub runs_are : runs ≡ map run_of logs
  pub logged : All (IsLogged shards) logs
  pub tapes_are : tapes ≡ map (entries_written kept) logs

-- the same of the hub and its sessions
pub record IsHubWritten (kept : Bool) (hub : HubRun) (tape : List HubEntry) : Type 0 where
  pub log : List of_hub.Made
  pub logged : of_hub.Logs (new_side hub.end.side.server) log hub.end.side
  pub steps_are : hub.steps ≡ of_hub.steps_in log
  pub tape_is : tape ≡ cond kept (of_hub.hub_entries log) []

pub record IsWritten (kept : Bool) (shards : ℕ) (hub : HubRun) (runs : List ShardRun)
    (tape : List HubEntry) (tapes : List (List ShardEntry)) : Type 0 where
  pub hub_is : IsHubWritten kept hub tape
  pub shards_are : AreWritten kept shards runs tapes

-- ---- its parts

-- what is told of a tape
abbrev pub IsKept : {E : Type 0} → Bool → Option (List E) → List E → Type 0
IsKept true tape entries = tape ≡ Some entries
IsKept false tape entries = entries ≡ []

-- the seat of a shard at its end
abbrev pub seat_of : RaceId → ShardRun → ShardShown
seat_of race run = record { race = race; part = run.end.part }

-- these seats are those of the shards of this race, in their order, and these their tapes; and each
-- shard worked a beginning of these jobs
abbrev pub AreClosed : RaceId → List Job → Bool → List ShardShown → List (List ShardEntry) → Type 0
AreClosed race issued kept seats tapes =
    (runs : List ShardRun)
    × (seats ≡ map (seat_of race) runs)
    × ((k : ℕ) (run : ShardRun) → At runs k run → IsShardRun race.shards issued (k + 1) run)
    × AreWritten kept race.shards runs tapes

-- one seat of each shard is closed with the hub's, which gave them these jobs: the end of the race
-- tells the last turns, and who won what
abbrev pub IsOver : RaceId → AtHub → Bool → List (List ShardEntry) → ℕ → List ℕ → List ℕ → Type 0
IsOver race hub kept tapes issued finished claims =
    (seats : List ShardShown)
    × (length seats ≡ race.shards)
    × AreClosed race hub.issued kept seats tapes
    × IsClosed race hub.part seats issued finished claims
