-- The server of a pipe, by its one shard.
use Rattle.std.specs.Prelude.{◌≡◌, ℕ, ◌+◌, ◌*◌, ◌-◌, ◌^◌, ◌≤◌, Bool, true, false, nat_le, nat_lt, List, [], ◌∷◌, length, take, codes, Option, Some, None, Result, Ok, Err, if◌then◌else◌}
use Rattle.subj.specs.Servers.{ServerIdentity}
use Rattle.subj.specs.declared.jobs.Job.{Job}
use Rattle.subj.specs.declared.limits.TheConstants.{MAX_COUNTER, MAX_QUEUE_NAMES, MAX_SERIAL}
use Rattle.subj.specs.declared.messages.Pub.{Pub}
use Rattle.client_conn.specs.declared.ask.Refusal.{Refusal}
use Rattle.client_conn.specs.declared.ask.Refusal.TheVariants as refusal
use Rattle.client_refusals.specs.Refusals.{refusal_of_shard, refusal_of_hub}
use Rattle.claim_race.specs.Race.{RaceState, winner}
use Rattle.hub_core.specs.State.{unknown_peer}
use Rattle.outbox.specs.Views.{bytes_of_all}
use Rattle.shard_core.specs.Owed.{whole_walk}
use Rattle.shard_core.specs.Shards.{State, new_shard, waits_for}
use Rattle.shard_core.specs.ShardEvents.{Event, Begin, Claim, End}
use Rattle.shard_core.specs.ShardSteps.{shard_after}
use Rattle.shard_core.specs.Lines.{waiting_after}
use Rattle.shard_core.specs.declared.faults.ShardFault.{ShardFault}
use Rattle.node_law.specs.declared.faults.NodeFault.{NodeFault}
use Rattle.node_law.specs.declared.faults.NodeFault.TheVariants as node_fault
use Rattle.node_law.specs.State.{ShardWithJobs, Node}
use Rattle.node_law.specs.Runs.{Done, Ran}
use Rattle.node_core.specs.Served as of_node
use Rattle.mesh_pipe.specs.PipeText.{names_wanted, job_of, served_by, after_claims, after_job}

-- node `n1`, alone in its cluster, in its first life, with one shard
abbrev pub pipe_server : ServerIdentity
pipe_server = record { names = codes "n1" ∷ []; me = 0; inc = 1; shards = 1 }

-- ---- its shard, and the jobs that wait for it

abbrev pub first_line : List ShardWithJobs → ShardWithJobs
first_line [] = record { shard = new_shard 1 1; waiting = [] }
first_line (line ∷ lines) = line

abbrev pub line_in : of_node.Served → ShardWithJobs
line_in s = first_line s.node.lines

abbrev pub shard_in : of_node.Served → State
shard_in s = (line_in s).shard

abbrev pub waiting_in : of_node.Served → List Job
waiting_in s = (line_in s).waiting

-- some run led from the start here
abbrev pub HasRun : Node → Type 0
HasRun a = (h : List Done) × Ran pipe_server h a

-- what it is between two events
pub record IsServing (s : of_node.Served) : Type 0 where
  pub server : s.server ≡ pipe_server
  pub line : s.node.lines ≡ line_in s ∷ []
  pub alone : s.node.hub.peers ≡ unknown_peer ∷ []
  pub published : s.node.hub.published ≡ s.node.hub.issued
  -- each opening and each closing is one change at most
  pub changed : s.node.hub.changed + (length (shard_in s).deltas + length (shard_in s).subs)
      ≤ 2 * (shard_in s).opened
  pub opened : (shard_in s).opened ≤ MAX_SERIAL
  pub ran : HasRun s.node

-- ---- what its calls do

-- a step of its shard
pub record Steps (old : of_node.Served) (event : Event) (new : of_node.Served) : Type 0 where
  pub serving : IsServing new
  pub shard : shard_in new ≡ shard_after (shard_in old) event
  pub waiting : waiting_in new ≡ waiting_after (shard_in old).hand event (waiting_in old)

-- nobody has claimed this index of the newest turn, nor one behind it
abbrev pub AreFree : ℕ → RaceState → Type 0
AreFree index race = (i : ℕ) → index ≤ i → winner race race.issued i ≡ None

-- what a client is told of a refusal
abbrev pub refusal_of : NodeFault → Refusal
refusal_of node_fault.NoShard = refusal.Other
refusal_of (node_fault.Shard fault) = refusal_of_shard fault
refusal_of (node_fault.Hub fault) = refusal_of_hub fault
refusal_of (node_fault.Session fault) = refusal.Other

-- why a publication is refused: numbers are asked for first (profile)
abbrev pub placing_refused : Pub → State → Option Refusal
placing_refused p t =
    if nat_le MAX_COUNTER t.finished then Some refusal.NumbersSpent
    else (if nat_lt MAX_QUEUE_NAMES (length (names_wanted p.message.subject t.subs))
    then Some refusal.TooManyQueueGroups
    else None)

-- a job waits, of whose turn nothing is claimed
pub record HasIssued (p : Pub) (old new : of_node.Served) : Type 0 where
  pub serving : IsServing new
  pub shard : shard_in new ≡ shard_in old
  pub waiting : waiting_in new ≡ job_of p (served_by (shard_in old)) ∷ []
  pub free : AreFree 0 new.node.race

-- the subscription is opened, or refused by this cause
abbrev pub IsOpened : Option ShardFault → Event → of_node.Served → Result (Unit {0}) Refusal
    → of_node.Served → Type 0
IsOpened cause event old (Ok done) new = (cause ≡ None) × Steps old event new
IsOpened cause event old (Err why) new =
    (fault : ShardFault) × (cause ≡ Some fault) × (why ≡ refusal_of_shard fault) × (new ≡ old)

-- ---- a job is worked off

abbrev pub has_any : List ℕ → Bool
has_any [] = false
has_any (x ∷ xs) = true

-- the job that waits is in hand, and the race as it was
pub record HasBegun (old : of_node.Served) (shut : Bool) (new : of_node.Served) : Type 0 where
  pub job : Job
  pub first : waiting_in old ≡ job ∷ []
  pub steps : Steps old (Begin job) new
  pub is_shut : shut ≡ has_any (whole_walk (shard_in old) job).shut
  pub race : new.node.race ≡ old.node.race

-- the claim was won where there was a candidate
pub record HasClaimed (index : ℕ) (old new : of_node.Served) : Type 0 where
  pub steps : Steps old (Claim index true) new
  pub free : AreFree (index + 1) new.node.race

-- ended, or not all queue names were claimed
abbrev pub HasEnded : Option ShardFault → of_node.Served → Bool → of_node.Served → Type 0
HasEnded cause old true new = (cause ≡ None) × Steps old End new
HasEnded cause old false new = (fault : ShardFault) × (cause ≡ Some fault) × (new ≡ old)

abbrev pub queues_of : Option Job → ℕ
queues_of None = 0
queues_of (Some job) = length job.queues

-- how many queue names the job in hand has
abbrev pub queues_in : of_node.Served → ℕ
queues_in s = queues_of (shard_in s).hand

-- all of them are claimed, and it is ended
pub record HasClaimedAll (old new : of_node.Served) : Type 0 where
  pub serving : IsServing new
  pub shard : shard_in new ≡ shard_after (after_claims (queues_in old) (shard_in old)) End
  pub waiting : waiting_in new ≡ []

-- the job that waits was worked off
pub record HasWorkedOff (old : of_node.Served) (shut : Bool) (new : of_node.Served) : Type 0 where
  pub job : Job
  pub first : waiting_in old ≡ job ∷ []
  pub serving : IsServing new
  pub shard : shard_in new ≡ after_job job (shard_in old)
  pub waiting : waiting_in new ≡ []
  pub is_shut : shut ≡ has_any (whole_walk (shard_in old) job).shut

abbrev pub first_queues : List Job → ℕ
first_queues [] = 0
first_queues (job ∷ jobs) = length job.queues

-- ---- what waits for the client

-- all that one call takes
abbrev pub all_entries : ℕ
all_entries = 2 ^ 64 - 1

abbrev pub waiting_bytes : State → List ℕ
waiting_bytes t = bytes_of_all (take all_entries (waits_for 1 t.clients))

-- ---- a publication

-- done, or refused by this cause
abbrev pub IsPublished : Option Refusal → Pub → of_node.Served → Result (Unit {0}) Refusal
    → of_node.Served → Type 0
IsPublished cause p old (Ok done) new = (cause ≡ None) × HasIssued p old new
IsPublished cause p old (Err why) new = (cause ≡ Some why) × (new ≡ old)
