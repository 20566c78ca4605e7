-- A hub at work: what it keeps of its lanes and of the race.
use Rattle.std.specs.Prelude.{◌≡◌, ◌⊎◌, ℕ, ◌+◌, ◌≤◌, Bool, true, false, List, [], ◌∷◌, ◌++◌, length, Result, Ok, Err}
use Rattle.list_laws.specs.Lists.{Each}
use Rattle.subj.specs.Answers.{IsAnswered}
use Rattle.subj.specs.QueueNames.{are_queue_names}
use Rattle.subj.specs.Servers.{IsListed}
use Rattle.subj.specs.declared.failures.Failure.{Failure}
use Rattle.subj.specs.declared.failures.Failure.TheVariants.{Refused}
use Rattle.subj.specs.declared.jobs.Job.{Job}
use Rattle.subj.specs.declared.limits.TheConstants.{MAX_SHARDS}
use Rattle.route_values.specs.Frames.{Frame}
use Rattle.claim_cells.specs.declared.parts.HubPart.{HubPart}
use Rattle.claim_cells.specs.Calls.{AreLoads, IsLooked}
use Rattle.hub_core.specs.Events as of_hub
use Rattle.hub_core.specs.Publishing.{Publication, publish_refusal, own_job, frames_of}
use Rattle.hub_core.specs.declared.faults.HubFault.{HubFault}
use Rattle.hub_core.specs.declared.faults.HubFault.TheVariants.{Busy}
use Rattle.node_parts.specs.declared.told.Issued.{Issued}
use Rattle.node_parts.specs.declared.told.Received.{Received}
use Rattle.node_parts.specs.declared.told.Received.TheVariants.{Routed, Heard}
use Rattle.hub_core.specs.Receiving.{receive_refusal}
use Rattle.hub_core.specs.Steps.{hub_refusal}
use Rattle.hub_core.specs.Telling.{collect_frames}
use Rattle.hub_core.specs.declared.answers.CollectResult.{CollectResult}
use Rattle.shard_core.specs.ShardEvents as of_shard
use Rattle.node_threads.specs.AtWork as at_shard
use Rattle.node_threads.specs.AtWork.{AtWork}
use Rattle.node_parts.specs.Sides.{HubWithSessions, new_side, Event, ByHub, Answer, OfHub, IsDone, Done, Leads, jobs_of}

-- the hub with its sessions; the last turn that it issued in the race, and its loads of the shards'
-- finished turns; the last of these; and all jobs that it gave to the shards, in order
pub record AtHub : Type 0 where
  pub side : HubWithSessions
  pub part : HubPart
  pub finished : List ℕ
  pub issued : List Job

abbrev pub hub_at : HubWithSessions → HubPart → List ℕ → List Job → AtHub
hub_at side part finished issued = record {
  side = side;
  part = part;
  finished = finished;
  issued = issued;
}

-- ---- what it does

-- all that it did since its start; and what it gave to the shards is what these answers say
pub record HasDone (w : AtHub) : Type 0 where
  pub steps : List Done
  pub led : Leads (new_side w.side.server) steps w.side
  pub gave : w.issued ≡ jobs_of steps

-- an event of which the race and the shards hear nothing
pub record Does (old : AtHub) (event : Event) (answer : Answer) (new : AtHub) : Type 0 where
  pub done : IsDone old.side event answer new.side
  pub after : new ≡ record old { side = new.side }

-- the hub knows how far the shards have come, as it knew before or by one more load of each
abbrev pub Looks : ℕ → AtHub → AtHub → Type 0
Looks shards old new =
    (new ≡ old)
    ⊎ (IsLooked shards old.part new.finished new.part
    × (new ≡ record old { part = new.part; finished = new.finished }))

-- an event by which the next turn is issued, and its job is given to each shard
pub record Issues (old : AtHub) (event : Event) (answer : Answer) (job : Job) (new : AtHub) :
    Type 0 where
  pub done : IsDone old.side event answer new.side
  pub turn : new.part.issued ≡ old.part.issued + 1
  pub job_turn : job.turn ≡ new.part.issued
  pub finished : new.finished ≡ old.finished
  pub issued : new.issued ≡ old.issued ++ job ∷ []

-- a publish whose plan was made by these loads
pub record IsPublished (old : AtHub) (p : Publication) (told : Issued) (new : AtHub) : Type 0 where
  pub issues : Issues old (ByHub (of_hub.Publish p old.finished))
      (OfHub (of_hub.Issued (own_job old.side.server old.side.hub p)
      (frames_of old.side.server old.side.hub p)))
      (own_job old.side.server old.side.hub p) new
  pub turn : told.turn ≡ (own_job old.side.server old.side.hub p).turn
  pub frames : told.frames ≡ length (frames_of old.side.server old.side.hub p)

abbrev pub refuses_busy : {T : Type 0} → Result T (Failure HubFault) → Bool
refuses_busy (Ok x) = false
refuses_busy (Err (Refused (Busy busy))) = true
refuses_busy (Err why) = false

-- it looks where it must, and is asked by what it has seen then; it is busy by one load of each
-- shard that was made in this call
pub record Publishes (shards : ℕ) (old : AtHub) (p : Publication)
    (result : Result Issued (Failure HubFault)) (new : AtHub) : Type 0 where
  pub seen : AtHub
  pub looks : Looks shards old seen
  pub answered : IsAnswered (publish_refusal seen.side.server seen.side.hub p seen.finished)
      (λ told. IsPublished seen p told new) (new ≡ seen) result

-- a message is routed, by these loads: its job has the turn that is issued
pub record IsRouted (old : AtHub) (frame : Frame) (turn : ℕ) (new : AtHub) : Type 0 where
  pub job : Job
  pub issues :
      Issues old (ByHub (of_hub.Receive frame old.finished)) (OfHub (of_hub.Routed job)) job new
  pub turn_is : turn ≡ job.turn

pub record Routes (shards : ℕ) (old : AtHub) (frame : Frame) (result : Result ℕ (Failure HubFault))
    (new : AtHub) : Type 0 where
  pub seen : AtHub
  pub looks : Looks shards old seen
  pub answered : IsAnswered (receive_refusal seen.side.server seen.side.hub seen.finished frame)
      (λ turn. IsRouted seen frame turn new) (new ≡ seen) result

-- or news are heard
abbrev pub IsReceived : AtHub → Frame → Received → AtHub → Type 0
IsReceived old frame (Routed turn) new = IsRouted old frame turn new
IsReceived old frame (Heard mark) new =
    Does old (ByHub (of_hub.Receive frame old.finished)) (OfHub (of_hub.Heard mark)) new

pub record Receives (shards : ℕ) (old : AtHub) (frame : Frame)
    (result : Result Received (Failure HubFault)) (new : AtHub) : Type 0 where
  pub seen : AtHub
  pub looks : Looks shards old seen
  pub answered : IsAnswered (receive_refusal seen.side.server seen.side.hub seen.finished frame)
      (λ received. IsReceived seen frame received new) (new ≡ seen) result

-- the deltas that the hub counts are those that the shard gives away
pub record HasCollected (old : AtHub) (shard : AtWork) (told : CollectResult) (new : AtHub)
    (left : AtWork) : Type 0 where
  pub does : Does old (ByHub (of_hub.Collect shard.part.shard shard.state.deltas))
      (OfHub (of_hub.Collected told.changes.items
      (collect_frames old.side.server old.side.hub shard.state.deltas) told.cut.items))
      new
  pub gives : at_shard.Does shard of_shard.Collect (of_shard.Collected shard.state.deltas) left

abbrev pub Collects : AtHub → AtWork → Result CollectResult (Failure HubFault) → AtHub → AtWork
    → Type 0
Collects old shard result new left =
    IsAnswered
    (hub_refusal old.side.server old.side.hub (of_hub.Collect shard.part.shard shard.state.deltas))
    (λ told. HasCollected old shard told new left) ((new ≡ old) × (left ≡ shard)) result

-- ---- what its fields keep

-- its server is one of a cluster; it has loaded what each shard finished; it issued as many turns
-- as the race did, and gave a job for each, whose queue names stand in order
pub record IsAtHub (shards : ℕ) (w : AtHub) : Type 0 where
  pub listed : IsListed w.side.server
  pub own : w.side.server.shards ≡ shards
  pub few : shards ≤ MAX_SHARDS
  pub places : length w.finished ≡ MAX_SHARDS
  pub loads : AreLoads shards w.part w.finished
  pub turns : w.part.issued ≡ w.side.hub.issued
  pub count : length w.issued ≡ w.side.hub.issued
  pub named : Each (λ job. are_queue_names job.queues ≡ true) w.issued
  pub done : HasDone w
