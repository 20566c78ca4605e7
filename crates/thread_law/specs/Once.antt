-- What a legal run does once: each publication has one job, and is put once for a queue name and
-- once for a subscription.
use Rattle.std.specs.Prelude.{◌≡◌, ℕ, ◌+◌, ◌<◌, List, [], ◌∷◌, map}
use Rattle.list_laws.specs.Lists.{Pairs}
use Rattle.subj.specs.Servers.{ServerIdentity, own_name}
use Rattle.subj.specs.declared.identities.PubId.{PubId}
use Rattle.subj.specs.declared.identities.SubId.{SubId}
use Rattle.subj.specs.declared.jobs.Job.{Job}
use Rattle.claim_cells.specs.Rule.{At}
use Rattle.outbox.specs.declared.entries.Mode.{Mode}
use Rattle.outbox.specs.declared.entries.Mode.TheVariants.{Plain, Queue}
use Rattle.outbox.specs.declared.entries.Tag.TheVariants.{Msg}
use Rattle.hub_core.specs.Events as of_hub
use Rattle.node_parts.specs.Sides.{Event, ByHub, BySessions, job_in}
use Rattle.node_parts.specs.Sides as side
use Rattle.shard_core.specs.declared.calls.Placed.{Placed}
use Rattle.node_threads.specs.Steps.{placed_by}
use Rattle.thread_law.specs.Runs.{HubRun, ShardRun, IsLegal}

-- ---- the publications

-- of one incarnation of a server, the first has the lower number
abbrev pub Precedes : PubId → PubId → Type 0
Precedes a b = a.origin ≡ b.origin → a.inc ≡ b.inc → a.number < b.number

-- a client published it at this server, or a peer sent it
abbrev pub BringsToHub : ServerIdentity → of_hub.Event → PubId → Type 0
BringsToHub server (of_hub.Publish p finished) id =
    (id.origin ≡ own_name server) × (id.inc ≡ server.inc)
BringsToHub server (of_hub.Receive frame finished) id =
    id ≡ record { origin = frame.from; inc = frame.inc; number = frame.number }
BringsToHub server (of_hub.Collect shard deltas) id = ⊥
BringsToHub server of_hub.Drain id = ⊥
BringsToHub server (of_hub.Up peer inc) id = ⊥
BringsToHub server (of_hub.Cut peer) id = ⊥
BringsToHub server (of_hub.TakeFrom peer count) id = ⊥

abbrev pub Brings : ServerIdentity → Event → PubId → Type 0
Brings server (ByHub event) id = BringsToHub server event id
Brings server (BySessions event) id = ⊥

-- the step at this place of the hub's gave this job
pub record IsSource (hub : HubRun) (place : ℕ) (job : Job) : Type 0 where
  pub step : side.Done
  pub there : At hub.steps place step
  pub brings : Brings hub.end.side.server step.event job.id
  pub gives : job_in step.answer ≡ job ∷ []

-- ---- the messages that were put, by each shard in order, those of shard 1 first

-- at this place of those of the shard, both counted from 0, stands one of this publication, for
-- this subscription, as one of a queue group or not
pub record IsPut (puts : List (List Placed)) (shard place : ℕ) (id : PubId) (sub : SubId)
    (mode : Mode) : Type 0 where
  pub by_shard : List Placed
  pub of_shard : At puts shard by_shard
  pub put : Placed
  pub there : At by_shard place put
  pub tag : put.entry.tag ≡ Msg id sub mode

pub record ArePutOnce (puts : List (List Placed)) : Type 0 where
  -- over all shards a publication is put once at most for a queue name,
  pub members : (s t i j : ℕ) (id : PubId) (u v : SubId) (name : List ℕ)
      → IsPut puts s i id u (Queue name)
      → IsPut puts t j id v (Queue name)
      → (s ≡ t) × (i ≡ j)
  -- and once at most for a subscription without one;
  pub plain : (s t i j : ℕ) (id : PubId) (u : SubId)
      → IsPut puts s i id u Plain
      → IsPut puts t j id u Plain
      → (s ≡ t) × (i ≡ j)
  -- a subscription is of the shard that it names, and those of one incarnation are put for it in
  -- rising number
  pub own : (s i : ℕ) (id : PubId) (u : SubId) (mode : Mode)
      → IsPut puts s i id u mode
      → u.shard ≡ s + 1
  pub rising : (s i j : ℕ) (a b : PubId) (u : SubId) (m n : Mode)
      → IsPut puts s i a u m
      → IsPut puts s j b u n
      → i < j
      → Precedes a b

-- by these runs
abbrev pub puts_of : List ShardRun → List (List Placed)
puts_of runs = map (λ (run : ShardRun). placed_by run.steps) runs

-- ---- each is done once

pub record AreOnce (hub : HubRun) (runs : List ShardRun) : Type 0 where
  -- the publications of one incarnation are given to the shards in rising number: so none stands in
  -- two jobs;
  pub ids : Pairs (λ (a b : Job). Precedes a.id b.id) hub.end.issued
  -- one publish or one frame of a peer gave it, and no other step gave a job of it;
  pub sources : (n : ℕ) (job : Job)
      → At hub.end.issued n job
      → (place : ℕ)
      × IsSource hub place job
      × ((other : ℕ) (again : Job) → IsSource hub other again → again.id ≡ job.id → other ≡ place)
  -- and the shards put it once at most
  pub puts : ArePutOnce (puts_of runs)

-- so is every legal run
abbrev pub LegalRunsAreOnce : Type 0
LegalRunsAreOnce =
    (shards : ℕ) (hub : HubRun) (runs : List ShardRun) → IsLegal shards hub runs → AreOnce hub runs
