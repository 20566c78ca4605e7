-- A job for each shard: what is asked before it is handed out, and what holds after.
use Rattle.std.specs.Prelude.{◌≡◌, ℕ, ◌<◌, ◌+◌, Bool, true, false, List, length, map, replicate, slice_get, Some, None}
use Rattle.subj.specs.declared.jobs.Job.{Job}
use Rattle.subj.specs.declared.limits.TheConstants.{MAX_COUNTER, WINDOW}
use Rattle.claim_race.specs.Race.{RaceState, IsIssued, busy_of}
use Rattle.hub_core.specs.State as hub
use Rattle.hub_core.specs.Receiving.{routed_job}
use Rattle.route_values.specs.Frames.{Frame}
use Rattle.route_values.specs.declared.bodies.Body.{Body}
use Rattle.route_values.specs.declared.bodies.Body.TheVariants.{Plus, Minus, Snapshot, Msg}
use Rattle.node_law.specs.State.{ShardWithJobs}
use Rattle.node_law.specs.Steps.{line_with_job}
use Rattle.node_parts.specs.declared.told.Received.{Received}
use Rattle.node_parts.specs.declared.told.Received.TheVariants.{Routed, Heard}

-- the next turn may be issued, and each line has room for its job
pub record MayIssue (race : RaceState) (lines : List ShardWithJobs) : Type 0 where
  pub turn : race.issued < MAX_COUNTER
  pub free : busy_of race.issued race.finished ≡ None
  pub room : (place : ℕ) (line : ShardWithJobs)
      → slice_get lines place ≡ Some line
      → length line.waiting < WINDOW

-- the next turn is issued, and each line has got one of these jobs, which are alike
pub record AreGiven (race : RaceState) (lines : List ShardWithJobs) (jobs : List Job)
    (new_race : RaceState) (new_lines : List ShardWithJobs) : Type 0 where
  pub issued : IsIssued race (race.issued + 1) new_race
  pub given : (job : Job)
      → jobs ≡ replicate (length lines) job
      → new_lines ≡ map (line_with_job job) lines

-- a message is routed, with so many copies of its job; news are heard
abbrev pub IsReceived : hub.State → Frame → Body → ℕ → Received → List Job → Type 0
IsReceived hub frame (Plus weighted) count received jobs = received ≡ Heard frame.number
IsReceived hub frame (Minus key) count received jobs = received ≡ Heard frame.number
IsReceived hub frame (Snapshot keys) count received jobs = received ≡ Heard frame.number
IsReceived hub frame (Msg content queues) count received jobs =
    (received ≡ Routed (hub.issued + 1))
    × (jobs ≡ replicate count (routed_job hub frame content queues))

-- of a message each line may get its job
abbrev pub MayRoute : Bool → RaceState → List ShardWithJobs → List Job → Type 0
MayRoute true race lines jobs = MayIssue race lines × (length jobs ≡ length lines)
MayRoute false race lines jobs = Unit {0}

-- of a message each line has got its job; of news none has
abbrev pub AreRouted : Bool → RaceState → List ShardWithJobs → List Job → RaceState
    → List ShardWithJobs → Type 0
AreRouted true race lines jobs new_race new_lines = AreGiven race lines jobs new_race new_lines
AreRouted false race lines jobs new_race new_lines = (new_race ≡ race) × (new_lines ≡ lines)
