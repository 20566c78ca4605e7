-- What a run makes that no list of the world keeps: the jobs of servers, and the changes of their
-- interest.
use Rattle.std.specs.Prelude.{ℕ, Bool, nat_eq, ◌&&◌, List, [], ◌∷◌, ◌++◌, map, filter, Option, Some, None, slice_get}
use Rattle.interest.specs.declared.changes.Change.{Change}
use Rattle.subj.specs.declared.jobs.Job.{Job}
use Rattle.node_law.specs.AsLaw.{jobs_by, changes_by}
use Rattle.node_law.specs.Events.{NodeEvent}
use Rattle.world_law.specs.declared.faults.WorldFault.{WorldFault}
use Rattle.world_law.specs.Events.{Event, Start, Stop, Receive, OnInfo, OnConnect, At, event_for}
use Rattle.world_law.specs.Refusals.{world_refusal}
use Rattle.world_law.specs.State.{Cluster, Running, World, server_at}
use Rattle.world_law.specs.Steps.{Run}

-- ---- the events of a run, each with the world before it

pub record Passed : Type 0 where
  pub before : World
  pub event : Event

abbrev pub passed_events : (c : Cluster) (w : World) (events : List Event) (w' : World)
    → Run c w events w'
    → List Passed
passed_events c w [] w' run = []
passed_events c w (e ∷ es) w' run =
    record { before = w; event = e } ∷ passed_events c run.0 es w' run.3

-- ---- which server makes a step of its own in an event, and what it is asked there

pub record Acting : Type 0 where
  pub node : ℕ
  pub running : Running
  pub asked : NodeEvent

abbrev pub acting_at : ℕ → Option (Option Running) → Option NodeEvent → Option Acting
acting_at n None event = None
acting_at n (Some None) event = None
acting_at n (Some (Some a)) None = None
acting_at n (Some (Some a)) (Some e) = Some (record { node = n; running = a; asked = e })

abbrev pub acting_in : World → Event → Option Acting
acting_in w (Start n inc) = None
acting_in w (Stop n) = None
acting_in w (Receive n k) = acting_at n (slice_get w.nodes n) (event_for w (Receive n k))
acting_in w (OnInfo n session k) =
    acting_at n (slice_get w.nodes n) (event_for w (OnInfo n session k))
acting_in w (OnConnect n session k) =
    acting_at n (slice_get w.nodes n) (event_for w (OnConnect n session k))
acting_in w (At n event) = acting_at n (slice_get w.nodes n) (event_for w (At n event))

-- none does, where the event is refused
abbrev pub acting_if : World → Event → Option WorldFault → Option Acting
acting_if w e None = acting_in w e
acting_if w e (Some why) = None

abbrev pub acting_server : Cluster → World → Event → Option Acting
acting_server c w e = acting_if w e (world_refusal c w e)

-- ---- jobs: of a publish of the server's own, or of a message that it takes

-- a job of one incarnation of the server at this place
pub record MadeJob : Type 0 where
  pub node : ℕ
  pub inc : ℕ
  pub job : Job

abbrev pub jobs_of : Cluster → Option Acting → List MadeJob
jobs_of c None = []
jobs_of c (Some x) =
    map (λ job. record { node = x.node; inc = x.running.inc; job = job })
    (jobs_by (server_at c x.node x.running.inc) x.running.node x.asked)

abbrev pub jobs_made : Cluster → List Passed → List MadeJob
jobs_made c [] = []
jobs_made c (p ∷ ps) = jobs_of c (acting_server c p.before p.event) ++ jobs_made c ps

-- ---- changes of interest

pub record MadeChange : Type 0 where
  pub node : ℕ
  pub inc : ℕ
  pub change : Change

abbrev pub changes_of : Option Acting → List MadeChange
changes_of None = []
changes_of (Some x) =
    map (λ change. record { node = x.node; inc = x.running.inc; change = change })
    (changes_by x.running.node x.asked)

abbrev pub changes_made : Cluster → List Passed → List MadeChange
changes_made c [] = []
changes_made c (p ∷ ps) = changes_of (acting_server c p.before p.event) ++ changes_made c ps

-- those of one incarnation, in order

abbrev pub is_change_of : ℕ → ℕ → MadeChange → Bool
is_change_of n inc made = nat_eq made.node n && nat_eq made.inc inc

abbrev pub changes_in_life : ℕ → ℕ → List MadeChange → List Change
changes_in_life n inc made = map (λ m. m.change) (filter (is_change_of n inc) made)
