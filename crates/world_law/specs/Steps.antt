-- A cluster's step with its outcome, and its runs.
use Rattle.std.specs.Prelude.{◌≡◌, ℕ, suc, ◌<◌, Bool, List, [], ◌∷◌, ◌++◌, map, set, Option, Some, None, slice_get}
use Rattle.claim_race.specs.Race.{RaceState}
use Rattle.node_law.specs.Answers.{Nothing, node_answer}
use Rattle.node_law.specs.State.{Node, new_node}
use Rattle.node_law.specs.Events.{NodeEvent}
use Rattle.node_law.specs.Steps.{NodeStep, node_frames}
use Rattle.world_law.specs.declared.faults.WorldFault.{WorldFault}
use Rattle.world_law.specs.State.{Cluster, Placement, Running, World, new_world, server_at}
use Rattle.world_law.specs.Events.{Event, Start, Stop, Receive, OnInfo, OnConnect, At, event_for}
use Rattle.world_law.specs.Outcomes.{Outcome, Refused, Done}
use Rattle.world_law.specs.Refusals.{world_refusal}
use Rattle.world_law.specs.Changes.{publications_of, lives_of, looked_at, AreGained}

abbrev pub set_node : World → ℕ → Option Running → List (Option Running)
set_node w n node = set w.nodes n node

-- the world after a step of the server at place n, which becomes b and puts these into outboxes
abbrev pub world_after_step : Cluster → World → ℕ → Running → NodeEvent → Node → List Placement
    → World
world_after_step c w n a e b gained = record {
  step = suc w.step;
  nodes = set_node w n (Some (record { inc = a.inc; node = b }));
  started = w.started;
  publications = w.publications ++ publications_of (server_at c n a.inc) (suc w.step) a.node e;
  lives =
      map (looked_at (suc w.step) (set_node w n (Some (record { inc = a.inc; node = b })))) w.lives
      ++ lives_of (server_at c n a.inc) (suc w.step) a.node e;
  placements = w.placements ++ gained;
  sent = w.sent ++ node_frames (server_at c n a.inc) a.node e;
}

-- a server makes a step and answers: the race says whether a claim is won
pub record Acts (c : Cluster) (w : World) (n : ℕ) (event : Option NodeEvent) (outcome : Outcome)
    (w' : World) : Type 0 where
  pub e : NodeEvent
  pub is : event ≡ Some e
  pub a : Running
  pub a_is : slice_get w.nodes n ≡ Some (Some a)
  pub won : Bool
  pub race : RaceState
  pub b : Node
  pub steps : NodeStep (server_at c n a.inc) a.node e won race b
  pub told : outcome ≡ Done (node_answer (server_at c n a.inc) a.node e won)
  pub gained : List Placement
  pub are_gained : AreGained (server_at c n a.inc) (suc w.step) a.node.lines b.lines gained
  pub after : w' ≡ world_after_step c w n a e b gained

-- the world after a server starts, which knows nothing, and after one stops, whose subscriptions
-- close with it

abbrev pub world_after_start : Cluster → World → ℕ → ℕ → World
world_after_start c w n inc = record w {
  step = suc w.step;
  nodes = set_node w n (Some (record { inc = inc; node = new_node (server_at c n inc) }));
  started = w.started ++ (n, inc) ∷ [];
}

abbrev pub world_after_stop : World → ℕ → World
world_after_stop w n = record w {
  step = suc w.step;
  nodes = set_node w n None;
  lives = map (looked_at (suc w.step) (set_node w n None)) w.lives;
}

-- a server starts; an incarnation is at least 1 (profile)
pub record Starts (c : Cluster) (w : World) (n inc : ℕ) (outcome : Outcome) (w' : World) :
    Type 0 where
  pub some : 0 < inc
  pub down : slice_get w.nodes n ≡ Some None
  pub told : outcome ≡ Done Nothing
  pub after : w' ≡ world_after_start c w n inc

-- a server stops
pub record Stops (w : World) (n : ℕ) (outcome : Outcome) (w' : World) : Type 0 where
  pub a : Running
  pub a_is : slice_get w.nodes n ≡ Some (Some a)
  pub told : outcome ≡ Done Nothing
  pub after : w' ≡ world_after_stop w n

abbrev pub Happens : Cluster → World → Event → Outcome → World → Type 0
Happens c w (Start n inc) outcome w' = Starts c w n inc outcome w'
Happens c w (Stop n) outcome w' = Stops w n outcome w'
Happens c w (Receive n k) outcome w' = Acts c w n (event_for w (Receive n k)) outcome w'
Happens c w (OnInfo n session k) outcome w' =
    Acts c w n (event_for w (OnInfo n session k)) outcome w'
Happens c w (OnConnect n session k) outcome w' =
    Acts c w n (event_for w (OnConnect n session k)) outcome w'
Happens c w (At n event) outcome w' = Acts c w n (event_for w (At n event)) outcome w'

-- an event is refused just where it has a cause, with the first one, and then only the step is
-- counted
abbrev pub Decided : Cluster → World → Event → Option WorldFault → Outcome → World → Type 0
Decided c w e None outcome w' = Happens c w e outcome w'
Decided c w e (Some why) outcome w' =
    (outcome ≡ Refused why) × (w' ≡ record w { step = suc w.step })

abbrev pub WorldStep : Cluster → World → Event → Outcome → World → Type 0
WorldStep c w e outcome w' = Decided c w e (world_refusal c w e) outcome w'

abbrev pub Run : Cluster → World → List Event → World → Type 0
Run c w [] w' = w' ≡ w
Run c w (e ∷ es) w' =
    (mid : World) × (outcome : Outcome) × WorldStep c w e outcome mid × Run c mid es w'

-- what was answered, event by event
abbrev pub outcomes_of : (c : Cluster) (w : World) (events : List Event) (w' : World)
    → Run c w events w'
    → List Outcome
outcomes_of c w [] w' run = []
outcomes_of c w (e ∷ es) w' run = run.1 ∷ outcomes_of c run.0 es w' run.3

-- a run with these outcomes
abbrev pub Answers : Cluster → World → List Event → List Outcome → World → Type 0
Answers c w events outcomes w' =
    (run : Run c w events w') × (outcomes_of c w events w' run ≡ outcomes)

-- ---- a value can carry that some run ends in it, and with that all that holds of every run

abbrev pub Carried : Cluster → World → Type 0
Carried c w = ∥ ((events : List Event) × Run c (new_world c) events w) ∥₁
