-- The exact cluster as a program on lists: with a race that forgets nothing, each event has one
-- outcome and one next world.
use Rattle.std.specs.Prelude.{◌≡◌, ℕ, suc, ◌+◌, ◌-◌, ◌<◌, Bool, true, false, List, [], ◌∷◌, ◌++◌, slice_set, Option, Some, None, is_none, slice_get}
use Rattle.claim_race.specs.Race.{RaceState, Win, winner}
use Rattle.sub_table.specs.declared.Subscription.{Subscription}
use Rattle.subj.specs.declared.jobs.Job.{Job}
use Rattle.subj.specs.Servers.{ServerIdentity}
use Rattle.route_values.specs.declared.bodies.Body.{Body}
use Rattle.route_values.specs.declared.bodies.Body.TheVariants.{Plus, Minus, Snapshot, Msg}
use Rattle.shard_core.specs.declared.calls.Placed.{Placed}
use Rattle.shard_core.specs.ShardEvents as of_shard
use Rattle.shard_core.specs.Owed.{candidate_of}
use Rattle.shard_core.specs.Puts.{put_by}
use Rattle.node_law.specs.State.{ShardWithJobs, Node}
use Rattle.node_law.specs.Answers.{Answer, Nothing, node_answer}
use Rattle.node_law.specs.declared.events.ShardWork.{ShardWork}
use Rattle.node_law.specs.declared.events.ShardWork.TheVariants.{Attach, Begin, Claim, End, DropJob, DrainShard}
use Rattle.node_law.specs.Events.{OfConn, AtShard, Publish, Collect, Drain, Dial, Accept, CutSession, TakeFrames, NodeEvent, Own, Receive, OnInfo, OnConnect}
use Rattle.node_law.specs.Steps.{NodeStep, conn_line, shard_line, conn_event, work_event, node_after}
use Rattle.world_law.specs.declared.faults.WorldFault.{WorldFault}
use Rattle.world_law.specs.State.{Cluster, Placement, Running, World, server_at}
use Rattle.world_law.specs.Events.{Event, Start, Stop, At, event_for}
use Rattle.world_law.specs.Events as of_world
use Rattle.world_law.specs.Outcomes.{Outcome, Refused, Done}
use Rattle.world_law.specs.Refusals.{world_refusal}
use Rattle.world_law.specs.Changes.{placement_of, AreGained}
use Rattle.world_law.specs.Steps.{world_after_step, world_after_start, world_after_stop}

-- ---- a race that forgets nothing

abbrev pub issued_next : RaceState → RaceState
issued_next race = record race { issued = race.issued + 1 }

abbrev pub with_win : Bool → Win → List Win → List Win
with_win true win won = win ∷ won
with_win false win won = won

-- won just where nobody had won the pair
abbrev pub is_free : RaceState → ℕ → ℕ → Bool
is_free race turn index = is_none (winner race turn index)

abbrev pub claimed_next : RaceState → ℕ → ℕ → ℕ → RaceState
claimed_next race shard turn index = record race {
  next = slice_set race.next (shard - 1) (index + 1);
  won =
      with_win (is_free race turn index) (record { turn = turn; index = index; shard = shard })
      race.won;
}

abbrev pub finished_next : RaceState → ℕ → ℕ → RaceState
finished_next race shard turn = record race {
  finished = slice_set race.finished (shard - 1) turn;
  next = slice_set race.next (shard - 1) 0;
}

-- ---- what it says of each event

abbrev pub wins : RaceState → ℕ → Option Job → Option Subscription → Bool
wins race index None sub = false
wins race index (Some job) None = false
wins race index (Some job) (Some sub) = is_free race job.turn index

abbrev pub race_after_claim : RaceState → ℕ → ℕ → Option Job → Option Subscription → RaceState
race_after_claim race shard index None sub = race
race_after_claim race shard index (Some job) None = race
race_after_claim race shard index (Some job) (Some sub) = claimed_next race shard job.turn index

abbrev pub work_wins : RaceState → ShardWork → Option ShardWithJobs → Bool
work_wins race work None = false
work_wins race Attach (Some line) = false
work_wins race Begin (Some line) = false
work_wins race (Claim index) (Some line) =
    wins race index line.shard.hand (candidate_of line.shard line.shard.hand index)
work_wins race End (Some line) = false
work_wins race DrainShard (Some line) = false
work_wins race DropJob (Some line) = false

abbrev pub race_after_work : RaceState → ℕ → ShardWork → Option ShardWithJobs → RaceState
race_after_work race shard work None = race
race_after_work race shard Attach (Some line) = race
race_after_work race shard Begin (Some line) = race
race_after_work race shard (Claim index) (Some line) =
    race_after_claim race shard index line.shard.hand
    (candidate_of line.shard line.shard.hand index)
race_after_work race shard End (Some line) = finished_next race shard (line.shard.finished + 1)
race_after_work race shard DrainShard (Some line) = race
race_after_work race shard DropJob (Some line) = finished_next race shard (line.shard.finished + 1)

abbrev pub node_wins : Node → NodeEvent → Bool
node_wins a (Own (OfConn conn event)) = false
node_wins a (Own (AtShard shard work)) = work_wins a.race work (shard_line a shard)
node_wins a (Own (Publish p)) = false
node_wins a (Own (Collect shard)) = false
node_wins a (Own Drain) = false
node_wins a (Own (Dial q)) = false
node_wins a (Own Accept) = false
node_wins a (Own (CutSession session)) = false
node_wins a (Own (TakeFrames q count)) = false
node_wins a (Receive frame) = false
node_wins a (OnInfo session info) = false
node_wins a (OnConnect session connect) = false

abbrev pub race_after_body : RaceState → Body → RaceState
race_after_body race (Plus weighted) = race
race_after_body race (Minus key) = race
race_after_body race (Snapshot keys) = race
race_after_body race (Msg content queues) = issued_next race

abbrev pub node_race : Node → NodeEvent → RaceState
node_race a (Own (OfConn conn event)) = a.race
node_race a (Own (AtShard shard work)) = race_after_work a.race shard work (shard_line a shard)
node_race a (Own (Publish p)) = issued_next a.race
node_race a (Own (Collect shard)) = a.race
node_race a (Own Drain) = a.race
node_race a (Own (Dial q)) = a.race
node_race a (Own Accept) = a.race
node_race a (Own (CutSession session)) = a.race
node_race a (Own (TakeFrames q count)) = a.race
node_race a (Receive frame) = race_after_body a.race frame.body
node_race a (OnInfo session info) = a.race
node_race a (OnConnect session connect) = a.race

-- ---- what a step puts into outboxes, in the order of putting

abbrev pub put_if : ShardWithJobs → Option of_shard.Event → List Placed
put_if line None = []
put_if line (Some event) = put_by line.shard event

abbrev pub put_at : Option ShardWithJobs → (ShardWithJobs → Option of_shard.Event) → List Placed
put_at None event = []
put_at (Some line) event = put_if line (event line)

abbrev pub puts : ServerIdentity → Node → NodeEvent → Bool → List Placed
puts server a (Own (OfConn conn event)) won =
    put_at (conn_line server a conn) (λ line. Some (conn_event conn event))
puts server a (Own (AtShard shard work)) won = put_at (shard_line a shard) (work_event work won)
puts server a (Own (Publish p)) won = []
puts server a (Own (Collect shard)) won = []
puts server a (Own Drain) won = []
puts server a (Own (Dial q)) won = []
puts server a (Own Accept) won = []
puts server a (Own (CutSession session)) won = []
puts server a (Own (TakeFrames q count)) won = []
puts server a (Receive frame) won = []
puts server a (OnInfo session info) won = []
puts server a (OnConnect session connect) won = []

abbrev pub placements_put : ServerIdentity → ℕ → List Placed → List Placement
placements_put server now [] = []
placements_put server now (put ∷ puts) =
    placement_of server now put.conn put.headers put.entry.bytes put.entry.tag
    ++ placements_put server now puts

-- they are what the step adds to the placements
abbrev pub PutsArePlaced : Type 0
PutsArePlaced =
    (server : ServerIdentity) (now : ℕ) (a : Node) (e : NodeEvent) (won : Bool) (race : RaceState)
    (b : Node)
    → NodeStep server a e won race b
    → AreGained server now a.lines b.lines (placements_put server now (puts server a e won))

-- ---- the next world

abbrev pub next_node : Cluster → ℕ → Running → NodeEvent → Node
next_node c n a e =
    node_after (server_at c n a.inc) a.node e (node_wins a.node e) (node_race a.node e)

abbrev pub next_act : Cluster → World → ℕ → Option (Option Running) → Option NodeEvent → World
next_act c w n None event = w
next_act c w n (Some None) event = w
next_act c w n (Some (Some a)) None = w
next_act c w n (Some (Some a)) (Some e) =
    world_after_step c w n a e (next_node c n a e)
    (placements_put (server_at c n a.inc) (suc w.step)
    (puts (server_at c n a.inc) a.node e (node_wins a.node e)))

abbrev pub world_after_event : Cluster → World → Event → World
world_after_event c w (Start n inc) = world_after_start c w n inc
world_after_event c w (Stop n) = world_after_stop w n
world_after_event c w (of_world.Receive n k) =
    next_act c w n (slice_get w.nodes n) (event_for w (of_world.Receive n k))
world_after_event c w (of_world.OnInfo n session k) =
    next_act c w n (slice_get w.nodes n) (event_for w (of_world.OnInfo n session k))
world_after_event c w (of_world.OnConnect n session k) =
    next_act c w n (slice_get w.nodes n) (event_for w (of_world.OnConnect n session k))
world_after_event c w (At n event) = next_act c w n (slice_get w.nodes n) (event_for w (At n event))

abbrev pub next_of : Cluster → World → Event → Option WorldFault → World
next_of c w e None = world_after_event c w e
next_of c w e (Some why) = record w { step = suc w.step }

abbrev pub next : Cluster → World → Event → World
next c w e = next_of c w e (world_refusal c w e)

abbrev pub world_after_events : Cluster → World → List Event → World
world_after_events c w [] = w
world_after_events c w (e ∷ es) = world_after_events c (next c w e) es

-- ---- and what is answered

-- what the server answers that it is for
abbrev pub slot_answer : Cluster → ℕ → Option (Option Running) → Option NodeEvent → Answer
slot_answer c n None event = Nothing
slot_answer c n (Some None) event = Nothing
slot_answer c n (Some (Some a)) None = Nothing
slot_answer c n (Some (Some a)) (Some e) =
    node_answer (server_at c n a.inc) a.node e (node_wins a.node e)

abbrev pub answer_of : Cluster → World → Event → Answer
answer_of c w (Start n inc) = Nothing
answer_of c w (Stop n) = Nothing
answer_of c w (of_world.Receive n k) =
    slot_answer c n (slice_get w.nodes n) (event_for w (of_world.Receive n k))
answer_of c w (of_world.OnInfo n session k) =
    slot_answer c n (slice_get w.nodes n) (event_for w (of_world.OnInfo n session k))
answer_of c w (of_world.OnConnect n session k) =
    slot_answer c n (slice_get w.nodes n) (event_for w (of_world.OnConnect n session k))
answer_of c w (At n event) = slot_answer c n (slice_get w.nodes n) (event_for w (At n event))

abbrev pub outcome_of : Cluster → World → Event → Option WorldFault → Outcome
outcome_of c w e None = Done (answer_of c w e)
outcome_of c w e (Some why) = Refused why

abbrev pub outcome : Cluster → World → Event → Outcome
outcome c w e = outcome_of c w e (world_refusal c w e)

abbrev pub outcomes_of_events : Cluster → World → List Event → List Outcome
outcomes_of_events c w [] = []
outcomes_of_events c w (e ∷ es) = outcome c w e ∷ outcomes_of_events c (next c w e) es

-- ---- where that is a step: in every world where

-- nothing is won in a turn that is not issued
abbrev pub NoneAhead : RaceState → Type 0
NoneAhead race = (turn index : ℕ) → race.issued < turn → winner race turn index ≡ None
