-- All that steps put into outboxes, messages and lines alike, and what a step adds to it.
use Rattle.std.specs.Prelude.{◌≡◌, ℕ, suc, Bool, nat_eq, List, [], map, filter, Option, Some, None, slice_get}
use Rattle.outbox.specs.Views.{Written}
use Rattle.shard_core.specs.declared.calls.Placed.{Placed}
use Rattle.node_law.specs.Answers.{node_answer}
use Rattle.node_law.specs.Events.{NodeEvent}
use Rattle.world_law.specs.declared.faults.WorldFault.{WorldFault}
use Rattle.world_law.specs.Changes.{new_entries}
use Rattle.world_law.specs.Events.{Event, Start, Stop, Receive, OnInfo, OnConnect, At, event_for}
use Rattle.world_law.specs.Outcomes.{Outcome, Done}
use Rattle.world_law.specs.Play.{puts}
use Rattle.world_law.specs.Refusals.{world_refusal}
use Rattle.world_law.specs.State.{Cluster, Running, World, server_at}

-- an entry that was put: the step, the place and the incarnation of the server, the connection, and
-- what was put
pub record Entered : Type 0 where
  pub step : ℕ
  pub node : ℕ
  pub inc : ℕ
  pub conn : ℕ
  pub entry : Written

abbrev pub entered_for : ℕ → ℕ → ℕ → ℕ → Written → Entered
entered_for step node inc conn entry = record {
  step = step;
  node = node;
  inc = inc;
  conn = conn;
  entry = entry;
}

abbrev pub entered_by : ℕ → ℕ → ℕ → Placed → Entered
entered_by step node inc put = entered_for step node inc put.conn put.entry

abbrev pub is_for : ℕ → Entered → Bool
is_for conn entered = nat_eq entered.conn conn

-- What a server's step adds, where the cluster is in one world before it and in another after it:
-- of each connection just what stands new in its outbox, in its order; and all of it in the order
-- of putting, which is told by the event and by whether its claim was won.
pub record AreEntered (c : Cluster) (w : World) (n : ℕ) (event : Option NodeEvent)
    (outcome : Outcome) (w' : World) (added : List Entered) : Type 0 where
  pub e : NodeEvent
  pub is : event ≡ Some e
  pub a : Running
  pub a_is : slice_get w.nodes n ≡ Some (Some a)
  pub b : Running
  pub b_is : slice_get w'.nodes n ≡ Some (Some b)
  pub outboxes : (conn : ℕ)
      → filter (is_for conn) added
      ≡ map (entered_for (suc w.step) n a.inc conn) (new_entries a.node.lines b.node.lines conn)
  pub won : Bool
  pub told : outcome ≡ Done (node_answer (server_at c n a.inc) a.node e won)
  pub order :
      added ≡ map (entered_by (suc w.step) n a.inc) (puts (server_at c n a.inc) a.node e won)

-- a start and a stop add nothing
abbrev pub EntersBy : Cluster → World → Event → Outcome → World → List Entered → Type 0
EntersBy c w (Start n inc) outcome w' added = added ≡ []
EntersBy c w (Stop n) outcome w' added = added ≡ []
EntersBy c w (Receive n k) outcome w' added =
    AreEntered c w n (event_for w (Receive n k)) outcome w' added
EntersBy c w (OnInfo n session k) outcome w' added =
    AreEntered c w n (event_for w (OnInfo n session k)) outcome w' added
EntersBy c w (OnConnect n session k) outcome w' added =
    AreEntered c w n (event_for w (OnConnect n session k)) outcome w' added
EntersBy c w (At n event) outcome w' added =
    AreEntered c w n (event_for w (At n event)) outcome w' added

-- nor does an event that is refused
abbrev pub EntersUnless : Option WorldFault → Cluster → World → Event → Outcome → World
    → List Entered → Type 0
EntersUnless None c w e outcome w' added = EntersBy c w e outcome w' added
EntersUnless (Some why) c w e outcome w' added = added ≡ []

-- what a step of the cluster adds
abbrev pub Enters : Cluster → World → Event → Outcome → World → List Entered → Type 0
Enters c w e outcome w' added = EntersUnless (world_refusal c w e) c w e outcome w' added
