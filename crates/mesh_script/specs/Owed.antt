-- The work that is owed of a publication, in an order of its own: server by server, and shard by
-- shard.
use Rattle.std.specs.Prelude.{◌≡◌, ℕ, zero, suc, ◌<◌, Bool, true, ◌&&◌, nat_eq, List, [], ◌++◌, length, map, Option, Some, None, slice_get, if◌then◌else◌}
use Rattle.std.specs.declared.vec.Vec.{Vec}
use Rattle.hub_core.specs.Chosen.{IsPlanOf}
use Rattle.hub_core.specs.Publishing.{Publication}
use Rattle.subj.specs.Messages.{Content}
use Rattle.hub_core.specs.declared.publishing.PublishPlan.{PublishPlan}
use Rattle.route_values.specs.Frames.{Frame}
use Rattle.node_law.specs.Events.{Publish}
use Rattle.world_law.specs.declared.faults.WorldFault.{WorldFault}
use Rattle.world_law.specs.Events.{Event, At}
use Rattle.world_law.specs.Refusals.{world_refusal}
use Rattle.world_law.specs.State.{Cluster, World, Running, server_at}
use Rattle.settled_law.specs.Orders.{works_from, frames_order, whole_order, IsOrder}
use Rattle.settled_law.specs.Tests.{settled_for, room_for}
use Rattle.cluster_world.specs.declared.events.Event as code
use Rattle.cluster_world.specs.InCode.{event_of}

abbrev pub events_in : {A : Type 0} → Vec code.Event A → List Event
events_in events = map event_of events.items

-- ---- by so many queue names of the publication's own server, and by these frames, the first of
-- which has this number

abbrev pub planned_node : List (List ℕ) → ℕ → ℕ → ℕ → ℕ → List Frame → ℕ → List Event
planned_node names shards n own first frames m =
    if nat_eq m n then works_from m 0 shards own else frames_order names m shards first frames

-- of so many servers, from the one at place m on
abbrev pub planned_order : List (List ℕ) → ℕ → ℕ → ℕ → ℕ → List Frame → ℕ → ℕ → List Event
planned_order names shards n own first frames m zero = []
planned_order names shards n own first frames m (suc count) =
    planned_node names shards n own first frames m
    ++ planned_order names shards n own first frames (suc m) count

-- ---- that is what is owed

-- these are the cluster, the number of the next frame that is sent, and the plan of this
-- publication at this server
pub record IsPlannedIn (c : Cluster) (w : World) (n : ℕ) (a : Running) (p : Publication)
    (names : List (List ℕ)) (shards first : ℕ) (plan : PublishPlan) : Type 0 where
  pub names_are : names ≡ c.names
  pub shards_are : shards ≡ c.shards
  pub some : 0 < c.shards
  pub first_is : first ≡ suc (length w.sent)
  pub plan_is : IsPlanOf (server_at c n a.inc) a.node.hub p plan.job plan.frames.items

-- the events are the whole order of the publication, which is an order of work
pub record IsWholeOrder (c : Cluster) (w : World) (n : ℕ) (a : Running) (p : Publication)
    (order : List Event) : Type 0 where
  pub same : order ≡ whole_order c w n a p
  pub right : IsOrder c w n a p order

-- whichever cluster, world and publication it is the plan of
abbrev pub OrdersAll : ℕ → List (List ℕ) → ℕ → ℕ → PublishPlan → List Event → Type 0
OrdersAll n names shards first plan order =
    (c : Cluster) (w : World) (a : Running) (p : Publication)
    → IsPlannedIn c w n a p names shards first plan
    → IsWholeOrder c w n a p order

-- ---- of a cluster

-- nothing where no server is up at the place
abbrev pub work_at : Cluster → World → ℕ → Publication → Option (Option Running) → List Event
work_at c w n p None = []
work_at c w n p (Some None) = []
work_at c w n p (Some (Some a)) = whole_order c w n a p

-- and nothing where the publish is refused
abbrev pub work_unless : Option WorldFault → List Event → List Event
work_unless None events = events
work_unless (Some why) events = []

abbrev pub work_owed : Cluster → World → ℕ → Publication → List Event
work_owed c w n p =
    work_unless (world_refusal c w (At n (Publish p))) (work_at c w n p (slice_get w.nodes n))

-- the cluster is settled for a publication of this message, and has room for it
abbrev pub is_ready : Cluster → World → Content → Bool
is_ready c w message = settled_for c w message.subject && room_for w message

-- the work behind a publish that is delivered
abbrev pub delivery : Cluster → World → ℕ → Publication → List Event
delivery c w n p = if is_ready c w p.publication.message then work_owed c w n p else []

-- of a server that is up, where the cluster is ready, it is an order of work
abbrev pub IsOwedOrder : Cluster → World → ℕ → Publication → List Event → Type 0
IsOwedOrder c w n p order =
    (a : Running)
    → slice_get w.nodes n ≡ Some (Some a)
    → is_ready c w p.publication.message ≡ true
    → IsOrder c w n a p order
