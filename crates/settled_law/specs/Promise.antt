-- Settled delivery: from a cluster that is settled for a publication, each plain subscription and
-- each queue group gets it once.
use Rattle.std.specs.Prelude.{◌≡◌, ℕ, Bool, true, false, ◌&&◌, nat_eq, List, ◌∷◌, length, filter, Some, None, slice_get}
use Rattle.std.specs.Str.{bytes_eq}
use Rattle.list_laws.specs.Lists.{In, Each}
use Rattle.outbox.specs.declared.entries.Mode.{Mode}
use Rattle.outbox.specs.declared.entries.Mode.TheVariants.{Plain, Queue}
use Rattle.subj.specs.Matching.{subject_matches}
use Rattle.subj.specs.QueueNames.{is_named}
use Rattle.subj.specs.declared.identities.PubId.{PubId}
use Rattle.hub_core.specs.Publishing.{Publication, subject_of, next_id}
use Rattle.node_law.specs.Events.{Publish}
use Rattle.node_law.specs.PlacedOnce.{mode_name}
use Rattle.world_law.specs.Events.{Event, At}
use Rattle.world_law.specs.Headline.{IsCluster}
use Rattle.world_law.specs.State.{Cluster, World, Running, Life, LifeId, Placement, new_world, server_at, is_sub}
use Rattle.world_law.specs.Outcomes.{Outcome}
use Rattle.world_law.specs.Steps.{Run, Answers, Carried}
use Rattle.settled_law.specs.Delivered.{IsDone}
use Rattle.settled_law.specs.Orders.{IsOrder}
use Rattle.settled_law.specs.Settled.{IsSettled, IsRoomy}

-- ---- placements of a publication

abbrev pub is_id : PubId → PubId → Bool
is_id id other =
    bytes_eq other.origin id.origin && (nat_eq other.inc id.inc && nat_eq other.number id.number)

abbrev pub is_life : LifeId → LifeId → Bool
is_life life other =
    nat_eq other.node life.node && (nat_eq other.inc life.inc && is_sub life.sub other.sub)

abbrev pub is_plain_mode : Mode → Bool
is_plain_mode Plain = true
is_plain_mode (Queue name) = false

-- for this plain subscription
abbrev pub is_for_life : PubId → LifeId → Placement → Bool
is_for_life id life x = is_id id x.id && (is_life life x.life && is_plain_mode x.mode)

-- for a member of the group of this name
abbrev pub is_for_group : PubId → List ℕ → Placement → Bool
is_for_group id name x = is_id id x.id && is_named name (mode_name x.mode)

-- ---- the promise

-- no event is refused; each plain subscription that was open and matches gets one message of the
-- publication, and so does each queue name with an open member that matches, anywhere (NATS
-- documentation, "Queue Groups")
pub record IsDelivered (w : World) (id : PubId) (subject : List ℕ) (outcomes : List Outcome)
    (w' : World) : Type 0 where
  pub done : Each IsDone outcomes
  pub plain : (life : Life)
      → In life w.lives
      → life.closed ≡ None
      → life.key.queue ≡ None
      → subject_matches life.key.pattern subject ≡ true
      → length (filter (is_for_life id life.id) w'.placements) ≡ 1
  pub groups : (name : List ℕ) (life : Life)
      → In life w.lives
      → life.closed ≡ None
      → life.key.queue ≡ Some name
      → subject_matches life.key.pattern subject ≡ true
      → length (filter (is_for_group id name) w'.placements) ≡ 1

-- a publish with echo of a server that is up, for which the cluster is settled and has room, and an
-- order of work behind it
pub record IsRight (c : Cluster) (w : World) (n : ℕ) (a : Running) (p : Publication)
    (order : List Event) : Type 0 where
  pub up : slice_get w.nodes n ≡ Some (Some a)
  pub echo : p.publication.echo ≡ true
  pub settled : IsSettled c w (subject_of p)
  pub roomy : IsRoomy w p.publication.message
  pub order_is : IsOrder c w n a p order

-- of every run from there
abbrev pub Delivers : Cluster → World → Type 0
Delivers c w =
    (n : ℕ) (a : Running) (p : Publication) (order : List Event)
    → IsRight c w n a p order
    → (outcomes : List Outcome) (w' : World)
    → Answers c w (At n (Publish p) ∷ order) outcomes w'
    → IsDelivered w (next_id (server_at c n a.inc) a.node.hub) (subject_of p) outcomes w'

-- in each world that a run reaches
abbrev pub SettledDelivers : Type 0
SettledDelivers =
    (c : Cluster)
    → IsCluster c
    → (events : List Event) (w : World)
    → Run c (new_world c) events w
    → Delivers c w

-- and so where some run is carried along
abbrev pub CarriedDelivers : Type 0
CarriedDelivers = (c : Cluster) → IsCluster c → (w : World) → Carried c w → ∥ Delivers c w ∥₁
