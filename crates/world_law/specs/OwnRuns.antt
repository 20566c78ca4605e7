-- Each server that is up came to its state by a run of its own, so that what holds of all runs of a
-- server holds of it.
use Rattle.std.specs.Prelude.{List}
use Rattle.list_laws.specs.Lists.{Each}
use Rattle.subj.specs.Servers.{ServerIdentity, IsListed}
use Rattle.node_law.specs.EachShard.{ShardsAreHeld}
use Rattle.node_law.specs.HubsSound.{IsSpelt, HubIsSound}
use Rattle.node_law.specs.Promises.{KeepsPromises}
use Rattle.node_law.specs.Runs.{Done, Ran}
use Rattle.node_law.specs.State.{Node}
use Rattle.world_law.specs.Events.{Event}
use Rattle.world_law.specs.Headline.{IsCluster, EachUp}
use Rattle.world_law.specs.State.{Cluster, World, new_world, server_at}
use Rattle.world_law.specs.Steps.{Run}

-- from its start in this incarnation these steps led the server here; each INFO and CONNECT that it
-- was handed can be spelt
pub record HasRun (server : ServerIdentity) (a : Node) : Type 0 where
  pub listed : IsListed server
  pub steps : List Done
  pub ran : Ran server steps a
  pub spelt : Each (λ d. IsSpelt d.event) steps

-- And what holds of it: all that one server promises of what it did; its hub is sound; and each of
-- its shards keeps what shards keep.
pub record KeepsItsLaws (server : ServerIdentity) (a : Node) : Type 0 where
  pub run : HasRun server a
  pub promises : KeepsPromises server run.steps a
  pub hub : HubIsSound server a
  pub shards : ShardsAreHeld server a

abbrev pub EachHasRun : Type 0
EachHasRun =
    (c : Cluster)
    → IsCluster c
    → (events : List Event) (w : World)
    → Run c (new_world c) events w
    → EachUp (λ n a. HasRun (server_at c n a.inc) a.node) w

abbrev pub EachKeepsItsLaws : Type 0
EachKeepsItsLaws =
    (c : Cluster)
    → IsCluster c
    → (events : List Event) (w : World)
    → Run c (new_world c) events w
    → EachUp (λ n a. KeepsItsLaws (server_at c n a.inc) a.node) w
