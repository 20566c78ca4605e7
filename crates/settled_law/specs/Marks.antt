-- What servers have taken of one another.
use Rattle.std.specs.Prelude.{◌≡◌, ◌≢◌, ℕ, ◌≤◌, List, Some, slice_get}
use Rattle.hub_core.specs.State.{Peer}
use Rattle.world_law.specs.Events.{Event}
use Rattle.world_law.specs.Headline.{IsCluster}
use Rattle.world_law.specs.State.{Cluster, World, Running, new_world}
use Rattle.world_law.specs.Steps.{Run}

-- no server has taken a publication of another one that this has not made
pub record MarksAreReached (w : World) : Type 0 where
  pub reached : (m q : ℕ) (a b : Running) (peer : Peer)
      → m ≢ q
      → slice_get w.nodes m ≡ Some (Some a)
      → slice_get w.nodes q ≡ Some (Some b)
      → slice_get a.node.hub.peers q ≡ Some peer
      → peer.seen ≡ b.inc
      → peer.mark ≤ b.node.hub.published

-- so it is in each world that a run reaches
abbrev pub MarksStayReached : Type 0
MarksStayReached =
    (c : Cluster)
    → IsCluster c
    → (events : List Event) (w : World)
    → Run c (new_world c) events w
    → MarksAreReached w
