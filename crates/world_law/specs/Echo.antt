-- Who publishes without echo gets the message on none of its own subscriptions (NATS documentation,
-- "Client Protocol": `echo` of `CONNECT`).
use Rattle.std.specs.Prelude.{◌≡◌, ◌≢◌, false, List, Some, slice_get}
use Rattle.list_laws.specs.Lists.{Each}
use Rattle.world_law.specs.Events.{Event}
use Rattle.world_law.specs.Headline.{IsCluster}
use Rattle.world_law.specs.State.{Cluster, Publication, Placement, World, new_world}
use Rattle.world_law.specs.Steps.{Run}

-- a message of a publication without echo, at the server that took it, is for another connection
-- than the one that published
abbrev pub SkipsPublisher : Cluster → Publication → Placement → Type 0
SkipsPublisher c s p =
    s.id ≡ p.id
    → slice_get c.names p.life.node ≡ Some s.id.origin
    → s.echo ≡ false
    → p.conn ≢ s.publisher

abbrev pub EchoIsKept : Cluster → World → Type 0
EchoIsKept c w = Each (λ s. Each (SkipsPublisher c s) w.placements) w.publications

abbrev pub EchoesAreKept : Type 0
EchoesAreKept =
    (c : Cluster)
    → IsCluster c
    → (events : List Event) (w : World)
    → Run c (new_world c) events w
    → EchoIsKept c w
