use Rattle.std.proofs.Common.{subst, arith}
use Rattle.cluster_world.specs.Planned.{TakesWhereSettled}
use Rattle.cluster_world.specs.Value.{Shown}
use Rattle.cluster_world.proofs.Clusters.Planning.{takes_where_settled}
use Rattle.cluster_world.proofs.world.World.takes_where_settled.Goals as goal

pub returns : goal.returns
returns g c =
    let shards = c.shards-shards.ensures in
    subst (λ (s : Shown). TakesWhereSettled s.cluster s.world) c.self.view_is
    (takes_where_settled c.some_order_is_right.ensures c.settled_worlds_deliver.ensures c.each_event_goes_on.ensures
    c.tests_are_exact.ensures _ c.self.invariant.apart (omega (arith, shards.same, shards.some)) _
    c.self.invariant.carried)
