-- What is owed of a publication in a cluster is an order of work.
use Rattle.std.proofs.Common.{◌≡◌, ℕ, suc, ◌<◌, cond, List, [], length, Some, None, sym, ap, ◌∙◌, subst}
use Rattle.std.specs.Prelude.{slice_get}
use Rattle.list_laws.proofs.Tests.{and_true}
use Rattle.hub_core.specs.Publishing.{Publication, subject_of}
use Rattle.hub_core.specs.declared.publishing.PublishPlan.{PublishPlan}
use Rattle.world_law.specs.Events.{Event}
use Rattle.world_law.specs.State.{Cluster, World}
use Rattle.settled_law.specs.Orders.{IsOrder, SomeOrderIsRight}
use Rattle.settled_law.specs.Tests.{settled_for, room_for}
use Rattle.cluster_world.specs.Planned.{IsPlannedBy, TakesWhereSettled}
use Rattle.cluster_world.specs.Value.{Shown}
use Rattle.mesh_script.specs.Owed.{OrdersAll, work_at, work_unless, work_owed, delivery, IsOwedOrder}

pub none_owed : (v : Shown) (n : ℕ) (p : Publication) → IsPlannedBy v n p None → [] ≡ work_owed v.cluster v.world n p
none_owed v n p planned =
    ap (λ o. work_unless o (work_at v.cluster v.world n p (slice_get v.world.nodes n))) (sym planned.1)

pub plan_owed : (v : Shown) (n : ℕ) (p : Publication) (plan : PublishPlan) (names : List (List ℕ)) (shards first : ℕ)
    (order : List Event)
    → IsPlannedBy v n p (Some plan)
    → names ≡ v.cluster.names
    → shards ≡ v.cluster.shards
    → 0 < v.cluster.shards
    → first ≡ suc (length v.world.sent)
    → OrdersAll n names shards first plan order
    → order ≡ work_owed v.cluster v.world n p
plan_owed v n p plan names shards first order planned names_are shards_are some first_is all =
    (all v.cluster v.world planned.0 p (record {
      names_are = names_are;
      shards_are = shards_are;
      some = some;
      first_is = first_is;
      plan_is = planned.3;
    })).same
    ∙ ap (work_at v.cluster v.world n p) (sym planned.1)
    ∙ ap (λ o. work_unless o (work_at v.cluster v.world n p (slice_get v.world.nodes n))) (sym planned.2)

pub owed_is_right : SomeOrderIsRight
    → (c : Cluster) (w : World)
    → TakesWhereSettled c w
    → 0 < c.shards
    → (n : ℕ) (p : Publication) (order : List Event)
    → order ≡ delivery c w n p
    → IsOwedOrder c w n p order
owed_is_right right c w takes some n p order is a at ready =
    let both = and_true (settled_for c w (subject_of p)) (room_for w p.publication.message) ready in
    let free = takes n a p at both.0 both.1 in
    subst (IsOrder c w n a p)
    (sym (is ∙ ap (λ b. cond b (work_owed c w n p) []) ready
    ∙ ap (λ o. work_unless o (work_at c w n p (slice_get w.nodes n))) free ∙ ap (work_at c w n p) at))
    (right c w n a p some)
