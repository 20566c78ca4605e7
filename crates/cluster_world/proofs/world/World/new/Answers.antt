use Rattle.std.proofs.Common.{◌≡◌, ◌∙◌, true, sym, ap, subst, length}
use Rattle.subj.specs.Servers.{is_server}
use Rattle.world_law.specs.State.{server_at}
use Rattle.cluster_world.specs.Value.{listed_of, cluster_of, value_of_parts}
use Rattle.cluster_world.proofs.Clusters.Starting.{first_shown, first_kept, made_server, new_made}
use Rattle.cluster_world.proofs.world.World.new.Goals as goal

pub invariant_of-result : goal.invariant_of-result
invariant_of-result g c =
    let s = c.in-Some-new.server in
    let nodes = c.in_ok-nodes.nodes in
    let l = listed_of c.new-4.result in
    let m = made_server (record { names = c.args.names.items; me = 0; inc = c.in-Some.inc; shards = c.args.shards }) s
    (sym c.in-Some-new.is ∙ c.new-2.ensures) in
    let count = length c.names.result.now in
    let size = ap length c.names.ensures in
    first_kept s count nodes (value_of_parts s 0 nodes l) c.me-me.ensures.server.known
    (subst (λ t. is_server (server_at (cluster_of t) 0 1) ≡ true) (sym m.1) m.0) size c.in_ok-nodes.ensures
    (first_shown s count nodes l size c.in_ok-nodes.ensures c.new-4.ensures)
    (c.new_worlds_are_carried.ensures (cluster_of s))

pub returns : goal.returns
returns g c =
    let s = c.in-Some-new.server in
    let nodes = c.in_ok-nodes.nodes in
    let l = listed_of c.new-4.result in
    let m = made_server (record { names = c.args.names.items; me = 0; inc = c.in-Some.inc; shards = c.args.shards }) s
    (sym c.in-Some-new.is ∙ c.new-2.ensures) in
    let count = length c.names.result.now in
    new_made (record { names = c.args.names.items; shards = c.args.shards }) s (value_of_parts s 0 nodes l) m.0
    (ap cluster_of m.1) (first_shown s count nodes l (ap length c.names.ensures) c.in_ok-nodes.ensures c.new-4.ensures)
