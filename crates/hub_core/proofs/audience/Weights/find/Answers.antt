use Rattle.std.proofs.Common.{ℕ, List, length, get_or, sym, ap, ◌∙◌, ◌+◌, ◌*◌, ◌≤◌, subst, arith}
use Rattle.subj.specs.declared.limits.TheConstants.{MAX_KEYS, MAX_WEIGHT}
use Rattle.hub_core.specs.Choice.{weights_from}
use Rattle.hub_core.proofs.Choices.Audiences.{weights_put, total_put}
use Rattle.hub_core.proofs.audience.Weights.find.Goals as goal

pub loop-place-preserved : goal.loop-place-preserved
loop-place-preserved c =
    let server = c.args.server.now in
    let counts = c.args.counts.now in
    let subject = c.args.subject.now in
    let name = c.args.name.now in
    let peers = c.args.peers.now in
    let i = c.loop-place.place in
    let server_name = c.index-names-place.result in
    let named = c.index-names-place.is ∙ ap (λ (names : List (List ℕ)). get_or names i server_name) c.names.ensures in
    record {
      rest =
          weights_put server counts subject name peers i c.index-peers-place.result server_name
          c.weight_at-weight.result c.loop-place.servers.items c.push_reserved.new.self.items
          (weights_from server counts subject name 0 peers) c.loop-place-test.true c.requires c.index-peers-place.is
          named c.weight_at-weight.ensures.same c.push_reserved.ensures.items c.loop-place.invariant.rest;
      fits =
          total_put c.loop-place.servers.items c.push_reserved.new.self.items i (MAX_KEYS * MAX_WEIGHT)
          (server_name, c.weight_at-weight.result) c.push_reserved.ensures.items c.loop-place.invariant.fits
          c.weight_at-weight.ensures.most;
      count = c.push_reserved.ensures.len ∙ ap (λ n. n + 1) c.loop-place.invariant.count;
      room = subst (λ n. length peers ≤ n) (sym c.push_reserved.ensures.capacity) c.loop-place.invariant.room;
    }

pub push_reserved-requires : goal.push_reserved-requires
push_reserved-requires c = omega arith
