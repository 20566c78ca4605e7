use Rattle.std.proofs.Common.{ℕ, ◌≤◌, ◌+◌, [], ◌∷◌, length, refl, sym, ap, ◌∙◌, subst, Bool, arith}
use Rattle.hub_core.specs.State.{Peer}
use Rattle.hub_core.specs.Choice.{is_eligible}
use Rattle.hub_core.specs.Audiences.{eligible_from}
use Rattle.hub_core.proofs.Choices.Filled.{gathered_on, gathered_all}
use Rattle.hub_core.proofs.audience.eligible_in.Goals as goal

pub loop-place-preserved : goal.loop-place-preserved
loop-place-preserved c =
    let l = c.loop-place in
    let server = c.args.server.now in
    let peers = c.args.peers.now in
    record {
      filled =
          gathered_on (λ (q : ℕ) (peer : Peer). is_eligible server q peer ∷ []) (eligible_from server) (λ q x xs. refl)
          peers l.place c.index-peers-place.result (c.is_eligible.result ∷ []) l.eligible.items
          c.push_reserved.new.self.items (eligible_from server 0 peers) c.loop-place-test.true c.index-peers-place.is
          (ap (λ (b : Bool). b ∷ []) c.is_eligible.ensures) c.push_reserved.ensures.items l.invariant.filled;
      count = c.push_reserved.ensures.len ∙ ap (λ n. n + 1) l.invariant.count;
      room = subst (λ n. length peers ≤ n) (sym c.push_reserved.ensures.capacity) l.invariant.room;
    }

pub push_reserved-requires : goal.push_reserved-requires
push_reserved-requires c = omega arith

pub returns : goal.returns
returns c =
    gathered_all (eligible_from c.args.server.now) c.args.peers.now c.loop-place.place c.loop-place.eligible.items
    (eligible_from c.args.server.now 0 c.args.peers.now) refl c.loop-place-test.false c.loop-place.invariant.filled
