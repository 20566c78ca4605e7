use Rattle.std.proofs.Common.{◌≤◌, ◌+◌, ◌++◌, ◌∷◌, [], sym, ap, ◌∙◌, subst, arith}
use Rattle.std.proofs.lemmas.List.{replicate_more}
use Rattle.hub_core.specs.State.{unknown_peer}
use Rattle.hub_core.proofs.peers.unknown_peers.Goals as goal

pub loop-made-preserved : goal.loop-made-preserved
loop-made-preserved c =
    let l = c.loop-made in
    record {
      filled =
          c.push_reserved.ensures.items
          ∙ (λ k. l.invariant.filled k ++ c.in_ok-peer.ensures k ∷ [])
          ∙ replicate_more l.made unknown_peer;
      number = c.push_reserved.ensures.len ∙ ap (λ n. n + 1) l.invariant.number;
      room = subst (λ n. c.args.count ≤ n) (sym c.push_reserved.ensures.capacity) l.invariant.room;
    }

pub push_reserved-requires : goal.push_reserved-requires
push_reserved-requires c = omega arith
