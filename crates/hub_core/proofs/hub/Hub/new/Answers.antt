use Rattle.std.proofs.Common.{◌≡◌, ℕ, false, List, length, sym, ap, ◌∙◌, subst, arith}
use Rattle.std.specs.Prelude.{replicate}
use Rattle.hub_core.specs.State.{unknown_peer}
use Rattle.hub_core.specs.Hubs.{IsKept, hub_of_parts, hub_at_start}
use Rattle.hub_core.proofs.Steps.Sound.{stays_sound}
use Rattle.hub_core.proofs.hub.Hub.new.Goals as goal

pub invariant_of-result : goal.invariant_of-result
invariant_of-result c =
    let server = c.args.server in
    let peers_are =
    c.in_ok-peers.ensures ∙ ap (λ (names : List (List ℕ)). replicate (length names) unknown_peer) c.names.ensures in
    let is :
    hub_of_parts server c.zero.result 0 0 false c.in_ok-counts.counts c.in_ok-peers.peers.items ≡ hub_at_start server =
    λ k. hub_of_parts server (c.zero.ensures k) 0 0 false (c.in_ok-counts.ensures k) (peers_are k) in (
      subst IsKept (sym is) (record {
        listed = c.me-me.ensures.server.known;
        sound = stays_sound.start server;
        published = omega arith;
        changed = omega arith;
      }),
      tt,
    )
