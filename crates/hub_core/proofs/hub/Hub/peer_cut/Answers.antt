use Rattle.std.proofs.Common.{◌≡◌, List, true, false, sym, ap, subst}
use Rattle.std.specs.Prelude.{slice_set}
use Rattle.subj.specs.Servers.{is_peer}
use Rattle.hub_core.specs.State.{Peer}
use Rattle.hub_core.specs.Events.{Cut}
use Rattle.hub_core.specs.Hubs.{Hub, hub_of_parts}
use Rattle.hub_core.proofs.Neighbours.Changed.{changed_is}
use Rattle.hub_core.proofs.Steps.Kept.{kept_after, peer_within}
use Rattle.hub_core.proofs.hub.Hub.peer_cut.Goals as goal

pub invariant_of-self : goal.invariant_of-self
invariant_of-self c =
    let i = c.self.inside in
    let old = hub_of_parts i.server i.issued i.published i.changed i.draining i.counts i.peers.items in
    let asked : is_peer old.server c.args.place ≡ true =
    subst (λ (h : Hub). is_peer h.server c.args.place ≡ true) (sym c.self.view_is) c.requires in
    let is = changed_is (λ (peer : Peer). record peer { up = false }) i.peers.items c.args.place
    c.index_mut-peer.result.now c.cut.new.self (peer_within old c.args.place c.self.invariant.0 asked)
    c.index_mut-peer.ensures.value c.cut.ensures in (
      kept_after old.server old.state (Cut c.args.place)
          (record old.state { peers = slice_set i.peers.items c.args.place c.cut.new.self }) c.self.invariant.0 asked
          (ap (λ (peers : List Peer). record old.state { peers = peers }) is) c.self.invariant.0.published
          c.self.invariant.0.changed,
      tt,
    )
