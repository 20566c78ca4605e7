use Rattle.std.proofs.Common.{◌≡◌, true, List, None, sym, ap, ◌∙◌, subst}
use Rattle.std.specs.Prelude.{slice_set}
use Rattle.subj.specs.Servers.{is_peer}
use Rattle.hub_core.specs.Events.{TakeFrom, Taken}
use Rattle.hub_core.specs.Peers.{take_refusal}
use Rattle.hub_core.specs.Hubs.{Hub, DoesStep, IsKept, hub_of_parts}
use Rattle.hub_core.specs.Audiences.{IsInMind}
use Rattle.hub_core.specs.State.{Peer}
use Rattle.hub_core.proofs.Choices.Audiences.{views_set, stays_in_mind}
use Rattle.hub_core.proofs.Neighbours.Changed.{set_same}
use Rattle.hub_core.proofs.Neighbours.Taken.{taken_kept, taken_done}
use Rattle.hub_core.proofs.Steps.Kept.{peer_within}
use Rattle.hub_core.proofs.hub.Hub.take_route.Goals as goal

pub invariant_of-self : goal.invariant_of-self
invariant_of-self c =
    let i = c.self.inside in
    let place = c.args.place in
    let unchanged : slice_set i.peers.items place c.take.new.self ≡ i.peers.items =
    set_same i.peers.items place c.index_mut-peer.result.now c.take.new.self c.index_mut-peer.ensures.value
    c.in_err-frames.ensures.err in
    subst (λ (peers : List Peer).
    IsKept (hub_of_parts i.server i.issued i.published i.changed i.draining i.counts peers)
    × IsInMind i.server i.counts peers i.memo)
    (sym unchanged) c.self.invariant

pub invariant_of-self-2 : goal.invariant_of-self-2
invariant_of-self-2 c =
    let i = c.self.inside in
    let old = hub_of_parts i.server i.issued i.published i.changed i.draining i.counts i.peers.items in
    let is : is_peer old.server c.args.place ≡ true = sym c.is_peer.ensures.same ∙ c.if-not-is_peer.false in
    let heard = views_set i.peers.items c.args.place c.index_mut-peer.result.now c.take.new.self
    (peer_within old c.args.place c.self.invariant.0 is) c.index_mut-peer.ensures.value
    (ap (λ (peer : Peer). peer.heard) c.in_ok-frames.ensures.ok) in (
      taken_kept old c.args.place c.args.count c.in_ok-frames.frames.items c.index_mut-peer.result.now c.take.new.self
          c.self.invariant.0 is c.index_mut-peer.ensures.value c.in_ok-frames.ensures.frames c.in_ok-frames.ensures.ok,
      stays_in_mind i.server i.counts i.peers.items (slice_set i.peers.items c.args.place c.take.new.self) i.memo heard
          c.self.invariant.1,
    )

pub returns : goal.returns
returns c =
    let i = c.self.inside in
    let old = hub_of_parts i.server i.issued i.published i.changed i.draining i.counts i.peers.items in
    let is : is_peer old.server c.args.place ≡ true = sym c.is_peer.ensures.same ∙ c.if-not-is_peer.false in
    subst (λ (h : Hub).
    (take_refusal h.server c.args.place ≡ None)
    × DoesStep h (TakeFrom c.args.place c.args.count) (Taken c.in_ok-frames.frames.items)
    (hub_of_parts i.server i.issued i.published i.changed i.draining i.counts
    (slice_set i.peers.items c.args.place c.take.new.self)))
    c.self.view_is
    (taken_done old c.args.place c.args.count c.in_ok-frames.frames.items c.index_mut-peer.result.now c.take.new.self
    c.self.invariant.0 is c.index_mut-peer.ensures.value c.in_ok-frames.ensures.frames c.in_ok-frames.ensures.ok)
