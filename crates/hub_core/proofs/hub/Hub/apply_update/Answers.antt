use Rattle.std.proofs.Common.{◌≡◌, ℕ, List, Option, Some, None, sym, ap, ◌∙◌, subst}
use Rattle.std.specs.Prelude.{if◌then◌else◌, slice_set}
use Rattle.subj.specs.Answers.{IsAnswered}
use Rattle.subj.specs.Servers.{is_peer, place}
use Rattle.hub_core.specs.declared.faults.HubFault.{HubFault}
use Rattle.hub_core.specs.Receiving.{receive_refusal, after_receive}
use Rattle.hub_core.specs.Hubs.{Hub, hub_of_parts}
use Rattle.hub_core.proofs.Neighbours.Origins.{heard_kept, heard_done}
use Rattle.hub_core.proofs.hub.Hub.apply_update.Goals as goal

pub invariant_of-self : goal.invariant_of-self
invariant_of-self c =
    let i = c.self.inside in
    let old = hub_of_parts i.server i.issued i.published i.changed i.draining i.counts i.peers.items in
    let frame = c.args.frame.now in
    let cause : receive_refusal old.server old.state c.requires.taken.finished frame ≡ None =
    subst (λ (h : Hub). receive_refusal h.server h.state c.requires.taken.finished frame ≡ None) (sym c.self.view_is)
    c.requires.taken.taken in
    let look = c.peer_place.ensures
    ∙ ap (λ (name : List ℕ).
    let o : Option ℕ = if is_peer i.server (place i.server name) then Some (place i.server name) else None in o)
    c.from.ensures in (
      heard_kept old c.requires.taken.finished frame c.self.invariant.0 cause c.peer_place.result c.unwrap-place.result
          c.index_mut-peer.result.now c.apply_update.new.self look c.unwrap-place.ensures c.index_mut-peer.ensures.value
          c.requires.news c.apply_update.result c.apply_update.ensures,
      tt,
    )

pub returns : goal.returns
returns c =
    let i = c.self.inside in
    let old = hub_of_parts i.server i.issued i.published i.changed i.draining i.counts i.peers.items in
    let frame = c.args.frame.now in
    let cause : receive_refusal old.server old.state c.requires.taken.finished frame ≡ None =
    subst (λ (h : Hub). receive_refusal h.server h.state c.requires.taken.finished frame ≡ None) (sym c.self.view_is)
    c.requires.taken.taken in
    let look = c.peer_place.ensures
    ∙ ap (λ (name : List ℕ).
    let o : Option ℕ = if is_peer i.server (place i.server name) then Some (place i.server name) else None in o)
    c.from.ensures in
    let new = hub_of_parts i.server i.issued i.published i.changed i.draining i.counts
    (slice_set i.peers.items c.unwrap-place.result c.apply_update.new.self) in
    subst (λ (h : Hub).
    IsAnswered {R = HubFault} {T = Unit {0}} None (λ _. new ≡ record h { state = after_receive h.server h.state frame })
    (new ≡ h) c.apply_update.result)
    c.self.view_is
    (heard_done old c.requires.taken.finished frame c.self.invariant.0 cause c.peer_place.result c.unwrap-place.result
    c.index_mut-peer.result.now c.apply_update.new.self look c.unwrap-place.ensures c.index_mut-peer.ensures.value
    c.requires.news c.apply_update.result c.apply_update.ensures)
