use Rattle.std.proofs.Common.{◌≡◌, ℕ, ◌+◌, false, List, Option, Some, None, sym, ap, ◌∙◌, subst}
use Rattle.std.specs.Prelude.{if◌then◌else◌}
use Rattle.subj.specs.Servers.{is_peer, place}
use Rattle.std.specs.Prelude.{slice_set}
use Rattle.hub_core.specs.State.{State, Peer, is_new_life}
use Rattle.hub_core.specs.declared.audience.AudienceMemo.{AudienceMemo}
use Rattle.hub_core.specs.Audiences.{IsInMind, views_of}
use Rattle.hub_core.proofs.Choices.Audiences.{views_set, heard_stays, stays_unless, same_place}
use Rattle.hub_core.specs.Receiving.{receive_refusal, after_receive, has_message}
use Rattle.hub_core.specs.Hubs.{Hub, hub_of_parts}
use Rattle.hub_core.proofs.Neighbours.Origins.{received_is, received_kept, turn_is, found_within}
use Rattle.hub_core.proofs.hub.Hub.commit_message.Goals as goal

pub invariant_of-self : goal.invariant_of-self
invariant_of-self c =
    let i = c.self.inside in
    let old = hub_of_parts i.server i.issued i.published i.changed i.draining i.counts i.peers.items in
    let frame = c.args.frame.now in
    let cause : receive_refusal old.server old.state c.requires.taken.finished frame ≡ None =
    subst (λ (h : Hub). receive_refusal h.server h.state c.requires.taken.finished frame ≡ None) (sym c.self.view_is)
    c.requires.taken.taken in
    let turn : c.unwrap-self-inside.result ≡ (if has_message frame.body then i.issued + 1 else i.issued) =
    turn_is i.issued c.unwrap-self-inside.result c.next.result frame.body c.requires.message c.next.ensures
    c.unwrap-self-inside.ensures in
    let look = c.peer_place.ensures
    ∙ ap (λ (name : List ℕ).
    let o : Option ℕ = if is_peer i.server (place i.server name) then Some (place i.server name) else None in o)
    c.from.ensures in
    let peer = c.index_mut-peer.result.now in
    let within = found_within old c.requires.taken.finished frame c.self.invariant.0 cause c.peer_place.result
    c.unwrap-place.result peer c.take_message.new.self look c.unwrap-place.ensures c.index_mut-peer.ensures.value
    c.take_message.ensures in
    let heard : is_new_life peer frame.inc ≡ false
    → views_of (slice_set i.peers.items c.unwrap-place.result c.take_message.new.self) ≡ views_of i.peers.items =
    λ same.
    views_set i.peers.items c.unwrap-place.result peer c.take_message.new.self within c.index_mut-peer.ensures.value
    (ap (λ (p : Peer). p.heard) c.take_message.ensures
    ∙ heard_stays frame.body frame.number frame.inc peer c.requires.message same) in
    let forgets : c.is_new_life-is_new_life.result ≡ is_new_life peer frame.inc =
    c.is_new_life-is_new_life.ensures
    ∙ (λ k.
    is_new_life
    (same_place i.peers.items c.unwrap-place.result c.index.result.now peer within c.index.ensures
    c.index_mut-peer.ensures.value k)
    (c.inc.ensures k)) in (
      received_kept old c.requires.taken.finished frame c.self.invariant.0 cause c.peer_place.result
          c.unwrap-place.result c.index_mut-peer.result.now c.take_message.new.self look c.unwrap-place.ensures
          c.index_mut-peer.ensures.value c.take_message.ensures c.unwrap-self-inside.result turn,
      subst (IsInMind i.server i.counts (slice_set i.peers.items c.unwrap-place.result c.take_message.new.self))
          (sym
          (c.kept_unless.ensures
          ∙ ap (λ (memo : Option AudienceMemo).
          let o : Option AudienceMemo = if c.is_new_life-is_new_life.result then None else memo in o)
          c.take.ensures.value))
          (stays_unless i.server i.counts i.peers.items
          (slice_set i.peers.items c.unwrap-place.result c.take_message.new.self) i.memo
          c.is_new_life-is_new_life.result (λ same. heard (sym forgets ∙ same)) c.self.invariant.1),
    )

pub returns : goal.returns
returns c =
    let i = c.self.inside in
    let old = hub_of_parts i.server i.issued i.published i.changed i.draining i.counts i.peers.items in
    let frame = c.args.frame.now in
    let cause : receive_refusal old.server old.state c.requires.taken.finished frame ≡ None =
    subst (λ (h : Hub). receive_refusal h.server h.state c.requires.taken.finished frame ≡ None) (sym c.self.view_is)
    c.requires.taken.taken in
    let turn : c.unwrap-self-inside.result ≡ (if has_message frame.body then i.issued + 1 else i.issued) =
    turn_is i.issued c.unwrap-self-inside.result c.next.result frame.body c.requires.message c.next.ensures
    c.unwrap-self-inside.ensures in
    let look = c.peer_place.ensures
    ∙ ap (λ (name : List ℕ).
    let o : Option ℕ = if is_peer i.server (place i.server name) then Some (place i.server name) else None in o)
    c.from.ensures in
    let is = received_is old c.requires.taken.finished frame c.self.invariant.0 cause c.peer_place.result
    c.unwrap-place.result c.index_mut-peer.result.now c.take_message.new.self look c.unwrap-place.ensures
    c.index_mut-peer.ensures.value c.take_message.ensures c.unwrap-self-inside.result turn in
    ap (λ (state : State). let h : Hub = record { server = i.server; state = state } in h) is
    ∙ ap (λ (h : Hub). let g : Hub = record h { state = after_receive h.server h.state frame } in g) c.self.view_is
