use Rattle.std.proofs.Common.{◌≡◌, ◌+◌, List, length, take, drop, ◌++◌, sym, ap, ◌∙◌, subst}
use Rattle.hub_core.specs.State.{State, Peer}
use Rattle.hub_core.specs.Publishing.{with_frames}
use Rattle.hub_core.specs.Calls.{HasRoomFor, IsPlanned}
use Rattle.hub_core.specs.Hubs.{Hub, hub_of_parts}
use Rattle.hub_core.specs.Audiences.{views_of}
use Rattle.hub_core.proofs.Choices.Audiences.{views_with, stays_in_mind}
use Rattle.hub_core.proofs.Neighbours.Known.{frames_length}
use Rattle.hub_core.proofs.Steps.Issued.{frames_have_room, issued_kept, issued_is, rewritten}
use Rattle.hub_core.proofs.hub.Hub.commit_frames.Goals as goal

pub put_all-requires-clause-room : goal.put_all-requires-clause-room
put_all-requires-clause-room c =
    let i = c.self.inside in
    let old = hub_of_parts i.server i.issued i.published i.changed i.draining i.counts i.peers.items in
    let plan : IsPlanned old.server old.state c.args.frames.items =
    subst (λ (h : Hub). IsPlanned h.server h.state c.args.frames.items) (sym c.self.view_is) c.requires in
    subst (λ (peers : List Peer). HasRoomFor old.server c.args.frames.items peers) (sym c.deref_mut.ensures.value)
    (frames_have_room old c.args.frames.items c.self.invariant.0 plan)

pub invariant_of-self : goal.invariant_of-self
invariant_of-self c =
    let i = c.self.inside in
    let old = hub_of_parts i.server i.issued i.published i.changed i.draining i.counts i.peers.items in
    let plan : IsPlanned old.server old.state c.args.frames.items =
    subst (λ (h : Hub). IsPlanned h.server h.state c.args.frames.items) (sym c.self.view_is) c.requires in
    let new : State = record old.state {
      issued = c.unwrap-self-inside.result;
      published = i.published + 1;
      peers = take i.peers.len (c.put_all.new.peers ++ drop (length c.put_all.new.peers) i.peers.items);
    } in
    let put : c.put_all.new.peers ≡ with_frames old.server c.args.frames.items 0 old.state.peers =
    c.put_all.ensures
    ∙ ap (λ (peers : List Peer). with_frames old.server c.args.frames.items 0 peers) c.deref_mut.ensures.value in
    let same : length c.put_all.new.peers ≡ length i.peers.items =
    ap length put ∙ frames_length old.server c.args.frames.items 0 i.peers.items in
    let heard : views_of new.peers ≡ views_of i.peers.items =
    ap views_of (rewritten i.peers.len c.put_all.new.peers i.peers.items same i.peers.ok.0 ∙ put)
    ∙ views_with old.server c.args.frames.items 0 i.peers.items in (
      issued_kept old c.args.frames.items c.self.invariant.0 plan new
          (issued_is old c.args.frames.items c.self.invariant.0 plan c.unwrap-self-inside.result i.peers.len
          c.next.result c.put_all.new.peers c.next.ensures c.unwrap-self-inside.ensures i.peers.ok.0 put),
      stays_in_mind i.server i.counts i.peers.items new.peers i.memo heard c.self.invariant.1,
    )
