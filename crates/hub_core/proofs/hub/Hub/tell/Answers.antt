use Rattle.std.proofs.Common.{◌≡◌, ◌+◌, List, map, length, take, drop, ◌++◌, sym, ap, ◌∙◌, subst}
use Rattle.hub_core.specs.State.{State, Peer}
use Rattle.hub_core.specs.Publishing.{with_frames}
use Rattle.hub_core.specs.Telling.{without_slow}
use Rattle.hub_core.specs.Calls.{HasRoomFor, AreCounted}
use Rattle.hub_core.specs.Hubs.{Hub, hub_of_parts}
use Rattle.hub_core.proofs.Steps.Collected.{told_have_room, told_kept}
use Rattle.hub_core.proofs.Steps.Issued.{rewritten}
use Rattle.hub_core.proofs.Neighbours.Known.{map_length, frames_length}
use Rattle.hub_core.proofs.hub.Hub.tell.Goals as goal

pub tell_peers-requires-clause-room : goal.tell_peers-requires-clause-room
tell_peers-requires-clause-room c =
    let i = c.self.inside in
    let old = hub_of_parts i.server i.issued i.published i.changed i.draining i.counts i.peers.items in
    let deltas = c.args.deltas.now in
    let frames = c.args.frames.items in
    let plan : AreCounted old.server old.state deltas c.args.count frames = subst
    (λ (h : Hub). AreCounted h.server h.state deltas c.args.count frames) (sym c.self.view_is) c.requires.counted in
    subst (λ (peers : List Peer). HasRoomFor old.server frames (map (without_slow c.args.count) peers))
    (sym c.deref_mut.ensures.value) (told_have_room old deltas c.args.count frames c.self.invariant.0 plan)

pub invariant_of-self : goal.invariant_of-self
invariant_of-self c =
    let i = c.self.inside in
    let old = hub_of_parts i.server i.issued i.published i.changed i.draining i.counts i.peers.items in
    let deltas = c.args.deltas.now in
    let count = c.args.count in
    let frames = c.args.frames.items in
    let plan : AreCounted old.server old.state deltas count frames =
    subst (λ (h : Hub). AreCounted h.server h.state deltas count frames) (sym c.self.view_is) c.requires.counted in
    let told = with_frames old.server frames 0 (map (without_slow count) i.peers.items) in
    let put : c.tell_peers.new.peers ≡ told = c.tell_peers.ensures
    ∙ ap (λ (peers : List Peer). with_frames old.server frames 0 (map (without_slow count) peers))
    c.deref_mut.ensures.value in
    let same : length c.tell_peers.new.peers ≡ length i.peers.items = ap length put
    ∙ frames_length old.server frames 0 (map (without_slow count) i.peers.items)
    ∙ map_length (without_slow count) i.peers.items in
    let peers = take i.peers.len (c.tell_peers.new.peers ++ drop (length c.tell_peers.new.peers) i.peers.items) in
    let is : peers ≡ told = rewritten i.peers.len c.tell_peers.new.peers i.peers.items same i.peers.ok.0 ∙ put in
    let new : State = record old.state { changed = i.changed + count; counts = c.commit.new.self; peers = peers } in (
      told_kept old deltas count frames c.self.invariant.0 plan new (λ i. record old.state {
        changed = c.self.inside.changed + c.args.count;
        counts = c.commit.ensures i;
        peers = is i;
      }),
      tt,
    )
