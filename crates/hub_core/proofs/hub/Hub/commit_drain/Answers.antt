use Rattle.std.proofs.Common.{◌≡◌, ◌+◌, true, List, map, length, take, drop, ◌++◌, None, sym, ap, ◌∙◌, subst}
use Rattle.hub_core.specs.State.{State, Peer}
use Rattle.hub_core.specs.Publishing.{with_frames}
use Rattle.hub_core.specs.Telling.{without_slow, drain_refusal}
use Rattle.hub_core.specs.Calls.{HasRoomFor, IsDrainOf}
use Rattle.hub_core.specs.Hubs.{Hub, hub_of_parts}
use Rattle.hub_core.proofs.Steps.Drained.{clearing_has_room, cleared_kept}
use Rattle.hub_core.proofs.Steps.Issued.{rewritten}
use Rattle.hub_core.proofs.Neighbours.Known.{map_length, frames_length}
use Rattle.hub_core.proofs.hub.Hub.commit_drain.Goals as goal

pub tell_peers-requires-clause-room : goal.tell_peers-requires-clause-room
tell_peers-requires-clause-room c =
    let i = c.self.inside in
    let old = hub_of_parts i.server i.issued i.published i.changed i.draining i.counts i.peers.items in
    let frames = c.args.plan.frames.items in
    let taken : drain_refusal old.state ≡ None =
    subst (λ (h : Hub). drain_refusal h.state ≡ None) (sym c.self.view_is) c.requires.taken in
    let plan : IsDrainOf old frames c.args.plan.cut.items =
    subst (λ (h : Hub). IsDrainOf h frames c.args.plan.cut.items) (sym c.self.view_is) c.requires.planned in
    subst (λ (peers : List Peer). HasRoomFor old.server frames (map (without_slow 1) peers))
    (sym c.deref_mut.ensures.value) (clearing_has_room old frames c.args.plan.cut.items c.self.invariant.0 taken plan)

pub invariant_of-self : goal.invariant_of-self
invariant_of-self c =
    let i = c.self.inside in
    let old = hub_of_parts i.server i.issued i.published i.changed i.draining i.counts i.peers.items in
    let frames = c.args.plan.frames.items in
    let taken : drain_refusal old.state ≡ None =
    subst (λ (h : Hub). drain_refusal h.state ≡ None) (sym c.self.view_is) c.requires.taken in
    let plan : IsDrainOf old frames c.args.plan.cut.items =
    subst (λ (h : Hub). IsDrainOf h frames c.args.plan.cut.items) (sym c.self.view_is) c.requires.planned in
    let told = with_frames old.server frames 0 (map (without_slow 1) i.peers.items) in
    let put : c.tell_peers.new.peers ≡ told = c.tell_peers.ensures
    ∙ ap (λ (peers : List Peer). with_frames old.server frames 0 (map (without_slow 1) peers))
    c.deref_mut.ensures.value in
    let same : length c.tell_peers.new.peers ≡ length i.peers.items = ap length put
    ∙ frames_length old.server frames 0 (map (without_slow 1) i.peers.items)
    ∙ map_length (without_slow 1) i.peers.items in
    let peers = take i.peers.len (c.tell_peers.new.peers ++ drop (length c.tell_peers.new.peers) i.peers.items) in
    let is : peers ≡ told = rewritten i.peers.len c.tell_peers.new.peers i.peers.items same i.peers.ok.0 ∙ put in
    let new : State = record old.state { changed = i.changed + 1; draining = true; peers = peers } in (
      cleared_kept old frames c.args.plan.cut.items c.self.invariant.0 taken plan new
          (ap (λ (peers : List Peer). record old.state { changed = i.changed + 1; draining = true; peers = peers }) is),
      tt,
    )
