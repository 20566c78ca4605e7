use Rattle.std.proofs.Common.{◌≡◌, sym, subst}
use Rattle.std.specs.Prelude.{slice_set}
use Rattle.hub_core.specs.Events.{Up, IsUp}
use Rattle.hub_core.specs.Peers.{snapshot_to}
use Rattle.hub_core.specs.Steps.{IsMeeting}
use Rattle.hub_core.specs.Hubs.{Hub, DoesStep, hub_of_parts}
use Rattle.hub_core.proofs.Neighbours.CameUp.{met_kept, met_done}
use Rattle.hub_core.proofs.hub.Hub.commit_up.Goals as goal

pub invariant_of-self : goal.invariant_of-self
invariant_of-self c =
    let i = c.self.inside in
    let old = hub_of_parts i.server i.issued i.published i.changed i.draining i.counts i.peers.items in
    let asked : IsMeeting old.server old.state c.args.place c.args.inc =
    subst (λ (h : Hub). IsMeeting h.server h.state c.args.place c.args.inc) (sym c.self.view_is) c.requires.meeting in
    let planned : c.args.snapshot ≡ snapshot_to old.server old.state c.args.place c.args.inc =
    subst (λ (h : Hub). c.args.snapshot ≡ snapshot_to h.server h.state c.args.place c.args.inc) (sym c.self.view_is)
    c.requires.planned in (
      met_kept old c.args.place c.args.inc c.args.snapshot c.index_mut-peer.result.now c.know.new.self c.meet.new.self
          c.self.invariant.0 asked planned c.index_mut-peer.ensures.value c.know.ensures c.meet.ensures,
      tt,
    )

pub returns : goal.returns
returns c =
    let i = c.self.inside in
    let old = hub_of_parts i.server i.issued i.published i.changed i.draining i.counts i.peers.items in
    let asked : IsMeeting old.server old.state c.args.place c.args.inc =
    subst (λ (h : Hub). IsMeeting h.server h.state c.args.place c.args.inc) (sym c.self.view_is) c.requires.meeting in
    let planned : c.args.snapshot ≡ snapshot_to old.server old.state c.args.place c.args.inc =
    subst (λ (h : Hub). c.args.snapshot ≡ snapshot_to h.server h.state c.args.place c.args.inc) (sym c.self.view_is)
    c.requires.planned in
    subst (λ (h : Hub).
    DoesStep h (Up c.args.place c.args.inc) (IsUp c.args.snapshot)
    (hub_of_parts i.server i.issued i.published i.changed i.draining i.counts
    (slice_set i.peers.items c.args.place c.meet.new.self)))
    c.self.view_is
    (met_done old c.args.place c.args.inc c.args.snapshot c.index_mut-peer.result.now c.know.new.self c.meet.new.self
    c.self.invariant.0 asked planned c.index_mut-peer.ensures.value c.know.ensures c.meet.ensures)
