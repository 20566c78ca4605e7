use Rattle.std.proofs.Common.{[], ap, ◌∙◌}
use Rattle.hub_core.specs.State.{State}
use Rattle.hub_core.specs.Calls.{after_frames}
use Rattle.hub_core.specs.Hubs.{Hub, hub_of_parts}
use Rattle.hub_core.proofs.Choices.Local.{local_issued}
use Rattle.hub_core.proofs.hub.Hub.commit_local.Goals as goal

pub returns : goal.returns
returns c =
    let i = c.self.inside in
    let old = hub_of_parts i.server i.issued i.published i.changed i.draining i.counts i.peers.items in
    ap (λ (state : State). let hub : Hub = record { server = i.server; state = state } in hub)
    (local_issued i.server old.state c.unwrap-self-inside.result c.next.result c.next.ensures
    c.unwrap-self-inside.ensures)
    ∙ ap (λ (h : Hub).
    let hub : Hub = record { server = h.server; state = after_frames h.server h.state [] } in hub)
    c.self.view_is
