use Rattle.std.proofs.Common.{[], sym, ap, ◌∙◌, subst}
use Rattle.subj.specs.Servers.{ServerIdentity, IsListed}
use Rattle.hub_core.specs.Calls.{IsTaken}
use Rattle.hub_core.specs.Events as of_hub
use Rattle.hub_core.specs.Hubs as hubs
use Rattle.hub_core.specs.State.{seen_of, peer_of}
use Rattle.node_parts.specs.Sides.{HubWithSessions, ByHub, side_after}
use Rattle.node_parts.proofs.Receiving.{received_side, of_a_peer}
use Rattle.node_parts.proofs.side.HubWithSessions.take_message.Goals as goal

pub end_old_session-requires : goal.end_old_session-requires
end_old_session-requires c =
    let old = c.self.inside in
    let taken =
    subst (λ (s : HubWithSessions). IsTaken s.server s.hub c.args.frame.now) (sym c.self.view_is) c.requires.taken in
    let listed = subst (λ (s : ServerIdentity). IsListed s) c.server.ensures c.me-me.ensures.server.known in
    of_a_peer old.hub.server old.sessions.server old.hub.state taken.finished c.args.frame.now listed c.self.invariant
    taken.taken

pub invariant_of-self : goal.invariant_of-self
invariant_of-self c =
    ap (λ s. s.server) c.end_old_session.ensures
    ∙ c.self.invariant
    ∙ sym (ap (λ (h : hubs.Hub). h.server) c.commit_message.ensures)

pub returns : goal.returns
returns c =
    let old = c.self.inside in
    let frame = c.args.frame.now in
    let seen_is =
    c.seen_of-seen.ensures ∙ ap (λ name. seen_of (peer_of old.hub.server old.hub.state name)) c.from.ensures in
    received_side old.hub c.commit_message.new.self old.sessions c.end_old_session.new.sessions frame []
    c.seen_of-seen.result c.self.invariant c.commit_message.ensures seen_is c.end_old_session.ensures
    ∙ ap (λ (s : HubWithSessions). side_after s (ByHub (of_hub.Receive frame []))) c.self.view_is
