use Rattle.std.proofs.Common.{◌≡◌, ap, ◌∙◌}
use Rattle.hub_core.specs.State.{seen_of, peer_of}
use Rattle.route_session.specs.Events.{OnInfo}
use Rattle.route_session.specs.Steps.{session_refusal}
use Rattle.node_parts.specs.Sides.{HubWithSessions, seen_name}
use Rattle.node_parts.proofs.Greeting.{same_seen}
use Rattle.node_parts.proofs.side.HubWithSessions.info_fault.Goals as goal

pub returns : goal.returns
returns c =
    let old = c.self.inside in
    let x = c.args.info.now in
    let least_is : c.seen_of-least.result ≡ seen_of (peer_of old.hub.server old.hub.state x.server_name) =
    same_seen old.hub.server old.hub.state x.server_name c.server_name.result c.seen_of-least.result
    c.seen_of-least.ensures c.server_name.ensures in
    c.info_fault.ensures
    ∙ (λ k. session_refusal (c.self.invariant k) old.sessions.state (OnInfo c.args.session x (least_is k)))
    ∙ ap
    (λ (s : HubWithSessions). session_refusal s.server s.sessions (OnInfo c.args.session x (seen_name s x.server_name)))
    c.self.view_is
