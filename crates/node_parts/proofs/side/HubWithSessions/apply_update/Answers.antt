use Rattle.std.proofs.Common.{◌≡◌, None, sym, ap, ◌∙◌, subst}
use Rattle.subj.specs.Servers.{ServerIdentity, IsListed}
use Rattle.hub_core.specs.Events as of_hub
use Rattle.hub_core.specs.Hubs as hubs
use Rattle.hub_core.specs.State.{seen_of, peer_of}
use Rattle.hub_core.specs.Steps.{hub_refusal}
use Rattle.node_parts.specs.Sides.{HubWithSessions, ByHub, OfHub, IsDone}
use Rattle.node_parts.proofs.Sides.{side_of}
use Rattle.node_parts.proofs.Receiving.{heard_answer, received_side, of_a_peer}
use Rattle.node_parts.proofs.side.HubWithSessions.apply_update.Goals as goal

pub end_old_session-requires : goal.end_old_session-requires
end_old_session-requires c =
    let old = c.self.inside in
    let listed = subst (λ (s : ServerIdentity). IsListed s) c.server.ensures c.me-me.ensures.server.known in
    of_a_peer old.hub.server old.sessions.server old.hub.state c.args.finished.now c.args.frame.now listed
    c.self.invariant c.in-Ok.ensures.0

pub invariant_of-self-2 : goal.invariant_of-self-2
invariant_of-self-2 c =
    let step = c.in-Ok.ensures.1 in
    ap (λ s. s.server) c.end_old_session.ensures ∙ c.self.invariant ∙ sym (ap (λ (h : hubs.Hub). h.server) step.after)

pub returns : goal.returns
returns c =
    let old = c.self.inside in
    let frame = c.args.frame.now in
    let finished = c.args.finished.now in
    let step = c.in-Ok.ensures.1 in
    let seen_is =
    c.seen_of-seen.ensures ∙ ap (λ name. seen_of (peer_of old.hub.server old.hub.state name)) c.from.ensures in
    let new = side_of c.receive.new.self c.end_old_session.new.sessions in
    let after = received_side old.hub c.receive.new.self old.sessions c.end_old_session.new.sessions frame finished
    c.seen_of-seen.result c.self.invariant step.after seen_is c.end_old_session.ensures in
    let done : IsDone (side_of old.hub old.sessions) (ByHub (of_hub.Receive frame finished))
    (OfHub (of_hub.Heard frame.number)) new = record {
      free = c.in-Ok.ensures.0;
      asked = tt;
      answered = ap OfHub (heard_answer old.hub.state frame frame.body c.requires);
      after = after;
    } in
    subst (λ (s : HubWithSessions).
    (hub_refusal s.server s.hub (of_hub.Receive frame finished) ≡ None)
    × IsDone s (ByHub (of_hub.Receive frame finished)) (OfHub (of_hub.Heard frame.number)) new)
    c.self.view_is (c.in-Ok.ensures.0, done)
