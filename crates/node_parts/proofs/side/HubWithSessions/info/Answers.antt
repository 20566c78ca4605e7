use Rattle.std.proofs.Common.{◌≡◌, ◌≤◌, Some, None, refl, sym, ap, ◌∙◌, subst}
use Rattle.hub_core.specs.Peers.{up}
use Rattle.hub_core.specs.State.{seen_of, peer_of}
use Rattle.hub_core.specs.Steps.{IsMeeting}
use Rattle.route_session.specs.Calls as calls
use Rattle.route_session.specs.Events as of_session
use Rattle.route_session.specs.Steps.{session_refusal}
use Rattle.node_parts.proofs.Greeting.{peer_is, same_name, same_seen, same_up, greets_peer, meets, info_free}
use Rattle.node_parts.specs.Sides.{HubWithSessions, BySessions, OfSessions, IsDone, seen_name}
use Rattle.node_parts.proofs.Sides.{side_of, greeted, greeted_stays}
use Rattle.node_parts.proofs.side.HubWithSessions.info.Goals as goal

pub unreachable-requires : goal.unreachable-requires
unreachable-requires c =
    let old = c.self.inside in
    let x = c.args.info.now in
    let same = c.self.invariant in
    let least_is : c.seen_of-least.result ≡ seen_of (peer_of old.hub.server old.hub.state x.server_name) =
    same_seen old.hub.server old.hub.state x.server_name c.server_name.result c.seen_of-least.result
    c.seen_of-least.ensures c.server_name.ensures in
    let free : calls.refusal old.sessions (of_session.OnInfo c.args.session x c.seen_of-least.result) ≡ None =
    sym c.info_fault.ensures ∙ c.in_default.is in
    let greets =
    info_free old.sessions old.hub.server old.hub.state c.args.session c.seen_of-least.result x same least_is free in
    let is : None ≡ calls.peer_of old.hub.server x.server_name = same_name old.hub.server c.server.result.now
    x.server_name c.server_name-2.result None c.peer_named.result c.in_default-peer_named.is c.peer_named.ensures
    c.server.ensures c.server_name-2.ensures in
    greets_peer old.hub.server x.server_name x.inc (seen_of (peer_of old.hub.server old.hub.state x.server_name)) greets
    is

pub plan_up-requires : goal.plan_up-requires
plan_up-requires c =
    let old = c.self.inside in
    let x = c.args.info.now in
    let is : Some c.in-Some-peer_named.place ≡ calls.peer_of old.hub.server x.server_name =
    same_name old.hub.server c.server.result.now x.server_name c.server_name-2.result (Some c.in-Some-peer_named.place)
    c.peer_named.result c.in-Some-peer_named.is c.peer_named.ensures c.server.ensures c.server_name-2.ensures in
    (peer_is old.hub.server x.server_name c.in-Some-peer_named.place is).peer

pub commit_up-requires-clause-meeting : goal.commit_up-requires-clause-meeting
commit_up-requires-clause-meeting c =
    let old = c.self.inside in
    let x = c.args.info.now in
    let same = c.self.invariant in
    let least_is : c.seen_of-least.result ≡ seen_of (peer_of old.hub.server old.hub.state x.server_name) =
    same_seen old.hub.server old.hub.state x.server_name c.server_name.result c.seen_of-least.result
    c.seen_of-least.ensures c.server_name.ensures in
    let free : calls.refusal old.sessions (of_session.OnInfo c.args.session x c.seen_of-least.result) ≡ None =
    sym c.info_fault.ensures ∙ c.in_default.is in
    let greets =
    info_free old.sessions old.hub.server old.hub.state c.args.session c.seen_of-least.result x same least_is free in
    let is : Some c.in-Some-peer_named.place ≡ calls.peer_of old.hub.server x.server_name =
    same_name old.hub.server c.server.result.now x.server_name c.server_name-2.result (Some c.in-Some-peer_named.place)
    c.peer_named.result c.in-Some-peer_named.is c.peer_named.ensures c.server.ensures c.server_name-2.ensures in
    let first : 1 ≤ x.inc = subst (λ i. 1 ≤ i) (c.get-life.ensures.same ∙ c.inc-inc.ensures) c.get-life.ensures.least in
    subst (λ i. IsMeeting old.hub.server old.hub.state c.in-Some-peer_named.place i) (sym c.inc-inc.ensures)
    (meets old.hub.server old.hub.state x.server_name x.inc c.in-Some-peer_named.place greets first is)

pub invariant_of-self : goal.invariant_of-self
invariant_of-self c =
    let old = c.self.inside in
    let x = c.args.info.now in
    let up = same_up old.hub c.commit_up.new.self c.in-Some-peer_named.place c.inc-inc.result x.inc
    c.commit_up.ensures.after c.inc-inc.ensures in
    greeted_stays old.hub c.commit_up.new.self old.sessions c.on_info.new.self
    (of_session.OnInfo c.args.session x c.seen_of-least.result)
    (of_session.KeptAfterInfo c.in-Ok-on_info.done.0.instead_of c.in-Ok-on_info.done.1) c.in-Some-peer_named.place x.inc
    c.self.invariant c.in-Ok-on_info.ensures.1 up

pub returns : goal.returns
returns c =
    let old = c.self.inside in
    let x = c.args.info.now in
    let same = c.self.invariant in
    let q = c.in-Some-peer_named.place in
    let least_is : c.seen_of-least.result ≡ seen_of (peer_of old.hub.server old.hub.state x.server_name) =
    same_seen old.hub.server old.hub.state x.server_name c.server_name.result c.seen_of-least.result
    c.seen_of-least.ensures c.server_name.ensures in
    let free : calls.refusal old.sessions (of_session.OnInfo c.args.session x c.seen_of-least.result) ≡ None =
    sym c.info_fault.ensures ∙ c.in_default.is in
    let is : Some q ≡ calls.peer_of old.hub.server x.server_name = same_name old.hub.server c.server.result.now
    x.server_name c.server_name-2.result (Some q) c.peer_named.result c.in-Some-peer_named.is c.peer_named.ensures
    c.server.ensures c.server_name-2.ensures in
    let up_is =
    same_up old.hub c.commit_up.new.self q c.inc-inc.result x.inc c.commit_up.ensures.after c.inc-inc.ensures in
    let here = side_of old.hub old.sessions in
    let e = of_session.OnInfo c.args.session x (seen_name here x.server_name) in
    let free' : calls.refusal old.sessions e ≡ None =
    subst (λ n. calls.refusal old.sessions (of_session.OnInfo c.args.session x n) ≡ None) least_is free in
    let step = subst (λ n.
    calls.DoesStep old.sessions (of_session.OnInfo c.args.session x n)
    (of_session.KeptAfterInfo c.in-Ok-on_info.done.0.instead_of c.in-Ok-on_info.done.1) c.on_info.new.self)
    least_is c.in-Ok-on_info.ensures.1 in
    let done = greeted old.hub c.commit_up.new.self old.sessions c.on_info.new.self e
    (of_session.KeptAfterInfo c.in-Ok-on_info.done.0.instead_of c.in-Ok-on_info.done.1) q x.inc same refl
    (ap (λ k. up old.hub.server old.hub.state k x.inc) (peer_is old.hub.server x.server_name q is).same) free' step
    up_is in
    let new = side_of c.commit_up.new.self c.on_info.new.self in
    subst (λ (s : HubWithSessions).
    (session_refusal s.server s.sessions (of_session.OnInfo c.args.session x (seen_name s x.server_name)) ≡ None)
    × IsDone s (BySessions (of_session.OnInfo c.args.session x (seen_name s x.server_name)))
    (OfSessions (of_session.KeptAfterInfo c.in-Ok-on_info.done.0.instead_of c.in-Ok-on_info.done.1)) new)
    c.self.view_is (done.free, done)
