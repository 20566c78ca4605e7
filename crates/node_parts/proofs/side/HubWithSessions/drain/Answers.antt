use Rattle.std.proofs.Common.{◌≡◌, None, subst}
use Rattle.hub_core.specs.Events as of_hub
use Rattle.hub_core.specs.Steps.{hub_refusal}
use Rattle.hub_core.specs.Telling.{drain_frames}
use Rattle.node_parts.specs.Sides.{HubWithSessions, ByHub, OfHub, IsDone}
use Rattle.node_parts.proofs.Sides.{side_of, drain_done, collect_stays}
use Rattle.node_parts.proofs.side.HubWithSessions.drain.Goals as goal

pub invariant_of-self-2 : goal.invariant_of-self-2
invariant_of-self-2 c =
    let old = c.self.inside in
    collect_stays old.hub c.drain.new.self old.sessions c.drop_sessions.new.sessions of_hub.Drain
    (of_hub.Drained (drain_frames old.hub.server old.hub.state) c.in-Ok.cut.items) c.deref.result.now c.self.invariant
    c.in-Ok.ensures.1 c.drop_sessions.ensures

pub returns : goal.returns
returns c =
    let old = c.self.inside in
    let cut = c.in-Ok.cut.items in
    let done = drain_done old.hub c.drain.new.self old.sessions c.drop_sessions.new.sessions cut c.deref.result.now
    c.in-Ok.ensures.0 c.in-Ok.ensures.1 c.deref.ensures.value c.drop_sessions.ensures in
    subst (λ (s : HubWithSessions).
    (hub_refusal s.server s.hub of_hub.Drain ≡ None)
    × IsDone s (ByHub of_hub.Drain) (OfHub (of_hub.Drained (drain_frames s.server s.hub) cut))
    (side_of c.drain.new.self c.drop_sessions.new.sessions))
    c.self.view_is (done.free, done)
