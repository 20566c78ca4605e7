use Rattle.std.proofs.Common.{◌≡◌, None, subst}
use Rattle.hub_core.specs.Events as of_hub
use Rattle.hub_core.specs.Steps.{hub_refusal}
use Rattle.hub_core.specs.Telling.{collect_frames}
use Rattle.node_parts.specs.Sides.{HubWithSessions, ByHub, OfHub, IsDone}
use Rattle.node_parts.proofs.Sides.{side_of, collect_done, collect_stays}
use Rattle.node_parts.proofs.side.HubWithSessions.collect.Goals as goal

pub invariant_of-self-2 : goal.invariant_of-self-2
invariant_of-self-2 c =
    let old = c.self.inside in
    let told = c.in-Ok.told in
    let deltas = c.args.deltas.now in
    collect_stays old.hub c.tell.new.hub old.sessions c.drop_sessions.new.sessions (of_hub.Collect c.args.shard deltas)
    (of_hub.Collected told.changes.items (collect_frames old.hub.server old.hub.state deltas) told.cut.items)
    c.deref.result.now c.self.invariant c.in-Ok.ensures.1 c.drop_sessions.ensures

pub returns : goal.returns
returns c =
    let old = c.self.inside in
    let told = c.in-Ok.told in
    let deltas = c.args.deltas.now in
    let done = collect_done old.hub c.tell.new.hub old.sessions c.drop_sessions.new.sessions c.args.shard deltas
    told.changes.items told.cut.items c.deref.result.now c.in-Ok.ensures.0 c.in-Ok.ensures.1 c.deref.ensures.value
    c.drop_sessions.ensures in
    subst (λ (s : HubWithSessions).
    (hub_refusal s.server s.hub (of_hub.Collect c.args.shard deltas) ≡ None)
    × IsDone s (ByHub (of_hub.Collect c.args.shard deltas))
    (OfHub (of_hub.Collected told.changes.items (collect_frames s.server s.hub deltas) told.cut.items))
    (side_of c.tell.new.hub c.drop_sessions.new.sessions))
    c.self.view_is (done.free, done)
