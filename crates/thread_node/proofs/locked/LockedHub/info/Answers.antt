use Rattle.std.proofs.Common.{refl, subst}
use Rattle.route_session.specs.Events as of_sessions
use Rattle.route_session.specs.Steps.{session_refusal}
use Rattle.node_law.specs.declared.faults.NodeFault.TheVariants.{Session}
use Rattle.node_parts.specs.Sides.{BySessions, OfSessions, seen_name}
use Rattle.thread_node.specs.Told.{HubNotes}
use Rattle.thread_node.specs.declared.hub_entries.HubEvent.TheVariants as event
use Rattle.thread_node.specs.declared.hub_entries.HubTold.TheVariants as told
use Rattle.thread_node.proofs.Telling.{hub_answered}
use Rattle.thread_node.proofs.locked.LockedHub.info.Goals as goal

pub invariant_of-self : goal.invariant_of-self
invariant_of-self g c =
    let s = c.self.inside in
    let i = c.self.invariant in
    let asks = of_sessions.OnInfo c.args.session c.args.info.now (seen_name s.state.side c.args.info.now.server_name) in
    let cause = session_refusal s.state.side.server s.state.side.sessions asks in
    let named = event.Info c.args.session c.args.info.now in
    let more = c.note_hub.new.tape in
    let noted =
    subst (λ said. HubNotes named said s.tape more) c.told_info-told.ensures (c.note_hub.ensures named refl) in (
      i.0,
      hub_answered s.state c.info-done.new.self (BySessions asks) named
          (λ kept. OfSessions (of_sessions.KeptAfterInfo kept.0.instead_of kept.1))
          (λ kept. told.KeptAfterInfo kept.0.instead_of kept.1) (λ fault. Session fault) cause c.info-done.result s.tape
          more i.1 refl refl refl (λ x. refl) (λ x. refl) c.info-done.ensures noted,
    )
