use Rattle.std.proofs.Common.{refl, subst}
use Rattle.route_session.specs.Events as of_sessions
use Rattle.route_session.specs.Steps.{session_refusal}
use Rattle.node_law.specs.declared.faults.NodeFault.TheVariants.{Session}
use Rattle.node_parts.specs.Sides.{BySessions, OfSessions}
use Rattle.thread_node.specs.Told.{HubNotes}
use Rattle.thread_node.specs.declared.hub_entries.HubEvent.TheVariants as event
use Rattle.thread_node.specs.declared.hub_entries.HubTold.TheVariants as told
use Rattle.thread_node.proofs.Telling.{hub_answered}
use Rattle.thread_node.proofs.locked.LockedHub.dial.Goals as goal

pub invariant_of-self : goal.invariant_of-self
invariant_of-self g c =
    let s = c.self.inside in
    let i = c.self.invariant in
    let asks = of_sessions.Dial c.args.peer in
    let cause = session_refusal s.state.side.server s.state.side.sessions asks in
    let named = event.Dial c.args.peer in
    let more = c.note_hub.new.tape in
    let noted =
    subst (λ said. HubNotes named said s.tape more) c.told_dialed-told.ensures (c.note_hub.ensures named refl) in (
      i.0,
      hub_answered s.state c.dial-done.new.self (BySessions asks) named
          (λ session. OfSessions (of_sessions.Dialed session)) (λ session. told.Dialed session) (λ fault. Session fault)
          cause c.dial-done.result s.tape more i.1 tt refl refl (λ x. refl) (λ x. refl) c.dial-done.ensures noted,
    )
