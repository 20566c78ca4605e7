use Rattle.std.proofs.Common.{◌≡◌, refl, subst}
use Rattle.route_session.specs.Events as of_sessions
use Rattle.route_session.specs.Steps.{session_refusal}
use Rattle.node_law.specs.declared.faults.NodeFault.TheVariants.{Session}
use Rattle.node_parts.specs.Sides.{BySessions, OfSessions}
use Rattle.node_threads.specs.AtHub.{Does}
use Rattle.thread_node.specs.Told.{HubNotes, of_decision}
use Rattle.thread_node.specs.declared.hub_entries.HubEvent.TheVariants as event
use Rattle.thread_node.specs.declared.hub_entries.HubTold.TheVariants as told
use Rattle.thread_node.proofs.Telling.{answered_so, hub_answered}
use Rattle.thread_node.proofs.locked.LockedHub.cut.Goals as goal

pub invariant_of-self : goal.invariant_of-self
invariant_of-self g c =
    let s = c.self.inside in
    let i = c.self.invariant in
    let asks = of_sessions.Cut c.args.session in
    let cause = session_refusal s.state.side.server s.state.side.sessions asks in
    let named = event.Cut c.args.session in
    let more = c.note_hub.new.tape in
    let noted =
    subst (λ said. HubNotes named said s.tape more) c.told_cut-told.ensures (c.note_hub.ensures named refl) in
    let v = c.cut-done.new.self in
    let answered = answered_so cause (λ peer. Does s.state (BySessions asks) (OfSessions (of_sessions.WasCut peer)) v)
    (v ≡ s.state) c.cut-done.result c.cut-done.ensures in (
      i.0,
      hub_answered s.state c.cut-done.new.self (BySessions asks) named (λ peer. OfSessions (of_sessions.WasCut peer))
          (λ peer. told.WasCut peer) (λ fault. Session fault) cause (of_decision c.cut-done.result) s.tape more i.1 tt
          refl refl (λ x. refl) (λ x. refl) answered noted,
    )
