use Rattle.std.proofs.Common.{refl, subst}
use Rattle.std.specs.Prelude.{length}
use Rattle.hub_core.specs.Telling.{drain_frames}
use Rattle.hub_core.specs.Events as of_hub
use Rattle.hub_core.specs.Steps.{hub_refusal}
use Rattle.node_law.specs.declared.faults.NodeFault.TheVariants.{Hub}
use Rattle.node_parts.specs.Sides.{ByHub, OfHub}
use Rattle.thread_node.specs.Told.{HubNotes}
use Rattle.thread_node.specs.declared.hub_entries.HubEvent.TheVariants as event
use Rattle.thread_node.specs.declared.hub_entries.HubTold.TheVariants as told
use Rattle.thread_node.proofs.Telling.{hub_answered}
use Rattle.thread_node.proofs.locked.LockedHub.drain.Goals as goal

pub invariant_of-self : goal.invariant_of-self
invariant_of-self g c =
    let s = c.self.inside in
    let i = c.self.invariant in
    let asks = of_hub.Drain in
    let cause = hub_refusal s.state.side.server s.state.side.hub asks in
    let named = event.Drain in
    let more = c.note_hub.new.tape in
    let noted =
    subst (λ said. HubNotes named said s.tape more) c.told_hub_drained-told.ensures (c.note_hub.ensures named refl) in (
      i.0,
      hub_answered s.state c.drain-done.new.self (ByHub asks) named
          (λ cut. OfHub (of_hub.Drained (drain_frames s.state.side.server s.state.side.hub) cut.items))
          (λ cut. told.Collected 1 (length cut.items)) (λ fault. Hub fault) cause c.drain-done.result s.tape more i.1 tt
          refl refl (λ x. refl) (λ x. refl) c.drain-done.ensures noted,
    )
