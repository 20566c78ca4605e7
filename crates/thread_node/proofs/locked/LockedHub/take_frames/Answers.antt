use Rattle.std.proofs.Common.{refl, subst}
use Rattle.std.specs.Prelude.{length}
use Rattle.hub_core.specs.Events as of_hub
use Rattle.hub_core.specs.Steps.{hub_refusal}
use Rattle.node_law.specs.declared.faults.NodeFault.TheVariants.{Hub}
use Rattle.node_parts.specs.Sides.{ByHub, OfHub}
use Rattle.thread_node.specs.Told.{HubNotes}
use Rattle.thread_node.specs.declared.hub_entries.HubEvent.TheVariants as event
use Rattle.thread_node.specs.declared.hub_entries.HubTold.TheVariants as told
use Rattle.thread_node.proofs.Telling.{hub_answered}
use Rattle.thread_node.proofs.locked.LockedHub.take_frames.Goals as goal

pub invariant_of-self : goal.invariant_of-self
invariant_of-self g c =
    let s = c.self.inside in
    let i = c.self.invariant in
    let asks = of_hub.TakeFrom c.args.peer c.args.count in
    let cause = hub_refusal s.state.side.server s.state.side.hub asks in
    let named = event.TakeFrames c.args.peer c.args.count in
    let more = c.note_hub.new.tape in
    let noted =
    subst (λ said. HubNotes named said s.tape more) c.told_frames-told.ensures (c.note_hub.ensures named refl) in (
      i.0,
      hub_answered s.state c.take_frames-done.new.self (ByHub asks) named (λ frames. OfHub (of_hub.Taken frames.items))
          (λ frames. told.Taken (length frames.items)) (λ fault. Hub fault) cause c.take_frames-done.result s.tape more
          i.1 tt refl refl (λ x. refl) (λ x. refl) c.take_frames-done.ensures noted,
    )
