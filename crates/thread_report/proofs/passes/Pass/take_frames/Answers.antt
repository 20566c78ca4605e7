use Rattle.std.proofs.Common.{[], ◌∙◌}
use Rattle.std.specs.Option.{option_map}
use Rattle.std.specs.Prelude.{length}
use Rattle.node_law.specs.declared.events.NodeEvent.TheVariants.{Own}
use Rattle.node_law.specs.declared.events.OwnEvent.TheVariants as own
use Rattle.node_law.specs.declared.faults.NodeFault.TheVariants as fault
use Rattle.thread_node.specs.declared.hub_entries.HubTold.TheVariants as hub_told
use Rattle.thread_report.specs.HubAnswers.{frame_lists}
use Rattle.thread_report.specs.Owed.{failed_by_hub}
use Rattle.thread_report.specs.declared.passes.CallAnswer.TheVariants.{Hub}
use Rattle.thread_report.proofs.Telling.{hub_lists_told, list_gains, parted_told}
use Rattle.thread_report.proofs.passes.Pass.take_frames.Goals as goal

pub returns : goal.returns
returns g c =
    let e = Own (own.TakeFrames c.args.peer c.args.count) in
    let parted = c.part_list-frames in
    let list = parted.result.0.items in
    let rest = parted.result.1 in
    let says = c.of_hub.ensures
    ∙ (λ k. option_map (λ t. Hub t (c.of_frames-lists.ensures k)) (c.told_frames-told.ensures k))
    ∙ parted_told (λ frames. frames.items) (λ _. tt) [] (λ why. hub_told.Refused (fault.Hub why))
    (λ _ l. hub_told.Taken (length l)) (λ t l. Hub t (frame_lists l)) c.take_frames-done.result list rest parted.ensures
    ∙ hub_lists_told (λ _. Hub (hub_told.Taken (length list)) (frame_lists list)) rest in
    let told =
    list_gains c.keeps_tapes-keep.result g.N.NodeName.keep 0 e failed_by_hub
    (λ _ l. Hub (hub_told.Taken (length l)) (frame_lists l)) list rest c.of_hub.result c.args.self.now.calls
    c.enter_hub.new.self.calls c.tell.new.self.calls c.keeps_tapes-keep.ensures c.in_ok-hub.ensures.same says
    (c.tell.ensures e c.event_if-event.ensures) in
    record { told = told }
