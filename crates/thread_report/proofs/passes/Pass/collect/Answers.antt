use Rattle.std.proofs.Common.{ℕ, List, [], sym, ap, ◌∙◌}
use Rattle.std.specs.Option.{option_map}
use Rattle.std.specs.Prelude.{length}
use Rattle.interest.specs.declared.changes.Change.{Change}
use Rattle.node_law.specs.declared.events.NodeEvent.TheVariants.{Own}
use Rattle.node_law.specs.declared.events.OwnEvent.TheVariants as own
use Rattle.node_law.specs.declared.faults.NodeFault.TheVariants as fault
use Rattle.thread_node.specs.declared.hub_entries.HubTold.TheVariants as hub_told
use Rattle.thread_report.specs.HubAnswers.{collected_lists}
use Rattle.thread_report.specs.Owed.{by_server, failed_by}
use Rattle.thread_report.specs.declared.passes.CallAnswer.TheVariants.{Hub}
use Rattle.thread_report.proofs.Telling.{list_gains, parted_told, server_lists_told}
use Rattle.thread_report.proofs.passes.Pass.collect.Goals as goal

pub returns-clause-told : goal.returns-clause-told
returns-clause-told g c =
    let e = Own (own.Collect c.args.shard) in
    let parted = c.part_collect-collected in
    let lists : List Change × List ℕ = (parted.result.0.changes.items, parted.result.0.cut.items) in
    let rest = parted.result.1 in
    let answer = Hub (hub_told.Collected (length lists.0) (length lists.1)) (collected_lists lists) in
    let says = c.of_hub.ensures
    ∙ (λ k. option_map (λ t. Hub t (c.of_collect-lists.ensures k)) (c.told_collected-told.ensures k))
    ∙ parted_told {A = List Change × List ℕ} (λ told. (told.changes.items, told.cut.items)) (λ _. tt) ([], [])
    (λ why. hub_told.Refused (fault.Hub why)) (λ _ l. hub_told.Collected (length l.0) (length l.1))
    (λ t l. Hub t (collected_lists l)) c.collect-done.result lists rest parted.ensures
    ∙ server_lists_told (λ _. answer) rest
    ∙ ap (by_server (λ _. answer)) (sym c.answered_by_hub.ensures.same) in
    list_gains c.keeps_tapes-keep.result g.N.NodeName.keep 0 e failed_by
    (λ _ l. Hub (hub_told.Collected (length l.0) (length l.1)) (collected_lists l)) lists c.answered_by_hub.result
    c.of_hub.result c.args.self.now.calls c.enter_shard.new.self.calls c.tell.new.self.calls c.keeps_tapes-keep.ensures
    c.in_ok-of_shard.ensures.same says (c.tell.ensures e c.event_if-event.ensures)
