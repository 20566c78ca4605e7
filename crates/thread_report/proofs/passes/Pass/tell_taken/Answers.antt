use Rattle.std.proofs.Common.{[], ◌∙◌, refl}
use Rattle.std.specs.Option.{option_map}
use Rattle.std.specs.Prelude.{length}
use Rattle.node_threads.specs.declared.shard_entries.ShardTold.TheVariants as shard_told
use Rattle.thread_report.specs.Owed.{by_server, failed_by}
use Rattle.thread_report.specs.ShardAnswers.{taken_lists}
use Rattle.thread_report.specs.declared.passes.CallAnswer.TheVariants.{Shard}
use Rattle.thread_report.proofs.Telling.{list_gains, parted_told}
use Rattle.thread_report.proofs.passes.Pass.tell_taken.Goals as goal

pub returns-clause-told : goal.returns-clause-told
returns-clause-told g c = λ e asked said.
    let parted = c.part_list-entries in
    let list = parted.result.0.items in
    let says = c.of_shard.ensures
    ∙ (λ k. option_map (λ t. Shard t (c.of_taken-lists.ensures k)) (said k))
    ∙ parted_told (λ list. list.items) (λ _. tt) [] (λ why. shard_told.Refused why) (λ _ l. shard_told.Taken (length l))
    (λ t l. Shard t (taken_lists l)) c.args.done list parted.result.1 parted.ensures in
    let made = c.tell_lists in
    list_gains c.args.keep c.args.keep c.args.shard e failed_by
    (λ _ l. Shard (shard_told.Taken (length l)) (taken_lists l)) list made.result
    (by_server (λ _. Shard (shard_told.Taken (length list)) (taken_lists list)) made.result) c.args.self.now.calls
    c.args.self.now.calls made.new.self.calls refl refl refl
    (made.ensures.told e (λ _. Shard (shard_told.Taken (length list)) (taken_lists list)) asked says)
