use Rattle.std.proofs.Common.{[], ◌∙◌, refl}
use Rattle.std.specs.Option.{option_map}
use Rattle.std.specs.Prelude.{length}
use Rattle.node_law.specs.declared.events.ConnEvent.TheVariants as of_conn
use Rattle.node_law.specs.declared.events.NodeEvent.TheVariants.{Own}
use Rattle.node_law.specs.declared.events.OwnEvent.TheVariants as own
use Rattle.node_threads.specs.declared.shard_entries.ShardTold.TheVariants as shard_told
use Rattle.thread_report.specs.Owed.{by_server, failed_by}
use Rattle.thread_report.specs.ShardAnswers.{closed_lists}
use Rattle.thread_report.specs.declared.passes.CallAnswer.TheVariants.{Shard}
use Rattle.thread_report.proofs.Telling.{list_gains, parted_told}
use Rattle.thread_report.proofs.passes.Pass.reply.Goals as goal

pub returns-clause-told : goal.returns-clause-told
returns-clause-told g c =
    let e = Own (own.OfConn c.args.conn (of_conn.Reply c.args.frame.now)) in
    let parted = c.part_reply-ended in
    let list = parted.result.0.items in
    let says = c.of_shard.ensures
    ∙ (λ k. option_map (λ t. Shard t (c.of_closed-lists.ensures k)) (c.told_replied-told.ensures k))
    ∙ parted_told (λ closed. closed.ended.items) (λ closed. closed.shut) [] (λ why. shard_told.Refused why)
    (λ shut l. shard_told.Replied shut (length l)) (λ t l. Shard t (closed_lists l)) c.reply-done.result list
    parted.result.1 parted.ensures in
    let made = c.tell_lists in
    let told = made.ensures.told e (λ shut. Shard (shard_told.Replied shut (length list)) (closed_lists list))
    c.in_ok-event.ensures says in
    list_gains c.keeps_tapes-keep.result g.N.NodeName.keep c.args.shard e failed_by
    (λ shut l. Shard (shard_told.Replied shut (length l)) (closed_lists l)) list made.result
    (by_server (λ shut. Shard (shard_told.Replied shut (length list)) (closed_lists list)) made.result)
    c.args.self.now.calls c.enter_conn.new.self.calls made.new.self.calls c.keeps_tapes-keep.ensures
    c.in_ok-locked.ensures.same refl told
