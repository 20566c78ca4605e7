use Rattle.node_law.specs.declared.events.NodeEvent.TheVariants.{Own}
use Rattle.node_law.specs.declared.events.OwnEvent.TheVariants as own
use Rattle.node_law.specs.declared.events.ShardWork.TheVariants as work
use Rattle.node_threads.specs.declared.shard_entries.ShardTold.TheVariants as shard_told
use Rattle.thread_report.proofs.Telling.{shard_gains}
use Rattle.thread_report.proofs.passes.Pass.attach.Goals as goal

pub returns-clause-told : goal.returns-clause-told
returns-clause-told g c =
    let e = Own (own.AtShard c.args.shard work.Attach) in
    let made = c.tell_shard in
    let told =
    made.ensures.told e (λ conn. shard_told.Attached conn) c.event_if-event.ensures c.told_attached.ensures in
    shard_gains c.keeps_tapes-keep.result g.N.NodeName.keep c.args.shard e (λ conn. shard_told.Attached conn)
    made.result c.args.self.now.calls c.enter_shard.new.self.calls made.new.self.calls c.keeps_tapes-keep.ensures
    c.in_ok-locked.ensures.same told
