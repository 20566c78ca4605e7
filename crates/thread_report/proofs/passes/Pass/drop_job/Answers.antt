use Rattle.std.specs.Prelude.{Some}
use Rattle.node_law.specs.declared.events.NodeEvent.TheVariants.{Own}
use Rattle.node_law.specs.declared.events.OwnEvent.TheVariants as own
use Rattle.node_law.specs.declared.events.ShardWork.TheVariants as work
use Rattle.node_threads.specs.declared.shard_entries.ShardTold.TheVariants as shard_told
use Rattle.thread_report.proofs.Telling.{shard_gains}
use Rattle.thread_report.proofs.passes.Pass.drop_job.Goals as goal

pub returns-clause-told : goal.returns-clause-told
returns-clause-told g c =
    let e = Own (own.AtShard c.args.shard work.DropJob) in
    let made = c.tell_shard in
    let told =
    made.ensures.told e (λ turn. shard_told.Dropped (Some turn)) c.event_if-event.ensures c.told_dropped.ensures in
    shard_gains c.keeps_tapes-keep.result g.N.NodeName.keep c.args.shard e (λ turn. shard_told.Dropped (Some turn))
    made.result c.args.self.now.calls c.enter_shard.new.self.calls made.new.self.calls c.keeps_tapes-keep.ensures
    c.in_ok-locked.ensures.same told
