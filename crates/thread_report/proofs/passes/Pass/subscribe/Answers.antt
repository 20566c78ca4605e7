use Rattle.shard_core.specs.Answers.{answer_of}
use Rattle.node_law.specs.declared.events.ConnEvent.TheVariants as of_conn
use Rattle.node_law.specs.declared.events.NodeEvent.TheVariants.{Own}
use Rattle.node_law.specs.declared.events.OwnEvent.TheVariants as own
use Rattle.node_threads.specs.Tapes.{told_of}
use Rattle.thread_report.proofs.Telling.{shard_gains}
use Rattle.thread_report.proofs.passes.Pass.subscribe.Goals as goal

pub returns-clause-told : goal.returns-clause-told
returns-clause-told g c =
    let e = Own (own.OfConn c.args.conn (of_conn.Subscribe c.args.key c.args.sid)) in
    let made = c.tell_shard in
    let told = made.ensures.told e (λ done. told_of (answer_of done)) c.in_ok-event.ensures c.told_subscribed.ensures in
    shard_gains c.keeps_tapes-keep.result g.N.NodeName.keep c.args.shard e (λ done. told_of (answer_of done))
    made.result c.args.self.now.calls c.enter_conn.new.self.calls made.new.self.calls c.keeps_tapes-keep.ensures
    c.in_ok-locked.ensures.same told
