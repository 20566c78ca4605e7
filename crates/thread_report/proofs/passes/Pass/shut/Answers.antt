use Rattle.std.specs.Prelude.{length}
use Rattle.node_law.specs.declared.events.ConnEvent.TheVariants as of_conn
use Rattle.node_law.specs.declared.events.NodeEvent.TheVariants.{Own}
use Rattle.node_law.specs.declared.events.OwnEvent.TheVariants as own
use Rattle.node_threads.specs.declared.shard_entries.ShardTold.TheVariants as shard_told
use Rattle.thread_report.specs.Owed.{failed_by}
use Rattle.thread_report.specs.ShardAnswers.{closed_lists}
use Rattle.thread_report.specs.declared.passes.CallAnswer.TheVariants.{Shard}
use Rattle.thread_report.proofs.Telling.{list_gains_from}
use Rattle.thread_report.proofs.passes.Pass.shut.Goals as goal

pub returns-clause-told : goal.returns-clause-told
returns-clause-told g c =
    let e = Own (own.OfConn c.args.conn (of_conn.Shut c.args.text)) in
    let made = c.tell_closed in
    list_gains_from c.keeps_tapes-keep.result g.N.NodeName.keep c.args.shard e failed_by
    (λ _ l. Shard (shard_told.WasShut (length l)) (closed_lists l)) made.result c.args.self.now.calls
    c.enter_conn.new.self.calls made.new.self.calls c.keeps_tapes-keep.ensures c.in_ok-locked.ensures.same
    (made.ensures.told e (λ n. shard_told.WasShut n) c.conn_event_if-event.ensures c.told_shut.ensures)
