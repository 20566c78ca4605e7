use Rattle.std.proofs.Common.{refl, subst}
use Rattle.shard_core.specs.Answers.{answer_of}
use Rattle.shard_core.specs.ShardEvents as of_shard
use Rattle.node_threads.specs.declared.shard_entries.ShardEvent.TheVariants as event
use Rattle.thread_node.specs.Told.{ShardNotes}
use Rattle.thread_node.proofs.Telling.{tape_answered}
use Rattle.thread_node.proofs.locked.LockedShard.subscribe.Goals as goal

pub invariant_of-self : goal.invariant_of-self
invariant_of-self g c =
    let s = c.self.inside in
    let i = c.self.invariant in
    let asks = of_shard.Subscribe c.args.conn c.args.key c.args.sid in
    let named = event.Subscribe c.args.conn c.args.key c.args.sid in
    let more = c.note_shard.new.tape in
    let noted = subst (λ told. ShardNotes named told s.tape more) c.told_subscribed-told.ensures
    (c.note_shard.ensures named c.subscribe_event-event.ensures) in (
      i.0,
      tape_answered g.N.NodeName.race.shards s.state c.subscribe-done.new.self asks named (λ done. answer_of done)
          c.subscribe-done.result s.tape more i.1 refl (λ a. refl) c.subscribe-done.ensures noted,
    )
