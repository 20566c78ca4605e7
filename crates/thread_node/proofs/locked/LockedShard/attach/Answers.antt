use Rattle.std.proofs.Common.{refl, subst}
use Rattle.shard_core.specs.ShardEvents as of_shard
use Rattle.node_threads.specs.declared.shard_entries.ShardEvent.TheVariants as event
use Rattle.thread_node.specs.Told.{ShardNotes}
use Rattle.thread_node.proofs.Telling.{tape_answered}
use Rattle.thread_node.proofs.locked.LockedShard.attach.Goals as goal

pub invariant_of-self : goal.invariant_of-self
invariant_of-self g c =
    let s = c.self.inside in
    let i = c.self.invariant in
    let asks = of_shard.Attach in
    let named = event.Attach in
    let more = c.note_shard.new.tape in
    let noted = subst (λ told. ShardNotes named told s.tape more) c.told_attached-told.ensures
    (c.note_shard.ensures named refl) in (
      i.0,
      tape_answered g.N.NodeName.race.shards s.state c.attach-done.new.self asks named (λ conn. of_shard.Attached conn)
          c.attach-done.result s.tape more i.1 refl (λ a. refl) c.attach-done.ensures noted,
    )
